use Rattle.std.proofs.Common.{ℕ, ◌≡◌, ◌<◌, ◌≤◌, length, get_or, take, Some}
use Rattle.loc_verify.specs.Least.{is_odd_in}
use Rattle.loc_verify.proofs.Odd.{is_it}
use Rattle.loc_verify.proofs.features.least_odd.Given as goal

abbrev pub invariant-loop-feature : goal.invariant-loop-feature
invariant-loop-feature l = record {
  odd : (f : ℕ) → is_odd_in f (take l.feature-index l.row) ≡ is_it l.odd f;
  least : (g : ℕ) → l.odd ≡ Some g → (k : ℕ) → l.feature-index ≤ k → k < length l.row → g ≤ get_or l.row k 0;
}
