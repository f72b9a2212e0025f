use Rattle.std.proofs.Common.{ℕ, ◌≤◌, take}
use Rattle.std.specs.Prelude.{count_by}
use Rattle.loc_valid.specs.Pinches.{same_pair}
use Rattle.loc_valid.proofs.pinches.first_thrice.Given as goal

abbrev pub invariant-loop-i : goal.invariant-loop-i
invariant-loop-i l = (x : ℕ × ℕ) → count_by (same_pair x) (take l.i l.pairs) ≤ 2
