use Rattle.std.proofs.Common.{◌≡◌, ℕ, ◌<◌, length, get_or, Some, None}
use Rattle.loc_cover.proofs.covers.above_of.Given as goal

-- the edges before have their places
abbrev pub invariant-loop-number : goal.invariant-loop-number
invariant-loop-number l = record {
  as_many : length l.above.items ≡ l.number-index;
  each : (e n : ℕ) → e < l.number-index → get_or l.numbers e None ≡ Some n → get_or l.above.items e 0 ≡ get_or l.places n 0;
}
