use Rattle.std.proofs.Common.{ℕ, ◌≡◌, ◌<◌, get_or, None}
use Rattle.loc_verify.proofs.lists.least_other_floor.Given as goal

abbrev pub invariant-loop-corner : goal.invariant-loop-corner
invariant-loop-corner l = (n : ℕ) → n < l.corner → get_or l.legend.floors n None ≡ get_or l.floors n None
