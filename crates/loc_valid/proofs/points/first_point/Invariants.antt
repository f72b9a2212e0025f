use Rattle.std.proofs.Common.{◌≡◌, ℕ, ◌<◌, false}
use Rattle.loc_spec_valid.specs.Breaches.{is_point_ring}
use Rattle.loc_valid.proofs.points.first_point.Given as goal

abbrev pub invariant-loop-n : goal.invariant-loop-n
invariant-loop-n l = (k : ℕ) → k < l.n → is_point_ring l.rings k ≡ false
