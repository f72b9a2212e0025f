use Rattle.std.proofs.Common.{ℕ, ◌<◌}
use Rattle.loc_spec_plane.specs.{Points.IsGridPoint, Tables.corner}
use Rattle.loc_write.proofs.facts.corners_on_grid.Given as goal

abbrev pub invariant-loop-number : goal.invariant-loop-number
invariant-loop-number l = (n : ℕ) → n < l.number → IsGridPoint (corner l.table n)
