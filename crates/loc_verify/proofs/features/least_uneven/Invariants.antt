use Rattle.std.proofs.Common.{ℕ, ◌<◌}
use Rattle.loc_spec_plane.specs.Tables.{IsEvenAt}
use Rattle.loc_verify.proofs.features.least_uneven.Given as goal

abbrev pub invariant-loop-corner : goal.invariant-loop-corner
invariant-loop-corner l = (m : ℕ) → m < l.corner → IsEvenAt l.table m
