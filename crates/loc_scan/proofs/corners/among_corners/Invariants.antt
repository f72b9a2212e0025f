use Rattle.std.proofs.Common.{◌≡◌, ℕ, ◌+◌, ◌<◌, true}
use Rattle.loc_spec_plane.specs.{Points.before, Tables.corner}
use Rattle.loc_scan.proofs.corners.among_corners.Given as goal

-- the corners looked at come before p, and each took one step
abbrev pub invariant-loop-corner : goal.invariant-loop-corner
invariant-loop-corner g l = record {
  passed : (c : ℕ) → c < l.corner → before (corner l.views c) l.p ≡ true;
  steps : l.steps ≡ l.fn.steps + l.corner;
}
