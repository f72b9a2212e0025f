use Rattle.std.proofs.Common.{◌≡◌, ◌+◌, ◌-◌, ◌*◌, ◌^◌, ◌<◌, ◌≤◌, true, length}
use Rattle.loc_spec_plane.specs.{Points.before, Tables.corner}
use Rattle.loc_place.proofs.corners.search_corners.Given as goal

-- the corner before the low end comes before p, p comes before the corner at the high end, and each step halved what is left
abbrev pub invariant-loop-low : goal.invariant-loop-low
invariant-loop-low g l = record {
  in_order : l.low ≤ l.high;
  within : l.high ≤ length l.views.corners;
  passed : 0 < l.low → before (corner l.views (l.low - 1)) l.p ≡ true;
  ahead : l.high < length l.views.corners → before l.p (corner l.views l.high) ≡ true;
  counted : l.fn.steps ≤ l.steps;
  halved : 2 ^ (l.steps - l.fn.steps) * (l.high - l.low) ≤ length l.views.corners;
  halving : 2 ^ (l.steps - l.fn.steps) ≤ 2 * length l.views.corners + 1;
}

abbrev pub decreases-loop-low : goal.decreases-loop-low
decreases-loop-low g l = l.high - l.low
