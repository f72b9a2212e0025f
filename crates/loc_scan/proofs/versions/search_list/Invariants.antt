use Rattle.std.proofs.Common.{◌≡◌, ◌+◌, ◌-◌, ◌<◌, ◌≤◌, true, length, get_or}
use Rattle.loc_spec_plane.specs.{Points.is_above, Points.is_below, Tables.edge}
use Rattle.loc_scan.proofs.versions.search_list.Given as goal

-- p is above the edge before the low end and below the edge at the high end, and each edge left out took a step at most
abbrev pub invariant-loop-low : goal.invariant-loop-low
invariant-loop-low g l = record {
  in_order : l.low ≤ l.high;
  within : l.high ≤ length l.list;
  above : 0 < l.low → is_above (edge l.views (get_or l.list (l.low - 1) 0)) l.p ≡ true;
  below : l.high < length l.list → is_below (edge l.views (get_or l.list l.high 0)) l.p ≡ true;
  counted : l.fn.steps ≤ l.steps;
  steps : l.steps + l.high ≤ l.fn.steps + length l.list + l.low;
}

abbrev pub decreases-loop-low : goal.decreases-loop-low
decreases-loop-low g l = l.high - l.low
