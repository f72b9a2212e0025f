use Rattle.std.proofs.Common.{◌-◌, ◌≡◌, ◌<◌, length, ◌≤◌, true, false, get_or}
use Rattle.loc_status.specs.Targets.{is_passed}
use Rattle.loc_status.proofs.search.search.Given as goal

-- the edge before the low end stands before the target, and the edge at the high end does not
abbrev pub invariant-loop-low : goal.invariant-loop-low
invariant-loop-low l = record {
  in_order : l.low ≤ l.high;
  within : l.high ≤ length l.list;
  passed : 0 < l.low → is_passed l.ranks l.target (get_or l.list (l.low - 1) 0) ≡ true;
  reached : l.high < length l.list → is_passed l.ranks l.target (get_or l.list l.high 0) ≡ false;
}

abbrev pub decreases-loop-low : goal.decreases-loop-low
decreases-loop-low l = l.high - l.low
