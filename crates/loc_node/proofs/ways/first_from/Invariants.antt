use Rattle.std.proofs.Common.{◌≡◌, ℕ, ◌-◌, ◌<◌, ◌≤◌, true, false, get_or, length, ℤ}
use Rattle.loc_spec_plane.specs.Points.{Point}
use Rattle.loc_node.specs.Ways.{way_before}
use Rattle.loc_node.proofs.ways.first_from.Given as goal

-- what stands before the lower bound comes before the place, and what stands from the upper one on does not
abbrev pub invariant-loop-low : goal.invariant-loop-low
invariant-loop-low l = record {
  bounds : l.low ≤ l.high;
  within : l.high ≤ length l.order;
  passed : (k : ℕ) (d : ℤ × Point) → k < l.low → way_before (get_or l.order k d) l.place ≡ true;
  from : (k : ℕ) (d : ℤ × Point) → l.high ≤ k → k < length l.order → way_before (get_or l.order k d) l.place ≡ false;
}

abbrev pub decreases-loop-low : goal.decreases-loop-low
decreases-loop-low l = l.high - l.low
