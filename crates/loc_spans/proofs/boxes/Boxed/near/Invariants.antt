use Rattle.std.proofs.Common.{◌≤◌, ◌-◌, List, length}
use Rattle.loc_spec_plane.specs.Rings.{Rings}
use Rattle.loc_spans.specs.Boxes.{IsBoxed, IsIdle}
use Rattle.loc_spans.proofs.boxes.Boxed.near.Given as goal

-- the features of the boxes before neither touch nor cover the point
abbrev pub invariant-loop-k : goal.invariant-loop-k
invariant-loop-k l = record {
  past : l.from ≤ l.at;
  idle : (layer : List Rings) → IsBoxed layer l.self → IsIdle layer l.self.boxes l.p l.from l.at;
}

abbrev pub decreases-loop-k : goal.decreases-loop-k
decreases-loop-k l = length l.self.boxes - l.at
