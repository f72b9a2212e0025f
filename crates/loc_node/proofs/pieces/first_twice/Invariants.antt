use Rattle.std.proofs.Common.{◌≤◌, take}
use Rattle.std.specs.Prelude.{count_by}
use Rattle.loc_spec_plane.specs.Points.{Edge, same_edge}
use Rattle.loc_edges.specs.Tagged.{segments_in}
use Rattle.loc_node.proofs.pieces.first_twice.Given as goal

-- among the pieces before none stands more than once
abbrev pub invariant-loop-n : goal.invariant-loop-n
invariant-loop-n l = (x : Edge) → count_by (same_edge x) (take l.n (segments_in l.pieces)) ≤ 1
