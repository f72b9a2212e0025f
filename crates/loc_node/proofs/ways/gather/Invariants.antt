use Rattle.std.proofs.Common.{◌≡◌, filter, take}
use Rattle.loc_spec_plane.specs.Points.{lies_on}
use Rattle.loc_node.specs.Ways.{points_along}
use Rattle.loc_node.proofs.ways.gather.Given as goal

-- those of the points before that lie on the edge stand there
abbrev pub invariant-loop-k : goal.invariant-loop-k
invariant-loop-k l = l.found.items ≡ filter (lies_on l.edge) (take l.k (points_along l.order))
