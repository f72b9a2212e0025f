use Rattle.std.proofs.Common.{◌≡◌, take}
use Rattle.loc_spec_plane.specs.Tables.{neighbour_edges}
use Rattle.loc_node.proofs.finder.neighbours.Given as goal

abbrev pub invariant-loop-i : goal.invariant-loop-i
invariant-loop-i l = l.edges.items ≡ neighbour_edges (take l.i l.points)
