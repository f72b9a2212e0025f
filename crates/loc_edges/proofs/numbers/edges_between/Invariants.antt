use Rattle.std.proofs.Common.{◌≡◌, take, map}
use Rattle.loc_edges.specs.Parts.{edge_of_pair}
use Rattle.loc_edges.proofs.numbers.edges_between.Given as goal

-- the edges of the pairs before
abbrev pub invariant-loop-pair : goal.invariant-loop-pair
invariant-loop-pair l = l.edges.items ≡ map (edge_of_pair l.corners) (take l.pair-index l.ends)
