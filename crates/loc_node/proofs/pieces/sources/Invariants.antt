use Rattle.std.proofs.Common.{◌≡◌, List, map, take}
use Rattle.std.specs.{List.dedup, List.Sorted.IsPermutation}
use Rattle.loc_spec_plane.specs.Points.{Edge, same_edge}
use Rattle.loc_edges.specs.Tagged.{segments_in}
use Rattle.loc_node.specs.Pieces.{cut_tagged, first_with, placed_from}
use Rattle.loc_node.proofs.pieces.sources.Given as goal

-- the first segments of the edges of the pieces before stand there
abbrev pub invariant-loop-n : goal.invariant-loop-n
invariant-loop-n l = (cut : Edge → List Edge) → IsPermutation (cut_tagged cut (placed_from 0 l.tagged)) l.pieces → l.sources.items ≡ map (first_with cut (segments_in l.tagged)) (dedup same_edge (segments_in (take l.n l.pieces)))
