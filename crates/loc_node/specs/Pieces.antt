-- The pieces of tagged segments, and why too many are refused. The words: `cut_tagged`, `placed_from`, `piece_before`, `with_feature`, `first_with`, `layer_pieces`, `IsRefused`.
use Rattle.std.specs.Prelude.{ℕ, ◌<◌, nat_lt, Bool, ◌&&◌, ◌||◌, List, map, find, unwrap_or, slice_index_or}
use Rattle.std.specs.List.{flat_map, list_any, enumerate_from}
use Rattle.loc_spec_text.specs.Limits.{most_pieces}
use Rattle.loc_spec_plane.specs.{Points.Edge, Points.edge_before, Points.same_edge, Rings.Rings}
use Rattle.loc_spec_plane.specs.Tables.{cut_at, layer_corners, layer_segments}
use Rattle.loc_edges.specs.Tagged.{tagged_by}
use Rattle.loc_node.specs.declared.fault.NodeFault.{NodeFault}
use Rattle.loc_node.specs.declared.fault.NodeFault.TheVariants.{ManyPieces, NoMemory}

-- the pieces into which tagged segments are cut, each with the feature of its segment
abbrev pub cut_tagged : (Edge → List Edge) → List (Edge × ℕ) → List (Edge × ℕ)
cut_tagged cut tagged = flat_map (λ (t : Edge × ℕ). tagged_by t.1 (cut t.0)) tagged

-- the segments, each with its place in place of its feature, where the first has this place
abbrev pub placed_from : ℕ → List (Edge × ℕ) → List (Edge × ℕ)
placed_from first tagged = map (λ (numbered : ℕ × (Edge × ℕ)). (numbered.1.0, numbered.0)) (enumerate_from first tagged)

-- pieces are ordered by their edges, and those of an edge by their numbers
abbrev pub piece_before : Edge × ℕ → Edge × ℕ → Bool
piece_before a b = edge_before a.0 b.0 || (same_edge a.0 b.0 && nat_lt a.1 b.1)

-- the piece with the feature of the segment at its place
abbrev pub with_feature : List (Edge × ℕ) → Edge × ℕ → Edge × ℕ
with_feature tagged p = (p.0, (slice_index_or tagged p.1 p).1)

-- the first of the segments that has the edge as a piece
abbrev pub first_with : (Edge → List Edge) → List Edge → Edge → Edge
first_with cut ss e = unwrap_or (find (λ s. list_any (same_edge e) (cut s)) ss) e

-- the pieces of all segments of a layer, each as often as it stands there
abbrev pub layer_pieces : List Rings → List Edge
layer_pieces layer = flat_map (cut_at (layer_corners layer)) (layer_segments layer)

-- why segments with so many pieces are refused; want of memory may come at any time
abbrev pub IsRefused : ℕ → NodeFault → Type 0
IsRefused count ManyPieces = most_pieces < count
IsRefused count NoMemory = Unit {0}
