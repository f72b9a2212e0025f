-- What a table of numbers keeps beside its value: `AreEdges` and `IsKept`; and the points of a layer.
use Rattle.std.specs.Prelude.{◌≡◌, ℕ, ◌<◌, List, length, map, slice_index_or}
use Rattle.std.specs.List.{flat_map}
use Rattle.loc_spec_plane.specs.{Points.Point, Points.Edge, Rings.Rings}
use Rattle.loc_spec_plane.specs.Tables.{Table, IsTable, edge, corner_numbers}
use Rattle.loc_edges.specs.{Ending.AreFirsts, Ending.ending_among, Small.IsSmallTable}

-- the points of all rings, as often as they stand there
abbrev pub written_points : List Rings → List Point
written_points layer = flat_map (λ (rings : Rings). flat_map (λ ring. ring) rings) layer

-- these are the edges of the table by their points
pub record AreEdges (t : Table) (edges : List Edge) : Type 0 where
  pub as_many : length edges ≡ length t.ends
  pub are : (n : ℕ) (d : Edge) → n < length edges → slice_index_or edges n d ≡ edge t n

-- the rows of the table stand in order, it is small, and its edges and what begins and ends at each corner are those given
pub record IsKept (edges : List Edge) (firsts : List ℕ) (ending : List (List ℕ)) (t : Table) : Type 0 where
  pub small : IsSmallTable t
  pub is_table : IsTable t
  pub edges_are : AreEdges t edges
  pub firsts_are : AreFirsts t.ends (length t.corners) firsts
  pub ending_are : ending ≡ map (ending_among t.ends (length t.ends)) (corner_numbers t)
