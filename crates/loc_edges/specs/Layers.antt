-- A list of features as a layer, and the lists of which the table of a layer is made. The words: `layer_rings`, `AreOfLayer`.
use Rattle.std.specs.Prelude.{◌≡◌, ℕ, List, map}
use Rattle.std.specs.List.Sorted.{IsSortedBy}
use Rattle.loc_spec_plane.specs.{Points.Point, Points.Edge, Points.edge_before, Lists.sorted_set, Rings.Rings}
use Rattle.loc_spec_plane.specs.Tables.{layer_corners, numbered_ends, pieces_of, source_in}
use Rattle.loc_laws_noding.specs.Laws.{IsCutting}
use Rattle.loc_rings.specs.Values.{Feature, rings_of}
use Rattle.loc_edges.specs.Tagged.{segments_in, features_of, tagged_pieces}

-- the layer of the features: the rings of each
abbrev pub layer_rings : List Feature → List Rings
layer_rings features = map rings_of features

-- the corners of a layer, the edges into which its segments are cut, their ends and their sources by corner numbers, and the pieces in order, each with the number of its feature
pub record AreOfLayer (cut : Edge → List Edge) (layer : List Rings) (corners : List Point) (edges : List Edge) (ends sources : List (ℕ × ℕ)) (tagged : List (Edge × ℕ)) : Type 0 where
  pub is_cutting : IsCutting (layer_corners layer) cut
  pub corners_are : corners ≡ layer_corners layer
  pub edges_are : edges ≡ pieces_of cut layer
  pub ends_are : ends ≡ map (numbered_ends layer) (pieces_of cut layer)
  pub sources_are : sources ≡ map (λ (e : Edge). numbered_ends layer (source_in cut layer e)) (pieces_of cut layer)
  pub in_order : IsSortedBy edge_before (segments_in tagged)
  pub distinct : sorted_set edge_before (segments_in tagged) ≡ pieces_of cut layer
  pub features : (e : Edge) → features_of tagged e ≡ features_of (tagged_pieces cut 0 layer) e
