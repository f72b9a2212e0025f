-- The table of a layer: by its marks it touches and covers what the layer does by its rings.
use Rattle.std.proofs.Common.{◌≡◌, ℕ, ◌≤◌, List, [], length, get_or, subst}
use Rattle.std.proofs.lemmas.List.{length-map}
use Rattle.loc_spec_plane.specs.{Points.Point, Rings.touches, Rings.covers, Covers.feature_count}
use Rattle.loc_spec_plane.specs.Tables.{IsTable, cut_at, layer_corners, noded_table_of, touches_by_marks, covers_by_marks}
use Rattle.loc_laws_noding.proofs.Noded.{cutting_noded}
use Rattle.loc_laws_noding.proofs.Tables as laws
use Rattle.loc_rings.specs.Values.{Feature, rings_of}
use Rattle.loc_edges.specs.Layers.{layer_rings}
use Rattle.loc_maps.specs.Located.{table_in}

pub is_table : (layer : List Feature) → IsTable (table_in layer)
unfolding table_in
is_table layer = laws.is_table (cut_at (layer_corners (layer_rings layer))) (layer_rings layer) (cutting_noded (layer_rings layer))

-- a feature touches by its marks what it touches by its rings
pub touches_is : (layer : List Feature) (f : ℕ) (p : Point) → touches_by_marks (table_in layer) f p ≡ touches (get_or (layer_rings layer) f []) p
unfolding table_in
touches_is layer f p = laws.touches_is (cut_at (layer_corners (layer_rings layer))) (layer_rings layer) (cutting_noded (layer_rings layer)) f p

-- and covers what it covers
pub covers_is : (layer : List Feature) (f : ℕ) (p : Point) → covers_by_marks (table_in layer) f p ≡ covers (get_or (layer_rings layer) f []) p
unfolding table_in
covers_is layer f p = laws.covers_is (cut_at (layer_corners (layer_rings layer))) (layer_rings layer) (cutting_noded (layer_rings layer)) f p

-- the table marks no more features than the layer has
pub few_features : (layer : List Feature) → feature_count (table_in layer) ≤ length layer
unfolding table_in
few_features layer =
    subst (λ n. feature_count (noded_table_of (layer_rings layer)) ≤ n) (length-map layer rings_of)
    (laws.few_features (cut_at (layer_corners (layer_rings layer))) (layer_rings layer))
