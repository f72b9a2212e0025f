use Rattle.std.proofs.Common.{◌≡◌, ◌<◌, ◌≤◌, List, [], ◌∷◌, length, map, sym, ◌∙◌, ap, subst}
use Rattle.std.specs.{Prelude.find, Prelude.option_map, List.flat_map}
use Rattle.std.proofs.lemmas.List.{length-map}
use Rattle.loc_spec_plane.specs.Rings.{Ring, Rings}
use Rattle.loc_spec_plane.specs.Tables.{Table, cut_at, edge, edge_numbers, layer_corners, noded_table_of, piece_count, table_by}
use Rattle.loc_spec_valid.specs.Breaches.{feature_rings, is_twice, ring_table}
use Rattle.loc_laws_repeats.specs.Repeats.{IsFirstTwice}
use Rattle.loc_laws_valid.specs.Laws.{ring_pieces}
use Rattle.loc_laws_valid.proofs.{OneRing.all_segments, Twice.twice_by_pieces}
use Rattle.loc_rings.specs.Values.{unnamed}
use Rattle.loc_edges.specs.Layers.{layer_rings}
use Rattle.loc_node.specs.Pieces.{layer_pieces}
use Rattle.loc_spec_text.specs.Limits.{most_pieces}
use Rattle.loc_valid.proofs.PointRings.{lone_layer}
use Rattle.loc_valid.proofs.tables.table_of_rings.Goals as goal

pub returns-in-Ok-clause-table : goal.returns-in-Ok-clause-table
unfolding ring_table
returns-in-Ok-clause-table c = c.in-Ok.ensures.ok ∙ ap noded_table_of (ap layer_rings c.in_ok-layer.ensures ∙ lone_layer (feature_rings c.args.feature.now.polygons))

pub returns-in-Ok-clause-few : goal.returns-in-Ok-clause-few
returns-in-Ok-clause-few c = subst (λ layer. piece_count layer ≤ most_pieces) (ap layer_rings c.in_ok-layer.ensures ∙ lone_layer (feature_rings c.args.feature.now.polygons)) c.in-Ok.ensures.few

pub returns-in-Err-ManyPieces-clause-refused : goal.returns-in-Err-ManyPieces-clause-refused
returns-in-Err-ManyPieces-clause-refused c = subst (λ layer. most_pieces < piece_count layer) (ap layer_rings c.in_ok-layer.ensures ∙ lone_layer (feature_rings c.args.feature.now.polygons)) (rw c.in-Err-ManyPieces.field-0-is at c.in-Err-ManyPieces.ensures.refused)

pub returns-in-Ok-clause-as_many : goal.returns-in-Ok-clause-as_many
returns-in-Ok-clause-as_many c = ap length c.in_ok-layer.ensures ∙ length-map (feature_rings c.args.feature.now.polygons) (λ (ring : Ring). unnamed (ring ∷ []))

-- the pieces of the layer are those of the feature
pieces_are : (polygons : List Rings) → layer_pieces (map (λ ring. ring ∷ []) (feature_rings polygons)) ≡ ring_pieces polygons
unfolding ring_table table_by
pieces_are polygons = ap (flat_map (cut_at (layer_corners (map (λ ring. ring ∷ []) (feature_rings polygons))))) (all_segments (feature_rings polygons))

pub returns-in-Ok-clause-twice : goal.returns-in-Ok-clause-twice
unfolding ring_table
returns-in-Ok-clause-twice c =
    let polygons = c.args.feature.now.polygons in
    let layer_is = ap layer_rings c.in_ok-layer.ensures ∙ lone_layer (feature_rings polygons) in
    subst (λ (s : Table). option_map (edge s) (find (is_twice polygons s) (edge_numbers s)) ≡ c.in-Ok.twice) (sym (c.in-Ok.ensures.ok ∙ ap noded_table_of layer_is))
    (twice_by_pieces polygons c.in-Ok.twice (subst (λ es. IsFirstTwice es c.in-Ok.twice) (ap layer_pieces layer_is ∙ pieces_are polygons) c.in-Ok.ensures.repeat))
