use Rattle.std.proofs.Common.{◌≡◌, ◌≤◌, List, [], length, get_or, sym, ◌∙◌, ap, subst}
use Rattle.std.specs.Prelude.{IfOk}
use Rattle.loc_spec_plane.specs.Rings.{Rings}
use Rattle.loc_spec_plane.specs.Tables.{Table, NoConflict, noded_table_of, piece_count}
use Rattle.loc_spec_text.specs.Limits.{most_pieces}
use Rattle.loc_spec_valid.specs.Breaches.{part_count, polygon_table}
use Rattle.loc_edges.specs.Layers.{layer_rings}
use Rattle.loc_faces.specs.Subdivision.{face_at, next_at}
use Rattle.loc_valid.proofs.OneFeature.{one_polygon}
use Rattle.loc_valid.proofs.parts.parts_of.Goals as goal

pub parts_of_layer-requires-clause-one_layer : goal.parts_of_layer-requires-clause-one_layer
parts_of_layer-requires-clause-one_layer c = ap length c.in_ok-layer.ensures

pub parts_of_layer-requires-clause-few_pieces : goal.parts_of_layer-requires-clause-few_pieces
parts_of_layer-requires-clause-few_pieces c =
    subst (λ (rings : List Rings). piece_count rings ≤ most_pieces) (sym (ap layer_rings c.in_ok-layer.ensures ∙ one_polygon (get_or c.args.feature.now.polygons c.args.n []))) c.requires.few_pieces

pub parts_of_layer-requires-clause-apart : goal.parts_of_layer-requires-clause-apart
unfolding polygon_table
parts_of_layer-requires-clause-apart c =
    subst NoConflict (sym (ap noded_table_of (ap layer_rings c.in_ok-layer.ensures ∙ one_polygon (get_or c.args.feature.now.polygons c.args.n [])))) c.requires.apart

pub returns-clause-parts : goal.returns-clause-parts
unfolding polygon_table
returns-clause-parts c =
    subst (λ (t : Table). IfOk c.parts_of_layer.result (λ parts. parts ≡ part_count t (next_at t) (face_at t))) (ap noded_table_of (ap layer_rings c.in_ok-layer.ensures ∙ one_polygon (get_or c.args.feature.now.polygons c.args.n []))) c.parts_of_layer.ensures.parts

pub returns-clause-refused : goal.returns-clause-refused
returns-clause-refused c = c.parts_of_layer.ensures.refused
