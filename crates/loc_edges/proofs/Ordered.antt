-- The table of a layer by its parts, as they are made one from another; and the plain table, which is small.
use Rattle.std.proofs.Common.{◌≡◌, ℕ, ◌^◌, ◌≤◌, List, length, map, sym, ◌∙◌, ap, arith}
use Rattle.loc_spec_plane.specs.{declared.Mark.Mark, Points.Point, Points.Edge, Points.edge_before, Lists.sorted_set}
use Rattle.loc_spec_plane.specs.Rings.{Rings}
use Rattle.loc_spec_plane.specs.Tables.{table_by, layer_corners, pieces_of, whole, edge_marks}
use Rattle.loc_laws_noding.specs.Laws.{IsCutting}
use Rattle.loc_laws_noding.proofs.Tables as laws
use Rattle.loc_edges.specs.{Kept.AreEdges, Kept.written_points, Layers.AreOfLayer, Parts.table_with, Small.IsSmallTable}
use Rattle.loc_edges.specs.Tagged.{features_of, marks_of, segments_in}
use Rattle.loc_edges.proofs.Counts.{few_corners, few_edges}
use Rattle.loc_edges.proofs.MarkRows.{marks_are as rows_are}

module _ (cut : Edge → List Edge) (layer : List Rings) where
  -- the table by its parts, as they are made from the lists of the layer
  pub table_is : (corners : List Point) (edges : List Edge) (ends sources : List (ℕ × ℕ)) (tagged : List (Edge × ℕ)) (marks : List (List Mark)) → AreOfLayer cut layer corners edges ends sources tagged → marks ≡ map marks_of (map (features_of tagged) (sorted_set edge_before (segments_in tagged))) → table_with corners ends marks sources ≡ table_by cut layer
  unfolding table_by
  table_is corners edges ends sources tagged marks of marks_are =
      let t = table_by cut layer in
      let marks_is : marks ≡ t.marks = marks_are ∙ (rows_are cut layer of.is_cutting tagged of.features (sorted_set edge_before (segments_in tagged)) ∙ ap (map (edge_marks cut layer)) of.distinct) in
      ap (λ ps. table_with ps ends marks sources) of.corners_are ∙ (ap (λ rows. table_with t.corners rows marks sources) of.ends_are ∙ (ap (λ rows. table_with t.corners t.ends rows sources) marks_is ∙ ap (table_with t.corners t.ends t.marks) of.sources_are))

  -- it has as many corners and edges as its parts
  pub table_is-small : (corners : List Point) (edges : List Edge) → corners ≡ layer_corners layer → edges ≡ pieces_of cut layer → length corners ≤ 2 ^ 20 → length edges ≤ 2 ^ 21 → IsSmallTable (table_by cut layer)
  unfolding table_by
  table_is-small corners edges corners_are edges_are few more = record {
    few_corners = omega (arith, ap length corners_are, few);
    few_edges = omega (arith, ap length edges_are, laws.as_many_ends cut layer, more);
  }

  -- its edges are the pieces
  pub table_is-edges : IsCutting (layer_corners layer) cut → AreEdges (table_by cut layer) (pieces_of cut layer)
  table_is-edges cuts = record { as_many = sym (laws.as_many_ends cut layer); are = laws.edge_is_piece cut layer cuts }

-- a layer has few corners and edges where it has few points
pub few_of_layer : (layer : List Rings) → length (written_points layer) ≤ 2 ^ 20 → (length (layer_corners layer) ≤ 2 ^ 20) × (length (pieces_of whole layer) ≤ 2 ^ 21)
few_of_layer layer few = (omega (arith, few_corners layer, few), omega (arith, few_edges layer, few))
