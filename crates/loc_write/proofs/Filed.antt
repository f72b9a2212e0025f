-- The bytes of a content of a table, a legend and versions are its file: every field is right.
use Rattle.std.proofs.Common.{◌≡◌, ℕ, ◌+◌, ◌*◌, ◌^◌, ◌<◌, ◌≤◌, true, false, List, [], length, map, get_or, refl, sym, ◌∙◌, subst, arith}
use Rattle.std.specs.{Prelude.None, Prelude.All, Prelude.sum_by, List.flat_map, Int.w32}
use Rattle.std.proofs.lemmas.List.{get_or_default}
use Rattle.loc_spec_plane.specs.{Lists.is_rising, Points.before, Points.IsGridPoint}
use Rattle.loc_spec_plane.specs.Covers.{feature_count, list_before}
use Rattle.loc_spec_plane.specs.Tables.{Table, IsTable, mark_before}
use Rattle.loc_spec_index.specs.{declared.NodeRow.NodeRow, Content.Content, Content.EdgeRow}
use Rattle.loc_spec_index.specs.IndexFile.{number, none_or_next, are_right, rows_from, parts, fields, bytes_of, header_fields, id_fields, corner_fields, edge_fields, edge_row_before, mark_fields, mark_row_before, cover_fields, node_fields, IsFileOf}
use Rattle.loc_laws_index.proofs.RightFields.{all-right, parts-right}
use Rattle.loc_laws_index.proofs.RightRows.{IsMarkIn, rising-chain}
use Rattle.loc_cover.specs.Legends.{LegendRows, FitsTable, IsSound}
use Rattle.loc_edges.specs.Small.{IsSmallTable}
use Rattle.loc_persist.specs.{Meaning.VersionsMeaning, Numbered.IsWithin}
use Rattle.loc_write.specs.Written.{content_of}
use Rattle.loc_write.proofs.{Lists.edge-at, Lists.length-edges, Ranges.floor-within, Spelling.length-marks}
use Rattle.loc_write.proofs.Right.{each-at, rows-right, flat-right, map-right, id-right, corner-right, IsEdgeWithin, edge-right, chain-edges, mark-right, marks-each, features-each, chain-marks, IsListWithin, covers-right, node-right}
use Rattle.loc_spec_text.specs.Limits.{most_id_bytes}

-- what is asked of a table, a legend and versions
pub record AreFit (scale : ℕ) (t : Table) (l : LegendRows) (m : VersionsMeaning) : Type 0 where
  pub scale_fits : scale ≤ 15
  pub in_order : IsTable t
  pub small : IsSmallTable t
  pub on_grid : All IsGridPoint t.corners
  pub sound : IsSound l
  pub fits : FitsTable t l
  pub short : All (λ (id : List ℕ). length id ≤ most_id_bytes) l.ids
  pub features : feature_count t ≤ length l.ids
  pub few_edges : length t.ends ≤ 2 ^ 21
  pub few_marks : sum_by length t.marks ≤ 2 ^ 21
  pub as_many : length m.roots ≡ length t.corners
  pub settled : m.is_changed ≡ false
  pub items : m.past_greatest ≤ length t.ends
  pub few_nodes : length m.rows ≤ 24 * length t.ends

module _ (scale : ℕ) (t : Table) (l : LegendRows) (m : VersionsMeaning) (fit : AreFit scale t l m) (roots : List ℕ) (nodes : List NodeRow)
    (as_many_roots : length roots ≡ length m.roots) (as_many_nodes : length nodes ≡ length m.rows)
    (roots_within : All (λ n. n ≤ length m.rows) roots) (nodes_within : All (IsWithin m.past_greatest (length m.roots) (length m.rows) m.is_changed) nodes) where
  abbrev c : Content
  c = content_of scale t l roots nodes

  above_many : length l.above ≡ length t.ends
  above_many = fit.sound.as_many_above ∙ fit.fits.as_many_edges

  edges_many : length c.edges ≡ length t.ends
  edges_many = length-edges t.ends t.sources l.above fit.in_order.sources_fit above_many

  edge-within : (i : ℕ) (d : EdgeRow) → i < length c.edges → IsEdgeWithin (length t.corners) (length l.lists) (get_or c.edges i d)
  edge-within i d lt =
      let less : i < length t.ends = omega (arith, lt, edges_many) in
      let up = fit.in_order.goes_up i less in
      let from = fit.in_order.sources_go_up i less in
      let cover = fit.sound.above_in_range i (omega (arith, less, above_many)) in
      subst (IsEdgeWithin (length t.corners) (length l.lists)) (sym (edge-at t.ends t.sources l.above i d fit.in_order.sources_fit above_many less)) (record { goes_up = up.0; upper = up.1; source = from.0; source_upper = from.1; cover = cover })

  header-right : are_right (header_fields 2 c) ≡ true
  header-right =
      let few_ids = fit.sound.few_features in
      let few_corners = fit.small.few_corners in
      let few_edges = fit.few_edges in
      let few_marks = fit.few_marks in
      let marks = length-marks 0 t.marks in
      let few_lists = fit.sound.lists.few in
      let edges = fit.fits.as_many_edges in
      let few_nodes = fit.few_nodes in
      let scale_fits = fit.scale_fits in
      all-right (header_fields 2 c)
      (refl, (refl, (omega (arith, scale_fits), (omega (arith, few_ids), (omega (arith, few_corners), (omega (arith, few_edges, edges_many), (omega (arith, few_marks, marks), (omega (arith, few_lists, edges, edges_many), (omega (arith, few_nodes, as_many_nodes, edges_many), tt)))))))))

  ids-right : are_right (flat_map id_fields l.ids) ≡ true
  ids-right = flat-right id_fields (λ id. length id ≤ most_id_bytes) id-right l.ids (each-at (λ (id : List ℕ). length id ≤ most_id_bytes) l.ids fit.short)

  corners-right : are_right (rows_from corner_fields [] t.corners) ≡ true
  corners-right = rows-right corner_fields before IsGridPoint corner-right [] t.corners (each-at IsGridPoint t.corners fit.on_grid) (rising-chain before t.corners fit.in_order.corners_rise)

  edges-right : are_right (rows_from (edge_fields 2 (length t.corners) (length l.lists)) [] c.edges) ≡ true
  edges-right = rows-right (edge_fields 2 (length t.corners) (length l.lists)) edge_row_before (IsEdgeWithin (length t.corners) (length l.lists)) (edge-right (length t.corners) (length l.lists)) [] c.edges
      (each-at (IsEdgeWithin (length t.corners) (length l.lists)) c.edges edge-within) (chain-edges t.ends t.sources l.above fit.in_order.edges_rise)

  marks-right : are_right (rows_from (mark_fields (length c.edges) (length l.ids)) [] c.marks) ≡ true
  marks-right = rows-right (mark_fields (length c.edges) (length l.ids)) mark_row_before (IsMarkIn (length c.edges) (length l.ids)) (mark-right (length c.edges) (length l.ids)) [] c.marks
      (marks-each (length c.edges) (length l.ids) 0 t.marks (let many = fit.in_order.marks_fit in omega (arith, many, edges_many)) (features-each (length l.ids) t.marks fit.features))
      (chain-marks 0 t.marks (each-at (λ row. is_rising mark_before row ≡ true) t.marks (λ i d lt. (let e : is_rising mark_before (get_or t.marks i []) ≡ true = fit.in_order.marks_rise i in subst (λ row. is_rising mark_before row ≡ true) (get_or_default t.marks i [] d lt) e))) None tt)

  lists-right : are_right (rows_from (cover_fields (length l.ids)) [] l.lists) ≡ true
  lists-right = covers-right (length l.ids) [] l.lists (let few = fit.sound.lists.few_members in omega (arith, few))
      (each-at (IsListWithin (length l.ids)) l.lists (λ i d lt. subst (IsListWithin (length l.ids)) (get_or_default l.lists i [] d lt) (fit.sound.lists.each_rises i, each-at (λ f. f < length l.ids) (get_or l.lists i []) (fit.sound.lists_named i))))
      (rising-chain list_before l.lists fit.sound.lists.rise)

  floors-right : are_right (map (λ floor. number w32 (length c.edges + 1) (none_or_next floor)) l.floors) ≡ true
  floors-right = map-right (λ floor. number w32 (length c.edges + 1) (none_or_next floor)) (λ floor. none_or_next floor ≤ length c.edges) (λ floor le. omega (arith, le)) l.floors
      (each-at (λ floor. none_or_next floor ≤ length c.edges) l.floors (λ i d lt. (let le = floor-within l fit.sound i d lt in let edges = fit.fits.as_many_edges in omega (arith, le, edges, edges_many))))

  roots-right : are_right (map (number w32 (length nodes + 1)) roots) ≡ true
  roots-right = map-right (number w32 (length nodes + 1)) (λ n. n ≤ length m.rows) (λ n le. omega (arith, le, as_many_nodes)) roots (each-at (λ n. n ≤ length m.rows) roots roots_within)

  nodes-right : are_right (flat_map (node_fields (length c.edges) (length t.corners) (length nodes)) nodes) ≡ true
  nodes-right = flat-right (node_fields (length c.edges) (length t.corners) (length nodes)) (IsWithin m.past_greatest (length t.corners) (length nodes) m.is_changed)
      (λ row w. node-right (length c.edges) (length t.corners) (length nodes) m.past_greatest m.is_changed row (let items = fit.items in omega (arith, items, edges_many)) fit.settled w) nodes
      (each-at (IsWithin m.past_greatest (length t.corners) (length nodes) m.is_changed) nodes (λ i d lt. subst (λ k. IsWithin m.past_greatest k (length nodes) m.is_changed (get_or nodes i d)) fit.as_many (subst (λ k. IsWithin m.past_greatest (length m.roots) k m.is_changed (get_or nodes i d)) (sym as_many_nodes) (nodes_within i d lt))))

  fields-right : are_right (fields 2 c) ≡ true
  unfolding fields
  fields-right = parts-right (parts 2 c) (header-right, (ids-right, (corners-right, (edges-right, (marks-right, (lists-right, (floors-right, (roots-right, (nodes-right, tt)))))))))

  pub filed : IsFileOf 2 c (bytes_of 2 c)
  filed = record {
    shaped = record { floors = fit.sound.as_many_floors ∙ fit.fits.as_many_corners; roots = as_many_roots ∙ fit.as_many; sources = refl };
    right = fields-right;
    spelled = refl;
  }
