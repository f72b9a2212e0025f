-- A content that reads in any version may be written in the second: its bounds are no narrower, and the sources stay within them.
use Rattle.std.proofs.Common.{◌≡◌, ℕ, suc, ◌<◌, true, ◌&&◌, List, [], ◌∷◌, ◌++◌, length, get_or, refl, arith}
use Rattle.std.specs.{List.last_or, Int.w32, Prelude.None}
use Rattle.loc_spec_index.specs.{declared.Part.TheVariants.Edges, Content.EdgeRow}
use Rattle.loc_spec_index.specs.IndexFile.{number, order, follows, is_rising_pair, are_right, rows_from, header_fields, source_fields, edge_fields, edge_row_before, fields, parts}
use Rattle.loc_laws_index.specs.Renewal.{RenewLaw}
use Rattle.loc_laws_index.proofs.{AgreeTable.most-small, Progress.are_right-append, RightRows.IsEdgeIn, FileFacts.facts}
use Rattle.loc_laws_index.proofs.RightFields.{all-hold, all-right, right-parts, each-right, parts-right}

-- the source of an edge goes up between corners that are there
abbrev IsSourceOf : ℕ → EdgeRow → Type 0
IsSourceOf nv e = (e.source.0 < e.source.1) × (e.source.1 < nv)

row_renewed : (v nv nc : ℕ) (earlier : List EdgeRow) (e : EdgeRow) → IsEdgeIn nv nc e → IsSourceOf nv e → are_right (edge_fields v nv nc earlier e) ≡ true → are_right (edge_fields 2 nv nc earlier e) ≡ true
row_renewed v nv nc earlier e ends source h =
    let front = number w32 nv e.ends.0 ∷ number w32 nv e.ends.1 ∷ number w32 nc e.cover ∷ source_fields v nv e.source in
    let last = order Edges (length earlier) ((is_rising_pair e.ends && is_rising_pair e.source) && follows edge_row_before (last_or None earlier) e) ∷ [] in
    let p = right-parts front last h in
    let up = ends.0 in
    let top = ends.1 in
    let source_up = source.0 in
    let source_top = source.1 in
    all-right (edge_fields 2 nv nc earlier e) (omega (arith, up, top), (top, (ends.2, (omega (arith, source_up, source_top), (source_top, all-hold last p.1)))))

rows_renewed : (v nv nc : ℕ) (earlier es : List EdgeRow) → ((i : ℕ) (d : EdgeRow) → i < length es → IsEdgeIn nv nc (get_or es i d)) → ((i : ℕ) (d : EdgeRow) → i < length es → IsSourceOf nv (get_or es i d)) → are_right (rows_from (edge_fields v nv nc) earlier es) ≡ true → are_right (rows_from (edge_fields 2 nv nc) earlier es) ≡ true
rows_renewed v nv nc earlier [] ends sources h = refl
rows_renewed v nv nc earlier (e ∷ es) ends sources h =
    let p = right-parts (edge_fields v nv nc earlier e) (rows_from (edge_fields v nv nc) (earlier ++ e ∷ []) es) h in
    are_right-append (edge_fields 2 nv nc earlier e) (rows_from (edge_fields 2 nv nc) (earlier ++ e ∷ []) es)
    (row_renewed v nv nc earlier e (ends 0 e (omega arith)) (sources 0 e (omega arith)) p.0)
    (rows_renewed v nv nc (earlier ++ e ∷ []) es (λ i d lt. ends (suc i) d (omega (arith, lt))) (λ i d lt. sources (suc i) d (omega (arith, lt))) p.1)

pub renewed : RenewLaw
unfolding fields
renewed bytes v c file =
    let f = facts c bytes file in
    let p = each-right (parts v c) file.right in
    let h = all-hold (header_fields v c) p.0 in
    let most = most-small v in
    let edges = h.1.1.1.1.1.0 in
    let marks = h.1.1.1.1.1.1.0 in
    record {
      shaped = record { floors = file.shaped.floors; roots = file.shaped.roots; sources = refl };
      right = parts-right (parts 2 c) (
        all-right (header_fields 2 c) (h.0, (refl, (h.1.1.0, (h.1.1.1.0, (h.1.1.1.1.0, (omega (arith, edges, most), (omega (arith, marks, most), h.1.1.1.1.1.1.1))))))),
        (p.1.0, (p.1.1.0, (rows_renewed v (length c.corners) (length c.covers) [] c.edges f.edges f.sources p.1.1.1.0, p.1.1.1.1))),
      );
      spelled = refl;
    }
