-- The sources of pieces: of the noded table both ends of an edge lie on the segment of its source, and of the plain table each edge is its own source.
use Rattle.std.proofs.Common.{◌≡◌, ℕ, ◌<◌, Bool, true, false, ◌||◌, ◌&&◌, List, [], ◌∷◌, length, get_or, refl, sym, ◌∙◌, ap, inl, inr, arith}
use Rattle.std.specs.{Prelude.Some, Prelude.find, Prelude.unwrap_or, List.list_any, List.list_all}
use Rattle.std.proofs.lemmas.Bool.{and_parts, cases_Bool, cond-false, cond-true, or_cases, true≢false}
use Rattle.std.proofs.{lemmas.List.get_or-map, lemmas.List.Folds.list_any_at}
use Rattle.loc_spec_plane.specs.Points.{Point, Edge, same_point, same_edge, edge_before, lies_on}
use Rattle.loc_spec_plane.specs.{Lists.sorted_set, Rings.Rings, Rings.segment_between}
use Rattle.loc_spec_plane.specs.Tables.{Table, table_by, table_of, noded_table_of, whole, cut_at, edge, is_on_source, layer_segments, layer_corners, pieces_of, numbered_ends, source, source_in, source_of, corner}
use Rattle.loc_laws_order.proofs.{Booleans.or_none, Tests.same_edge_decides, TableOrder.origin_point}
use Rattle.loc_laws_order.specs.Numbered.{has_ends}
use Rattle.loc_laws_noding.specs.Laws.{IsCutting, goes_up}
use Rattle.loc_laws_noding.proofs.{Layers.corners_rise, Noded.cutting_noded, Noded.map_same, Orders.edges_by_before}
use Rattle.loc_laws_order.proofs.Numbered.{at_number}
use Rattle.loc_laws_noding.proofs.{Pieces.pieces_on, SortedSet.any-sorted_set}
use Rattle.loc_laws_noding.proofs.Tables.{any_of_pieces, as_many_ends, edge_is_piece, piece_good, pieces, source_good}

-- what is found passes
found_is : (p : Edge → Bool) (e : Edge) (ss : List Edge) → list_any p ss ≡ true → p (unwrap_or (find p ss) e) ≡ true
found_is p e [] some = absurd (true≢false (sym some))
found_is p e (s ∷ ss) some = elim (cases_Bool (p s)) [
  | inl found ↦ ap (λ o. p (unwrap_or o e)) (cond-true (p s) (Some s) (find p ss) found) ∙ found
  | inr other ↦ ap (λ o. p (unwrap_or o e)) (cond-false (p s) (Some s) (find p ss) other) ∙ found_is p e ss (sym (ap (λ b. b || list_any p ss) other) ∙ some)
]

-- what passes for all passes for a member
member_passes : (q : Edge → Bool) (e : Edge) (es : List Edge) → list_all q es ≡ true → list_any (same_edge e) es ≡ true → q e ≡ true
member_passes q e [] all there = absurd (true≢false (sym there))
member_passes q e (d ∷ ds) all there =
    let parts = and_parts (q d) (list_all q ds) all in
    elim (or_cases (same_edge e d) (list_any (same_edge e) ds) there) [
      | inl here ↦ ap q ((same_edge_decides e d).0 here) ∙ parts.0
      | inr later ↦ member_passes q e ds parts.1 later
    ]

-- ---- the plain table
-- an edge that is its own one piece is found first, if it is found
own_source : (e : Edge) (ss : List Edge) → unwrap_or (find (λ s. list_any (same_edge e) (whole s)) ss) e ≡ e
own_source e [] = refl
own_source e (s ∷ ss) = elim (cases_Bool (same_edge e s || false)) [
  | inl same ↦ ap (λ o. unwrap_or o e) (cond-true (same_edge e s || false) (Some s) (find (λ s. list_any (same_edge e) (whole s)) ss) same) ∙ sym ((same_edge_decides e s).0 (sym (or_none (same_edge e s)) ∙ same))
  | inr other ↦ ap (λ o. unwrap_or o e) (cond-false (same_edge e s || false) (Some s) (find (λ s. list_any (same_edge e) (whole s)) ss) other) ∙ own_source e ss
]

-- where nothing is cut each edge is its own source
pub plain_sources : (layer : List Rings) → (table_of layer).sources ≡ (table_of layer).ends
unfolding table_by
plain_sources layer = map_same whole whole (λ (e : Edge). numbered_ends layer (source_in whole layer e)) (numbered_ends layer) (λ e. ap (numbered_ends layer) (own_source e (sorted_set edge_before (layer_segments layer)))) (pieces_of whole layer)

-- ---- the noded table
module _ (cut : Edge → List Edge) (layer : List Rings) where
  abbrev cs : List Point
  cs = layer_corners layer

  -- the source of a piece has it as a piece
  pub source_has : (e : Edge) → list_any (same_edge e) (pieces cut layer) ≡ true → list_any (same_edge e) (cut (source_in cut layer e)) ≡ true
  source_has e there = found_is (λ s. list_any (same_edge e) (cut s)) e (sorted_set edge_before (layer_segments layer)) (any-sorted_set edges_by_before (λ s. list_any (same_edge e) (cut s)) (layer_segments layer) ∙ (sym (any_of_pieces cut layer (same_edge e)) ∙ there))

  module _ (cuts : IsCutting (layer_corners layer) cut) where
    -- by its points the source of edge n is the source of piece n
    source_is : (n : ℕ) (d : Edge) → n < length (pieces cut layer) → source (table_by cut layer) n ≡ source_in cut layer (get_or (pieces cut layer) n d)
    unfolding table_by
    source_is n d fits =
        let t : Table = table_by cut layer in
        let piece : Edge = get_or (pieces cut layer) n d in
        let s : Edge = source_in cut layer piece in
        let good = and_parts (goes_up s) (has_ends cs s) (source_good cut layer cuts piece (piece_good cut layer cuts n d fits)) in
        let there = and_parts (list_any (same_point s.lo) cs) (list_any (same_point s.hi) cs) good.1 in
        let here : source_of t n ≡ numbered_ends layer s = get_or-map (λ (e : Edge). numbered_ends layer (source_in cut layer e)) (pieces cut layer) n d (0, 0) fits in
        let low : corner t (source_of t n).0 ≡ s.lo = ap (λ (ends : ℕ × ℕ). corner t ends.0) here ∙ at_number cs (corners_rise layer) s.lo _ there.0 in
        let high : corner t (source_of t n).1 ≡ s.hi = ap (λ (ends : ℕ × ℕ). corner t ends.1) here ∙ at_number cs (corners_rise layer) s.hi _ there.1 in
        ap (λ p. segment_between p (corner t (source_of t n).1)) low ∙ (ap (segment_between s.lo) high ∙ cond-true (goes_up s) _ _ good.0)

-- both ends of every edge of the noded table lie on the segment of its source
pub noded_sources : (layer : List Rings) (n : ℕ) → n < length (noded_table_of layer).ends → is_on_source (noded_table_of layer) n ≡ true
noded_sources layer n short =
    let cut = cut_at (layer_corners layer) in
    let cuts = cutting_noded layer in
    let t : Table = noded_table_of layer in
    let d : Edge = record { lo = origin_point; hi = origin_point } in
    let fits : n < length (pieces cut layer) = omega (arith, as_many_ends cut layer) in
    let piece : Edge = get_or (pieces cut layer) n d in
    let s : Edge = source_in cut layer piece in
    let good = and_parts (goes_up s) (has_ends (layer_corners layer) s) (source_good cut layer cuts piece (piece_good cut layer cuts n d fits)) in
    let there = and_parts (list_any (same_point s.lo) (layer_corners layer)) (list_any (same_point s.hi) (layer_corners layer)) good.1 in
    let within : list_any (same_edge piece) (cut s) ≡ true = source_has cut layer piece (list_any_at (same_edge piece) (pieces cut layer) n d fits ((same_edge_decides piece piece).1 refl)) in
    let on : (lies_on s piece.lo && lies_on s piece.hi) ≡ true = member_passes (λ (e : Edge). lies_on s e.lo && lies_on s e.hi) piece (cut s) (pieces_on (layer_corners layer) (corners_rise layer) s good.0 there.0 there.1) within in
    ap (λ (r : Edge). lies_on r (edge t n).lo && lies_on r (edge t n).hi) (source_is cut layer cuts n d fits) ∙ (ap (λ (e : Edge). lies_on s e.lo && lies_on s e.hi) (sym (edge_is_piece cut layer cuts n d fits)) ∙ on)
