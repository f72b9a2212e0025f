-- The table of a layer whose segments are cut, whatever they are cut into: it is a table, its edges are the pieces, every corner is an end, marks are even, and by its marks it has what the rings have.
use Rattle.std.proofs.Common.{◌≡◌, ℕ, zero, suc, ◌+◌, ◌<◌, ◌≤◌, Bool, true, false, not, ◌||◌, ◌&&◌, List, [], ◌∷◌, length, get_or, refl, sym, ◌∙◌, ap, subst, inl, inr, arith}
use Rattle.std.specs.Prelude.{◌==◌, Some, find, unwrap_or}
use Rattle.std.specs.List.{list_any, list_all, flat_map}
use Rattle.std.proofs.lemmas.Bool.{and_from, and_parts, cases_Bool, cases_lt, cond-false, cond-true, eq-eqb, ne_eqb, not_from_false, or_cases, or_left, or_right}
use Rattle.std.proofs.lemmas.List.{length-map, get_or-map, get_or_past}
use Rattle.std.proofs.lemmas.List.Folds.{list_any-append, list_any_at}
use Rattle.loc_spec_plane.specs.{declared.Mark.Mark, Rays.crosses_right, Covers.feature_count}
use Rattle.loc_spec_plane.specs.Points.{Point, Edge, same_point, same_edge, edge_before, is_end, lies_on}
use Rattle.loc_spec_plane.specs.Lists.{numbers, odd_many, is_rising, sorted_set}
use Rattle.loc_spec_plane.specs.Rings.{Rings, segments, touches, covers}
use Rattle.loc_spec_plane.specs.Tables.{Table, IsTable, AllEnds, AllEven, table_by, corner, edge, lo_of, hi_of, ends_at, edge_numbers, has, has_odd, edge_marks, layer_segments, layer_corners, pieces_of, number_of, numbered_ends, source_in, source_of, mark_before, touches_by_marks, covers_by_marks}
use Rattle.loc_laws_order.proofs.{Booleans.and_swap, Booleans.and_true, Sides.same_point_refl}
use Rattle.loc_laws_order.proofs.TableOrder.{all_from, is_end_is, origin_point}
use Rattle.loc_laws_rays.proofs.Members.{feature_count_within}
use Rattle.loc_laws_order.specs.Numbered.{ends_by_number, has_ends}
use Rattle.loc_laws_noding.specs.Laws.{AreEven, IsCutting, goes_up, is_good}
use Rattle.loc_laws_noding.proofs.Counting.{any_by_edges, any_by_number, any_from_odd, by_edges, odd_by_number, odd_is_any, odd_none}
use Rattle.loc_laws_noding.proofs.Layers.{all_pieces, any-corners, corners_rise, crosses_pieces, feature_part, layer_good, odd_pieces, touches_pieces}
use Rattle.loc_laws_noding.proofs.Marks.{all_marks_below, is_hit, mark_passes, marks_rise_from}
use Rattle.loc_laws_order.proofs.Numbered.{at_number, number_fits, number_up, pairs_rise}
use Rattle.loc_laws_noding.proofs.Orders.{edges_by_before}
use Rattle.loc_laws_noding.proofs.SortedSet.{any-sorted_set, length-sorted_set, rising-sorted_set}

-- all pass where none fails
all_is : {X : Type 0} (p : X → Bool) (xs : List X) → list_all p xs ≡ not (list_any (λ x. not (p x)) xs)
all_is p [] = refl
all_is p (x ∷ xs) = ap (λ t. p x && t) (all_is p xs) ∙ turned (p x) (list_any (λ y. not (p y)) xs)
  where
    turned : (a b : Bool) → (a && not b) ≡ not (not a || b)
    turned true b = refl
    turned false b = refl

-- a test of a piece of some segment
pub any_flat : (f : Edge → Bool) (cut : Edge → List Edge) (ss : List Edge) → list_any f (flat_map cut ss) ≡ list_any (λ s. list_any f (cut s)) ss
any_flat f cut [] = refl
any_flat f cut (s ∷ ss) = list_any-append f (cut s) (flat_map cut ss) ∙ ap (λ t. list_any f (cut s) || t) (any_flat f cut ss)

-- the segments of a feature are segments of the layer
pub segments_part : (p : Edge → Bool) (layer : List Rings) (f : ℕ) → list_any p (segments (get_or layer f [])) ≡ true → list_any p (layer_segments layer) ≡ true
segments_part p [] f h = h
segments_part p (r ∷ rs) zero h = list_any-append p (segments r) (layer_segments rs) ∙ or_left (list_any p (segments r)) _ h
segments_part p (r ∷ rs) (suc f) h = list_any-append p (segments r) (layer_segments rs) ∙ or_right (list_any p (segments r)) _ (segments_part p rs f h)

-- what passes for all, and for what stands in where none is found, passes for what is found
found_passes : (q p : Edge → Bool) (e : Edge) → q e ≡ true → (ss : List Edge) → list_all q ss ≡ true → q (unwrap_or (find p ss) e) ≡ true
found_passes q p e here [] all = here
found_passes q p e here (s ∷ ss) all =
    let parts = and_parts (q s) (list_all q ss) all in
    elim (cases_Bool (p s)) [
      | inl found ↦ ap (λ o. q (unwrap_or o e)) (cond-true (p s) (Some s) (find p ss) found) ∙ parts.0
      | inr other ↦ ap (λ o. q (unwrap_or o e)) (cond-false (p s) (Some s) (find p ss) other) ∙ found_passes q p e here ss parts.1
    ]

module _ (cut : Edge → List Edge) (layer : List Rings) where
  abbrev cs : List Point
  cs = layer_corners layer

  abbrev pub pieces : List Edge
  pieces = pieces_of cut layer

  -- the segments in order, each once
  abbrev segments_once : List Edge
  segments_once = sorted_set edge_before (layer_segments layer)

  abbrev t : Table
  t = table_by cut layer

  -- the pieces are in order, and are those of the segments
  pub pieces_rise : is_rising edge_before pieces ≡ true
  pieces_rise = rising-sorted_set edges_by_before (flat_map cut (layer_segments layer))

  pub any_of_pieces : (test : Edge → Bool) → list_any test pieces ≡ list_any (λ s. list_any test (cut s)) (layer_segments layer)
  any_of_pieces test = any-sorted_set edges_by_before test (flat_map cut (layer_segments layer)) ∙ any_flat test cut (layer_segments layer)

  all_of_pieces : (test : Edge → Bool) → list_all test (flat_map cut (layer_segments layer)) ≡ true → list_all test pieces ≡ true
  all_of_pieces test all = all_is test pieces ∙ (ap not (any-sorted_set edges_by_before (λ e. not (test e)) (flat_map cut (layer_segments layer))) ∙ (sym (all_is test (flat_map cut (layer_segments layer))) ∙ all))

  pub as_many_ends : length t.ends ≡ length pieces
  unfolding table_by
  as_many_ends = length-map pieces (ends_by_number cs)

  pub as_many_marks : length t.marks ≡ length pieces
  unfolding table_by
  as_many_marks = length-map pieces (edge_marks cut layer)

  as_many_sources : length t.sources ≡ length pieces
  unfolding table_by
  as_many_sources = length-map pieces (λ (e : Edge). numbered_ends layer (source_in cut layer e))

  -- there are no more edges than pieces of all segments
  pub few_ends : length t.ends ≤ length (flat_map cut (layer_segments layer))
  few_ends = omega (arith, as_many_ends, length-sorted_set edge_before (flat_map cut (layer_segments layer)))

  -- no more features are marked than there are
  pub few_features : feature_count t ≤ length layer
  unfolding table_by
  few_features = feature_count_within t (length layer) (all_marks_below cut layer pieces)

  -- the numbers of the ends
  row_is : (n : ℕ) (d : Edge) → n < length pieces → get_or t.ends n (0, 0) ≡ (number_of cs (get_or pieces n d).lo, number_of cs (get_or pieces n d).hi)
  unfolding table_by
  row_is n d fits = get_or-map (ends_by_number cs) pieces n d (0, 0) fits

  rows_rise : (n : ℕ) → is_rising mark_before (get_or t.marks n []) ≡ true
  unfolding table_by
  rows_rise n = elim (cases_lt n (length pieces)) [
    | inl fits ↦ (let d : Edge = record { lo = origin_point; hi = origin_point } in ap (is_rising mark_before) (get_or-map (edge_marks cut layer) pieces n d [] fits) ∙ marks_rise_from cut (get_or pieces n d) 0 layer)
    | inr past ↦ ap (is_rising mark_before) (get_or_past t.marks n [] (omega (arith, as_many_marks)))
  ]

  module _ (cuts : IsCutting (layer_corners layer) cut) where
    all_there : list_all (has_ends cs) pieces ≡ true
    all_there = all_of_pieces (has_ends cs) (all_pieces (is_good cs) cut (has_ends cs) (λ s good. (cuts s good).between) (layer_segments layer) (layer_good layer))

    all_up : list_all goes_up pieces ≡ true
    all_up = all_of_pieces goes_up (all_pieces (is_good cs) cut goes_up (λ s good. (cuts s good).go_up) (layer_segments layer) (layer_good layer))

    -- piece n has its ends among the corners, and goes up
    pub piece_there : (n : ℕ) (d : Edge) → n < length pieces → has_ends cs (get_or pieces n d) ≡ true
    piece_there n d fits = all_from (λ _ e. has_ends cs e) d d pieces n all_there fits

    pub piece_up : (n : ℕ) (d : Edge) → n < length pieces → goes_up (get_or pieces n d) ≡ true
    piece_up n d fits = all_from (λ _ e. goes_up e) d d pieces n all_up fits

    -- edge n of the table is piece n
    pub edge_is_piece : (n : ℕ) (d : Edge) → n < length pieces → get_or pieces n d ≡ edge t n
    unfolding table_by
    edge_is_piece n d fits =
        let piece : Edge = get_or pieces n d in
        let there = and_parts (list_any (same_point piece.lo) cs) (list_any (same_point piece.hi) cs) (piece_there n d fits) in
        let low : corner t (lo_of t n) ≡ piece.lo = ap (λ (ends : ℕ × ℕ). corner t ends.0) (row_is n d fits) ∙ at_number cs (corners_rise layer) piece.lo _ there.0 in
        let high : corner t (hi_of t n) ≡ piece.hi = ap (λ (ends : ℕ × ℕ). corner t ends.1) (row_is n d fits) ∙ at_number cs (corners_rise layer) piece.hi _ there.1 in
        sym (ap (λ (p : Point). record { lo = p; hi = corner t (hi_of t n) }) low ∙ ap (λ (p : Point). record { lo = piece.lo; hi = p }) high)

    ends_go_up : (n : ℕ) → n < length t.ends → (lo_of t n < hi_of t n) × (hi_of t n < length t.corners)
    unfolding table_by
    ends_go_up n short =
        let fits : n < length pieces = omega (arith, as_many_ends) in
        let d : Edge = record { lo = origin_point; hi = origin_point } in
        let piece : Edge = get_or pieces n d in
        let there = and_parts (list_any (same_point piece.lo) cs) (list_any (same_point piece.hi) cs) (piece_there n d fits) in
        let up : number_of cs piece.lo < number_of cs piece.hi = number_up cs (corners_rise layer) piece.lo piece.hi there.0 there.1 (piece_up n d fits) in
        let within : number_of cs piece.hi < length cs = number_fits cs (corners_rise layer) piece.hi there.1 in
        subst (λ (ends : ℕ × ℕ). (ends.0 < ends.1) × (ends.1 < length cs)) (sym (row_is n d fits)) (up, within)

    -- the source of a piece is a segment, which goes up between two corners
    pub source_good : (e : Edge) → is_good cs e ≡ true → is_good cs (source_in cut layer e) ≡ true
    source_good e good = found_passes (is_good cs) (λ s. list_any (same_edge e) (cut s)) e good segments_once (all_is (is_good cs) segments_once ∙ (ap not (any-sorted_set edges_by_before (λ s. not (is_good cs s)) (layer_segments layer)) ∙ (sym (all_is (is_good cs) (layer_segments layer)) ∙ layer_good layer)))

    -- and so is a piece
    pub piece_good : (n : ℕ) (d : Edge) → n < length pieces → is_good cs (get_or pieces n d) ≡ true
    piece_good n d fits = and_from (goes_up (get_or pieces n d)) (has_ends cs (get_or pieces n d)) (piece_up n d fits) (piece_there n d fits)

    sources_up : (n : ℕ) → n < length t.ends → ((source_of t n).0 < (source_of t n).1) × ((source_of t n).1 < length t.corners)
    unfolding table_by
    sources_up n short =
        let fits : n < length pieces = omega (arith, as_many_ends) in
        let d : Edge = record { lo = origin_point; hi = origin_point } in
        let piece : Edge = get_or pieces n d in
        let s : Edge = source_in cut layer piece in
        let good = and_parts (goes_up s) (has_ends cs s) (source_good piece (piece_good n d fits)) in
        let there = and_parts (list_any (same_point s.lo) cs) (list_any (same_point s.hi) cs) good.1 in
        let up : number_of cs s.lo < number_of cs s.hi = number_up cs (corners_rise layer) s.lo s.hi there.0 there.1 good.0 in
        let within : number_of cs s.hi < length cs = number_fits cs (corners_rise layer) s.hi there.1 in
        let here : source_of t n ≡ numbered_ends layer s = get_or-map (λ (e : Edge). numbered_ends layer (source_in cut layer e)) pieces n d (0, 0) fits in
        subst (λ (ends : ℕ × ℕ). (ends.0 < ends.1) × (ends.1 < length cs)) (sym here) (up, within)

    -- the table of a layer is a table
    pub is_table : IsTable t
    unfolding table_by
    is_table = record {
      corners_rise = corners_rise layer;
      edges_rise = pairs_rise cs (corners_rise layer) pieces all_there pieces_rise;
      goes_up = ends_go_up;
      marks_fit = as_many_marks ∙ sym as_many_ends;
      marks_rise = rows_rise;
      sources_fit = as_many_sources ∙ sym as_many_ends;
      sources_go_up = sources_up;
    }

    -- edge k ends at corner c where the piece has the corner's point as an end
    piece_ends : (c : ℕ) → c < length t.corners → (k : ℕ) (d : Edge) → k < length pieces → ends_at t c k ≡ is_end (get_or pieces k d) (corner t c)
    piece_ends c short k d fits = let within : k < length t.ends = omega (arith, as_many_ends) in sym (ap (λ e. is_end e (corner t c)) (edge_is_piece k d fits) ∙ is_end_is t is_table c k short within)

    -- the ends of segments are ends of their pieces
    ends_kept : (p : Point) (ss : List Edge) → list_all (is_good cs) ss ≡ true → list_any (λ s. is_end s p) ss ≡ true → list_any (λ s. list_any (λ e. is_end e p) (cut s)) ss ≡ true
    ends_kept p [] all h = h
    ends_kept p (s ∷ ss) all h =
        let parts = and_parts (is_good cs s) (list_all (is_good cs) ss) all in
        elim (or_cases (is_end s p) (list_any (λ s. is_end s p) ss) h) [
          | inl here ↦ or_left (list_any (λ e. is_end e p) (cut s)) _ (any_from_odd (λ e. is_end e p) (cut s) ((cuts s parts.0).ends p ∙ here))
          | inr later ↦ or_right (list_any (λ e. is_end e p) (cut s)) _ (ends_kept p ss parts.1 later)
        ]

    -- every corner is an end of an edge
    pub all_ends : AllEnds t
    unfolding table_by
    all_ends c short =
        let p : Point = corner t c in
        ap (λ n. list_any (ends_at t c) (numbers n)) as_many_ends
        ∙ (any_by_number (ends_at t c) (λ e. is_end e p) pieces 0 (λ k d fits. (let same : 0 + k ≡ k = omega arith in ap (ends_at t c) same ∙ piece_ends c short k d fits))
        ∙ (any_of_pieces (λ e. is_end e p)
        ∙ ends_kept p (layer_segments layer) (layer_good layer) (sym (any-corners (same_point p) layer) ∙ list_any_at (same_point p) cs c origin_point short (same_point_refl p))))

    module _ (f : ℕ) where
      -- the pieces of the feature's segments, each as often as it stands there
      abbrev pub own : List Edge
      own = flat_map cut (segments (get_or layer f []))

      own_good : list_all (is_good cs) (segments (get_or layer f [])) ≡ true
      own_good = feature_part (is_good cs) layer f (layer_good layer)

      own_part : (e : Edge) → list_any (same_edge e) own ≡ true → list_any (same_edge e) pieces ≡ true
      own_part e there = any_of_pieces (same_edge e) ∙ segments_part (λ s. list_any (same_edge e) (cut s)) layer f (sym (any_flat (same_edge e) cut (segments (get_or layer f []))) ∙ there)

      -- feature f has the edge where it has the piece
      piece_has : (k : ℕ) (d : Edge) → k < length pieces → has t f k ≡ list_any (same_edge (get_or pieces k d)) own
      unfolding table_by
      piece_has k d fits =
          let piece : Edge = get_or pieces k d in
          let ss = segments (get_or layer f []) in
          ap (list_any (λ (m : Mark). m.feature == f)) (get_or-map (edge_marks cut layer) pieces k d [] fits)
          ∙ (mark_passes cut (λ (m : Mark). m.feature == f) piece f (λ m other. ne_eqb m.feature f other) layer
          ∙ (ap (λ b. list_any (is_hit cut piece) ss && b) (eq-eqb f f refl) ∙ (and_true (list_any (is_hit cut piece) ss)
          ∙ sym (any_flat (same_edge piece) cut ss))))

      -- its mark is odd where it has the piece an odd number of times
      piece_odd : (k : ℕ) (d : Edge) → k < length pieces → has_odd t f k ≡ odd_many (same_edge (get_or pieces k d)) own
      unfolding table_by
      piece_odd k d fits =
          let piece : Edge = get_or pieces k d in
          let ss = segments (get_or layer f []) in
          ap (list_any (λ (m : Mark). (m.feature == f) && m.odd)) (get_or-map (edge_marks cut layer) pieces k d [] fits)
          ∙ (mark_passes cut (λ (m : Mark). (m.feature == f) && m.odd) piece f (λ m other. ap (λ b. b && m.odd) (ne_eqb m.feature f other)) layer
          ∙ (ap (λ b. list_any (is_hit cut piece) ss && (b && odd_many (is_hit cut piece) ss)) (eq-eqb f f refl)
          ∙ (elim (cases_Bool (list_any (is_hit cut piece) ss)) [
            | inl some ↦ ap (λ b. b && odd_many (is_hit cut piece) ss) some
            | inr none ↦ ap (λ b. b && odd_many (is_hit cut piece) ss) none ∙ sym (odd_none (is_hit cut piece) ss none)
          ] ∙ sym (odd_pieces (is_good cs) cut (same_edge piece) (is_hit cut piece) (λ s good. odd_is_any piece (cut s) (cuts s good).rise) ss own_good))))

      -- it touches by its marks what it touches by its rings
      pub touches_is : (p : Point) → touches_by_marks t f p ≡ touches (get_or layer f []) p
      touches_is p =
          ap (λ n. list_any (λ e. has t f e && lies_on (edge t e) p) (numbers n)) as_many_ends
          ∙ (any_by_number (λ e. has t f e && lies_on (edge t e) p) (λ e. list_any (same_edge e) own && lies_on e p) pieces 0 (λ k d fits. (let same : 0 + k ≡ k = omega arith in
          ap (λ n. has t f n && lies_on (edge t n) p) same
          ∙ (ap (λ b. b && lies_on (edge t k) p) (piece_has k d fits) ∙ ap (λ e. list_any (same_edge (get_or pieces k d)) own && lies_on e p) (sym (edge_is_piece k d fits)))))
          ∙ (any_by_edges (λ e. lies_on e p) pieces own own_part
          ∙ sym (touches_pieces cs cut cuts (get_or layer f []) own_good p)))

      -- and covers what it covers
      pub covers_is : (p : Point) → covers_by_marks t f p ≡ covers (get_or layer f []) p
      covers_is p = ap (λ b. not b && odd_many (λ e. has_odd t f e && crosses_right (edge t e) p) (edge_numbers t)) (touches_is p) ∙ ap (λ b. not (touches (get_or layer f []) p) && b)
          (ap (λ n. odd_many (λ e. has_odd t f e && crosses_right (edge t e) p) (numbers n)) as_many_ends
          ∙ (odd_by_number (λ e. has_odd t f e && crosses_right (edge t e) p) (λ e. crosses_right e p && odd_many (same_edge e) own) pieces 0 (λ k d fits. (let same : 0 + k ≡ k = omega arith in
          ap (λ n. has_odd t f n && crosses_right (edge t n) p) same
          ∙ (and_swap (has_odd t f k) (crosses_right (edge t k) p)
          ∙ (ap (λ b. crosses_right (edge t k) p && b) (piece_odd k d fits) ∙ ap (λ e. crosses_right e p && odd_many (same_edge (get_or pieces k d)) own) (sym (edge_is_piece k d fits))))))
          ∙ (by_edges (λ e. crosses_right e p) pieces own pieces_rise own_part
          ∙ sym (crosses_pieces cs cut cuts (get_or layer f []) own_good p))))

    -- marks are even at every corner where the rings are
    pub all_even : AreEven layer → AllEven t
    all_even even c short f =
        let p : Point = corner t c in
        let ss = segments (get_or layer f []) in
        not_from_false _ (ap (λ n. odd_many (λ e. ends_at t c e && has_odd t f e) (numbers n)) as_many_ends
        ∙ (odd_by_number (λ e. ends_at t c e && has_odd t f e) (λ e. is_end e p && odd_many (same_edge e) (own f)) pieces 0 (λ k d fits. (let same : 0 + k ≡ k = omega arith in ap (λ n. ends_at t c n && has_odd t f n) same ∙ (ap (λ b. b && has_odd t f k) (piece_ends c short k d fits) ∙ ap (λ b. is_end (get_or pieces k d) p && b) (piece_odd f k d fits))))
        ∙ (by_edges (λ e. is_end e p) pieces (own f) pieces_rise (own_part f)
        ∙ (odd_pieces (is_good cs) cut (λ e. is_end e p) (λ s. is_end s p) (λ s good. (cuts s good).ends p) ss (own_good f)
        ∙ even f p))))
