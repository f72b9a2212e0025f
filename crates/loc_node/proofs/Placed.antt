-- Pieces with the places of their segments: which segment is the first that has an edge as a piece, and pieces that get the features of their segments.
use Rattle.std.proofs.Common.{◌≡◌, ℕ, zero, suc, ◌+◌, ◌-◌, ◌<◌, ◌≤◌, Bool, true, false, ◌||◌, ◌&&◌, List, [], ◌∷◌, ◌++◌, length, get_or, map, refl, sym, ◌∙◌, ap, ap₂, subst, inl, inr, arith}
use Rattle.std.specs.Prelude.{◌==◌, nat_lt, All, Some, find, unwrap_or, if◌then◌else◌}
use Rattle.std.specs.List.{list_any, dedup, dedup_from}
use Rattle.std.specs.List.Sorted.{IsPermutation, IsSorted, IsSortedBy}
use Rattle.std.specs.Ordering.{is_lt, nat_cmp, ordering_then}
use Rattle.std.proofs.lemmas.Bool.{and_from, and_parts, both_ways, cases_Bool, cases_lt, cond-true, cond-false, eq-eqb, eqb-true, false_from_ne_true, lt-ltb, or_cases, or_left, or_right, true≢false}
use Rattle.std.proofs.{lemmas.Cmp.by_ranked, lemmas.List.Concat.flat_map_single, lemmas.List.Elements.All-cons}
use Rattle.std.proofs.lemmas.List.{map-append, map-id, length-map, get_or-map}
use Rattle.std.proofs.lemmas.List.Folds.{list_any-append, list_any_at}
use Rattle.std.proofs.lemmas.List.Sorted.{IsPermutation-map, IsPermutation-trans, list_any-IsPermutation, ranks_by, sorted_far}
use Rattle.loc_spec_plane.specs.{Points.Edge, Points.edge_before, Points.same_edge, Lists.sorted_set, Rings.Rings}
use Rattle.loc_spec_plane.specs.Tables.{layer_segments, pieces_of, source_in, whole}
use Rattle.loc_laws_order.proofs.Tests.{same_edge_decides}
use Rattle.loc_laws_noding.proofs.{Noded.number_in, Orders.edge_cmp, Orders.edges_by_before}
use Rattle.loc_laws_noding.proofs.SortedSet.{less, same_from_neither}
use Rattle.loc_edges.specs.Tagged.{segments_in, tagged_by}
use Rattle.loc_edges.proofs.EdgeRows.{edges_left}
use Rattle.loc_node.specs.Pieces.{cut_tagged, first_with, piece_before, placed_from, with_feature}
use Rattle.loc_node.proofs.PieceOrder.{edge_ties, first_not_less, piece_cmp, piece_total}

-- ---- the order
pub nat_lt_is : (m n : ℕ) → is_lt (nat_cmp m n) ≡ nat_lt m n
nat_lt_is m n = elim (cases_Bool (nat_lt m n)) [
  | inl lt ↦ ap is_lt (cond-true _ _ _ lt) ∙ sym lt
  | inr ge ↦ elim (cases_Bool (m == n)) [
    | inl same ↦ ap is_lt (cond-false _ _ _ ge ∙ cond-true _ _ _ same) ∙ sym ge
    | inr other ↦ ap is_lt (cond-false _ _ _ ge ∙ cond-false _ _ _ other) ∙ sym ge
  ]
]

-- pieces compare as less where one comes before the other
lt_is : (a b : Edge × ℕ) → is_lt (piece_cmp a b) ≡ piece_before a b
lt_is a b = elim (cases_Bool (edge_before a.0 b.0)) [
  | inl lt ↦ ap (λ r. is_lt (ordering_then r (nat_cmp a.1 b.1))) (less edges_by_before a.0 b.0 lt) ∙ sym (or_left (edge_before a.0 b.0) _ lt)
  | inr ge ↦ elim (cases_Bool (same_edge a.0 b.0)) [
    | inl same ↦ ap (λ r. is_lt (ordering_then r (nat_cmp a.1 b.1))) (ap (λ e. edge_cmp e b.0) ((same_edge_decides a.0 b.0).0 same) ∙ edge_ties b.0 b.0) ∙ (nat_lt_is a.1 b.1 ∙ sym (ap₂ (λ x y. x || (y && nat_lt a.1 b.1)) ge same))
    | inr other ↦ by_ranked _ _ _ (edge_cmp a.0 b.0) (edges_by_before.ranked a.0 b.0)
        (λ _ lt. absurd (both_ways _ ge lt))
        (λ _ same. absurd (both_ways _ other ((same_edge_decides a.0 b.0).1 same)))
        (λ is _. ap (λ r. is_lt (ordering_then r (nat_cmp a.1 b.1))) is ∙ sym (ap₂ (λ x y. x || (y && nat_lt a.1 b.1)) ge other))
  ]
]

-- std's word for pieces in order, and back
pub by_cmp : (ts : List (Edge × ℕ)) → IsSortedBy piece_before ts → IsSorted piece_cmp ts
by_cmp ts sorted k d low lt = lt_is (get_or ts (k + 1) d) (get_or ts k d) ∙ sorted k d low lt

pub by_before : (ts : List (Edge × ℕ)) → IsSorted piece_cmp ts → IsSortedBy piece_before ts
by_before ts sorted k d low lt = sym (lt_is (get_or ts (k + 1) d) (get_or ts k d)) ∙ sorted k d low lt

-- ---- features in place of places
pub length-placed : (a : ℕ) (ts : List (Edge × ℕ)) → length (placed_from a ts) ≡ length ts
length-placed a [] = refl
length-placed a (t ∷ ts) = ap suc (length-placed (a + 1) ts)

-- segment k has the place k behind the first place
pub placed_at : (a : ℕ) (ts : List (Edge × ℕ)) (k : ℕ) (d b : Edge × ℕ) → k < length ts → get_or (placed_from a ts) k d ≡ ((get_or ts k b).0, a + k)
placed_at a [] k d b fits = absurd (omega arith)
placed_at a (t ∷ ts) zero d b fits = (let same : a ≡ a + 0 = omega arith in ap (λ n. (t.0, n)) same)
placed_at a (t ∷ ts) (suc k) d b fits = (let same : (a + 1) + k ≡ a + suc k = omega arith in placed_at (a + 1) ts k d b (omega arith) ∙ ap (λ n. ((get_or ts k b).0, n)) same)

-- the places are below the count
pub places_fit : (a : ℕ) (ts : List (Edge × ℕ)) → All (λ (t : Edge × ℕ). t.1 < a + length ts) (placed_from a ts)
places_fit a [] = λ k d lt. absurd (omega arith)
places_fit a (t ∷ ts) = All-cons (λ (u : Edge × ℕ). u.1 < a + suc (length ts)) (t.0, a) (placed_from (a + 1) ts) (omega arith) (λ k d lt. omega (arith, places_fit (a + 1) ts k d lt))

module _ (cut : Edge → List Edge) (feature : Edge × ℕ → ℕ) where
  tag_all : (a f : ℕ) → ((e : Edge) → feature (e, a) ≡ f) → (es : List Edge) → map (λ (u : Edge × ℕ). (u.0, feature u)) (tagged_by a es) ≡ tagged_by f es
  tag_all a f is [] = refl
  tag_all a f is (e ∷ es) = ap₂ (λ n us. (e, n) ∷ us) (is e) (tag_all a f is es)

  relabel : (a : ℕ) (ts : List (Edge × ℕ)) → ((e : Edge) (k : ℕ) → k < length ts → feature (e, a + k) ≡ (get_or ts k (e, a + k)).1) → map (λ (u : Edge × ℕ). (u.0, feature u)) (cut_tagged cut (placed_from a ts)) ≡ cut_tagged cut ts
  relabel a [] is = refl
  relabel a (t ∷ ts) is =
      let here : a + 0 ≡ a = omega arith in
      map-append (λ (u : Edge × ℕ). (u.0, feature u)) (tagged_by a (cut t.0)) (cut_tagged cut (placed_from (a + 1) ts))
      ∙ ap₂ (λ us vs. us ++ vs)
      (tag_all a t.1 (λ e. subst (λ n. feature (e, n) ≡ t.1) here (is e 0 (omega arith))) (cut t.0))
      (relabel (a + 1) ts (λ e k fits. (let next : a + suc k ≡ (a + 1) + k = omega arith in subst (λ n. feature (e, n) ≡ (get_or ts k (e, n)).1) next (is e (suc k) (omega arith)))))

-- placed pieces with the features of the segments are their pieces
pub featured_are : (cut : Edge → List Edge) (ts : List (Edge × ℕ)) → map (with_feature ts) (cut_tagged cut (placed_from 0 ts)) ≡ cut_tagged cut ts
featured_are cut ts = relabel cut (λ u. (get_or ts u.1 u).1) 0 ts (λ e k fits. (let same : 0 + k ≡ k = omega arith in ap (λ n. (get_or ts n (e, 0 + k)).1) same))

pub featured_moved : (cut : Edge → List Edge) (ts placed pieces : List (Edge × ℕ)) → IsPermutation (cut_tagged cut (placed_from 0 ts)) placed → IsPermutation (map (with_feature ts) placed) pieces → IsPermutation (cut_tagged cut ts) pieces
featured_moved cut ts placed pieces moved again = subst (λ us. IsPermutation us pieces) (featured_are cut ts) (IsPermutation-trans _ _ _ (IsPermutation-map (with_feature ts) (cut_tagged cut (placed_from 0 ts)) placed moved) again)

pub many_placed : (cut : Edge → List Edge) (ts : List (Edge × ℕ)) → length (cut_tagged cut (placed_from 0 ts)) ≡ length (cut_tagged cut ts)
many_placed cut ts = sym (length-map (cut_tagged cut (placed_from 0 ts)) (with_feature ts)) ∙ ap length (featured_are cut ts)

-- ---- the first segment of an edge
-- a piece that is e and has the place k
abbrev is_piece : Edge → ℕ → Edge × ℕ → Bool
is_piece e k u = same_edge e u.0 && (u.1 == k)

module _ (cut : Edge → List Edge) (e : Edge) where
  any_tagged : (a k : ℕ) (es : List Edge) → list_any (is_piece e k) (tagged_by a es) ≡ (list_any (same_edge e) es && (a == k))
  any_tagged a k [] = refl
  any_tagged a k (d ∷ ds) = ap (λ b. (same_edge e d && (a == k)) || b) (any_tagged a k ds) ∙ both (same_edge e d) (list_any (same_edge e) ds) (a == k)
    where
      both : (b c m : Bool) → ((b && m) || (c && m)) ≡ ((b || c) && m)
      both true true true = refl
      both true true false = refl
      both true false true = refl
      both true false false = refl
      both false c m = refl

  -- a place of a piece is that of a segment that has it
  piece_from : (a k : ℕ) (ts : List (Edge × ℕ)) → list_any (is_piece e k) (cut_tagged cut (placed_from a ts)) ≡ true → (j : ℕ) × (j < length ts) × (k ≡ a + j) × ((d : Edge × ℕ) → list_any (same_edge e) (cut (get_or ts j d).0) ≡ true)
  piece_from a k [] some = absurd (true≢false (sym some))
  piece_from a k (t ∷ ts) some = elim (or_cases (list_any (is_piece e k) (tagged_by a (cut t.0))) (list_any (is_piece e k) (cut_tagged cut (placed_from (a + 1) ts))) (sym (list_any-append (is_piece e k) (tagged_by a (cut t.0)) (cut_tagged cut (placed_from (a + 1) ts))) ∙ some)) [
    | inl here ↦ (let parts = and_parts (list_any (same_edge e) (cut t.0)) (a == k) (sym (any_tagged a k (cut t.0)) ∙ here) in (0, omega arith, omega (arith, eqb-true a k parts.1), λ d. parts.0))
    | inr later ↦ (let rest = piece_from (a + 1) k ts later in (suc rest.0, omega (arith, rest.1), omega (arith, rest.2), λ d. rest.3 d))
  ]

  -- a segment that has the edge as a piece gives one with its place
  piece_to : (a j : ℕ) (ts : List (Edge × ℕ)) (d : Edge × ℕ) → j < length ts → list_any (same_edge e) (cut (get_or ts j d).0) ≡ true → list_any (is_piece e (a + j)) (cut_tagged cut (placed_from a ts)) ≡ true
  piece_to a j [] d fits has = absurd (omega arith)
  piece_to a zero (t ∷ ts) d fits has =
      let same : a ≡ a + 0 = omega arith in
      list_any-append (is_piece e (a + 0)) (tagged_by a (cut t.0)) (cut_tagged cut (placed_from (a + 1) ts))
      ∙ or_left (list_any (is_piece e (a + 0)) (tagged_by a (cut t.0))) _ (any_tagged a (a + 0) (cut t.0) ∙ and_from _ _ has (eq-eqb a (a + 0) same))
  piece_to a (suc j) (t ∷ ts) d fits has =
      let same : (a + 1) + j ≡ a + suc j = omega arith in
      list_any-append (is_piece e (a + suc j)) (tagged_by a (cut t.0)) (cut_tagged cut (placed_from (a + 1) ts))
      ∙ or_right (list_any (is_piece e (a + suc j)) (tagged_by a (cut t.0))) _ (subst (λ n. list_any (is_piece e n) (cut_tagged cut (placed_from (a + 1) ts)) ≡ true) same (piece_to (a + 1) j ts d (omega arith) has))

-- the first that passes is found
find_first : (p : Edge → Bool) (xs : List Edge) (k : ℕ) (d : Edge) → k < length xs → p (get_or xs k d) ≡ true → ((j : ℕ) → j < k → p (get_or xs j d) ≡ false) → find p xs ≡ Some (get_or xs k d)
find_first p [] k d fits here earlier = absurd (omega arith)
find_first p (x ∷ xs) zero d fits here earlier = cond-true (p x) (Some x) (find p xs) here
find_first p (x ∷ xs) (suc k) d fits here earlier = cond-false (p x) (Some x) (find p xs) (earlier 0 (omega arith)) ∙ find_first p xs k d (omega arith) here (λ j less. earlier (suc j) (omega arith))

module _ (cut : Edge → List Edge) (ts pieces : List (Edge × ℕ)) (moved : IsPermutation (cut_tagged cut (placed_from 0 ts)) pieces) (sorted : IsSorted piece_cmp pieces) where
  same_any : (q : Edge × ℕ → Bool) → list_any q (cut_tagged cut (placed_from 0 ts)) ≡ list_any q pieces
  same_any q = list_any-IsPermutation q (cut_tagged cut (placed_from 0 ts)) pieces moved

  not_less : (i j : ℕ) (d : Edge × ℕ) → i ≤ j → j < length pieces → is_lt (piece_cmp (get_or pieces j d) (get_or pieces i d)) ≡ false
  not_less i j d le fits = sorted_far (λ x y. is_lt (piece_cmp x y)) (ranks_by piece_total (λ t. t)) pieces sorted i j d le fits

  -- the edge of a later piece does not come before that of an earlier one
  edge_not_before : (i j : ℕ) (d : Edge × ℕ) → i ≤ j → j < length pieces → edge_before (get_or pieces j d).0 (get_or pieces i d).0 ≡ false
  edge_not_before i j d le fits = false_from_ne_true _ (λ h. both_ways _ (first_not_less (edge_cmp (get_or pieces j d).0 (get_or pieces i d).0) (nat_cmp (get_or pieces j d).1 (get_or pieces i d).1) (not_less i j d le fits)) (ap is_lt (less edges_by_before (get_or pieces j d).0 (get_or pieces i d).0 h)))

  module _ (n : ℕ) (d : Edge × ℕ) (fits : n < length pieces) (new : 0 < n → same_edge (get_or pieces n d).0 (get_or pieces (n - 1) d).0 ≡ false) where
    abbrev here : Edge × ℕ
    here = get_or pieces n d

    -- no piece that is the same edge has a lesser place
    none_before : (i : ℕ) → i < here.1 → list_any (is_piece here.0 i) pieces ≡ false
    none_before i less_place = false_from_ne_true _ (λ some.
        (let found = number_in (is_piece here.0 i) pieces d some in
        let m = found.0 in
        let there = and_parts (same_edge here.0 (get_or pieces m d).0) ((get_or pieces m d).1 == i) found.2 in
        let one : here.0 ≡ (get_or pieces m d).0 = (same_edge_decides here.0 (get_or pieces m d).0).0 there.0 in
        let place : (get_or pieces m d).1 ≡ i = eqb-true (get_or pieces m d).1 i there.1 in
        elim (cases_lt m n) [
          | inl lower ↦ (let last = get_or pieces (n - 1) d in
              let above : edge_before last.0 here.0 ≡ false = subst (λ e. edge_before last.0 e ≡ false) (sym one) (edge_not_before m (n - 1) d (omega (arith, lower)) (omega arith)) in
              let below : edge_before here.0 last.0 ≡ false = edge_not_before (n - 1) n d (omega arith) fits in
              both_ways _ (new (omega (arith, lower))) ((same_edge_decides here.0 last.0).1 (same_from_neither edges_by_before here.0 last.0 below above)))
          | inr higher ↦ (let lt : nat_lt (get_or pieces m d).1 here.1 ≡ true = lt-ltb (get_or pieces m d).1 here.1 (omega (arith, place, less_place)) in
              both_ways _ (sym (lt_is (get_or pieces m d) here) ∙ not_less n m d higher found.1) (or_right (edge_before (get_or pieces m d).0 here.0) _ (and_from _ _ ((same_edge_decides (get_or pieces m d).0 here.0).1 (sym one)) lt)))
        ]))

    -- the segment at the place of the first piece of an edge is the first that has it
    pub first_is : (t : Edge × ℕ) → first_with cut (segments_in ts) here.0 ≡ (get_or ts here.1 t).0
    first_is t =
        let e : Edge = here.0 in
        let some : list_any (is_piece e here.1) pieces ≡ true = list_any_at (is_piece e here.1) pieces n d fits (and_from _ _ ((same_edge_decides e e).1 refl) (eq-eqb here.1 here.1 refl)) in
        let found = piece_from cut e 0 here.1 ts (same_any (is_piece e here.1) ∙ some) in
        let place : here.1 ≡ found.0 = omega (arith, found.2) in
        let within : here.1 < length ts = omega (arith, place, found.1) in
        let at : (k : ℕ) → k < length ts → get_or (segments_in ts) k t.0 ≡ (get_or ts k t).0 = λ k lt. get_or-map (λ (u : Edge × ℕ). u.0) ts k t t.0 lt in
        let has : list_any (same_edge e) (cut (get_or (segments_in ts) here.1 t.0)) ≡ true = ap (λ s. list_any (same_edge e) (cut s)) (at here.1 within) ∙ (ap (λ k. list_any (same_edge e) (cut (get_or ts k t).0)) place ∙ found.3 t) in
        let earlier : (j : ℕ) → j < here.1 → list_any (same_edge e) (cut (get_or (segments_in ts) j t.0)) ≡ false = λ j lower. false_from_ne_true _ (λ h.
        (let low : 0 + j < here.1 = omega (arith, lower) in
        both_ways _ (none_before (0 + j) low) (sym (same_any (is_piece e (0 + j))) ∙ piece_to cut e 0 j ts t (omega (arith, lower, within)) (sym (ap (λ s. list_any (same_edge e) (cut s)) (at j (omega (arith, lower, within)))) ∙ h)))) in
        ap (λ o. unwrap_or o e) (find_first (λ s. list_any (same_edge e) (cut s)) (segments_in ts) here.1 t.0 (omega (arith, within, length-map ts (λ (u : Edge × ℕ). u.0))) has earlier) ∙ at here.1 within

-- ---- the source
-- equal neighbours change nothing
find_dedup_from : (p : Edge → Bool) (k : Edge) (xs : List Edge) → find p (dedup_from same_edge k xs) ≡ find p (k ∷ xs)
find_dedup_from p k [] = refl
find_dedup_from p k (x ∷ xs) = elim (cases_Bool (same_edge x k)) [
  | inl same ↦ (let one : x ≡ k = (same_edge_decides x k).0 same in
      ap (find p) (cond-true _ _ _ same) ∙ (find_dedup_from p k xs ∙ again (p k) refl (ap p one)))
  | inr other ↦ ap (find p) (cond-false _ _ _ other) ∙ ap (λ o. if p k then Some k else o) (find_dedup_from p x xs)
]
  where
    again : (b : Bool) → p k ≡ b → p x ≡ p k → find p (k ∷ xs) ≡ find p (k ∷ x ∷ xs)
    again true is one = cond-true _ _ _ is ∙ sym (cond-true _ _ _ is)
    again false is one = ap (λ o. if p k then Some k else o) (sym (cond-false _ _ _ (one ∙ is)))

find_dedup : (p : Edge → Bool) (xs : List Edge) → find p (dedup same_edge xs) ≡ find p xs
find_dedup p [] = refl
find_dedup p (x ∷ xs) = find_dedup_from p x xs

-- the first of the segments of a layer in order that has an edge is the least
pub source_is : (cut : Edge → List Edge) (layer : List Rings) (ts : List (Edge × ℕ)) → IsSortedBy edge_before (segments_in ts) → sorted_set edge_before (segments_in ts) ≡ pieces_of whole layer → (e : Edge) → first_with cut (segments_in ts) e ≡ source_in cut layer e
source_is cut layer ts in_order edges e =
    let p : Edge → Bool = λ s. list_any (same_edge e) (cut s) in
    let once : dedup same_edge (segments_in ts) ≡ sorted_set edge_before (layer_segments layer) = edges_left ts in_order ∙ (edges ∙ ap (sorted_set edge_before) (flat_map_single (λ (s : Edge). s) (layer_segments layer) ∙ map-id (layer_segments layer))) in
    ap (λ o. unwrap_or o e) (sym (find_dedup p (segments_in ts)) ∙ ap (find p) once)
