-- Pieces sorted by their edges and then by their features: the features of an edge stand as they do in the layer.
use Rattle.std.proofs.Common.{◌≡◌, ℕ, suc, ◌+◌, ◌<◌, ◌≤◌, Bool, true, false, cond, not, ◌&&◌, ◌||◌, List, [], ◌∷◌, ◌++◌, length, get_or, map, refl, sym, ◌∙◌, ap, ap₂, inl, inr, arith, Ordering, Less, Equal, Greater}
use Rattle.std.specs.Prelude.{◌==◌, nat_lt, filter, count_by, sum_by}
use Rattle.std.specs.{Cmp.IsTotalOrder, List.list_all, List.list_any, List.flat_map}
use Rattle.std.specs.List.Sorted.{IsPermutation, IsSorted, IsSortedByKey}
use Rattle.std.specs.Ordering.{is_lt, nat_cmp, ordering_then}
use Rattle.std.proofs.lemmas.Bool.{and_from, and_parts, both_ways, cases_Bool, cases_lt, cases_order, cond-true, cond-false, eq-eqb, le-ltb, lt-ltb, ne_eqb, not-true, not_from_false}
use Rattle.std.proofs.lemmas.Cmp.{by_ranked, nat_cmp_total, on_total, then_total}
use Rattle.std.proofs.lemmas.List.Folds.{list_any-append}
use Rattle.std.proofs.lemmas.List.Sorted.{list_any-IsPermutation, ranks_by, sorted_far, sum_by-IsPermutation}
use Rattle.std.proofs.lemmas.List.Sums.{list_all-from_AllPass, sum_by-append, sum_by-cons}
use Rattle.loc_spec_plane.specs.Points.{Point, Edge, edge_before, same_edge}
use Rattle.loc_spec_plane.specs.{Lists.is_rising, Lists.sorted_set, Rings.Rings, Rings.segments}
use Rattle.loc_spec_plane.specs.Tables.{cut_at, layer_corners, layer_segments, numbered_ends, pieces_of, source_in}
use Rattle.loc_laws_order.proofs.{Kept.rising_kept, Tests.same_edge_decides}
use Rattle.loc_laws_noding.proofs.{Noded.cutting_noded, Orders.edge_cmp, Orders.edges_by_before}
use Rattle.loc_laws_noding.proofs.SortedSet.{irrefl, same-sorted_set}
use Rattle.loc_edges.specs.Layers.{AreOfLayer}
use Rattle.loc_edges.specs.Tagged.{features_of, segments_in, tagged_by, tagged_from, tagged_pieces}
use Rattle.loc_edges.proofs.MarkRows.{features_of-append}
use Rattle.loc_edges.proofs.Tagged.{in_order as edges_in_order, segments_in-pieces}
use Rattle.loc_node.specs.Pieces.{cut_tagged}
use Rattle.loc_node.proofs.Cutting.{cut_layer, own}

-- ---- numbers in order
-- 1 where a test passes
abbrev bit : Bool → ℕ
bit b = cond b 1 0

-- the second number is no less
abbrev up : ℕ → ℕ → Bool
up a b = not (nat_lt b a)

-- a number that is less than all does not stand there
none_less : (x y : ℕ) (ys : List ℕ) → x < y → list_all (up y) ys ≡ true → count_by (λ z. z == x) ys ≡ 0
none_less x y [] less all = refl
none_less x y (z ∷ zs) less all =
    let parts = and_parts (up y z) (list_all (up y) zs) all in
    let other : (z == x) ≡ false = elim (cases_lt z y) [
      | inl low ↦ absurd (both_ways _ (not-true _ parts.0) (lt-ltb z y low))
      | inr high ↦ ne_eqb z x (λ same. omega arith)
    ] in
    let one : bit (z == x) ≡ 0 = ap (λ b. bit b) other in
    omega (arith, one, none_less x y zs less parts.1, sum_by-cons (λ w. bit (w == x)) z zs)

-- so it is not the first of numbers in order
not_first : (x y : ℕ) (xs ys : List ℕ) → x < y → list_all (up y) ys ≡ true → count_by (λ z. z == x) (x ∷ xs) ≡ count_by (λ z. z == x) (y ∷ ys) → ⊥
not_first x y xs ys less all same =
    let here : bit (x == x) ≡ 1 = ap (λ b. bit b) (eq-eqb x x refl) in
    let there : bit (y == x) ≡ 0 = ap (λ b. bit b) (ne_eqb y x (λ e. omega arith)) in
    omega (arith, same, here, there, none_less x y ys less all, sum_by-cons (λ w. bit (w == x)) x xs, sum_by-cons (λ w. bit (w == x)) y ys)

-- two lists in order are one where each test is passed equally often
one_list : (xs ys : List ℕ) → is_rising up xs ≡ true → is_rising up ys ≡ true → ((p : ℕ → Bool) → count_by p xs ≡ count_by p ys) → xs ≡ ys
one_list [] [] h k same = refl
one_list [] (y ∷ ys) h k same = absurd (omega (arith, same (λ z. true), sum_by-cons (λ (z : ℕ). 1) y ys))
one_list (x ∷ xs) [] h k same = absurd (omega (arith, same (λ z. true), sum_by-cons (λ (z : ℕ). 1) x xs))
one_list (x ∷ xs) (y ∷ ys) h k same =
    let hs = and_parts (list_all (up x) xs) (is_rising up xs) h in
    let ks = and_parts (list_all (up y) ys) (is_rising up ys) k in
    let first : x ≡ y = elim (cases_order x y) [
      | inl equal ↦ equal
      | inr differ ↦ elim differ [
        | inl less ↦ absurd (not_first x y xs ys less ks.0 (same (λ z. z == x)))
        | inr more ↦ absurd (not_first y x ys xs more hs.0 (sym (same (λ z. z == y))))
      ]
    ] in
    ap₂ (λ z zs. z ∷ zs) first (one_list xs ys hs.1 ks.1 (λ p. (let alike : bit (p x) ≡ bit (p y) = ap (λ z. bit (p z)) first in
    omega (arith, alike, same p, sum_by-cons (λ z. bit (p z)) x xs, sum_by-cons (λ z. bit (p z)) y ys))))

-- ---- pieces in order
-- by the edge, then by the feature
abbrev pub piece_cmp : Edge × ℕ → Edge × ℕ → Ordering
piece_cmp a b = ordering_then (edge_cmp a.0 b.0) (nat_cmp a.1 b.1)

pub piece_total : IsTotalOrder piece_cmp
piece_total = then_total (on_total (λ (t : Edge × ℕ). t.0) edges_by_before.total) (on_total (λ (t : Edge × ℕ). t.1) nat_cmp_total)

pub first_not_less : (r s : Ordering) → is_lt (ordering_then r s) ≡ false → is_lt r ≡ false
first_not_less Less s h = h
first_not_less Equal s h = refl
first_not_less Greater s h = refl

-- the edges are in order
pub by_edge_first : (ts : List (Edge × ℕ)) → IsSorted piece_cmp ts → IsSortedByKey (λ (t : Edge × ℕ). t.0) edge_cmp ts
by_edge_first ts sorted k d low lt = first_not_less _ _ (sorted k d low lt)

-- b is not less than a
abbrev later : Edge × ℕ → Edge × ℕ → Bool
later a b = not (is_lt (piece_cmp b a))

-- members in order by index
up_from : {X : Type 0} (R : X → X → Bool) (xs : List X) → ((i j : ℕ) (d : X) → i < j → j < length xs → R (get_or xs i d) (get_or xs j d) ≡ true) → is_rising R xs ≡ true
up_from R [] h = refl
up_from R (x ∷ xs) h = and_from _ _ (list_all-from_AllPass (R x) xs (λ k d lt. h 0 (suc k) d (omega arith) (omega arith))) (up_from R xs (λ i j d less lt. h (suc i) (suc j) d (omega arith) (omega arith)))

sorted_later : (ts : List (Edge × ℕ)) → IsSorted piece_cmp ts → is_rising later ts ≡ true
sorted_later ts sorted = up_from later ts (λ i j d less lt. not_from_false _ (sorted_far (λ x y. is_lt (piece_cmp x y)) (ranks_by piece_total (λ t. t)) ts sorted i j d (omega arith) lt))

filtered : {X : Type 0} (p : X → Bool) (xs : List X) → list_all p (filter p xs) ≡ true
filtered p [] = refl
filtered p (x ∷ xs) = elim (cases_Bool (p x)) [
  | inl here ↦ ap (list_all p) (cond-true (p x) (x ∷ filter p xs) (filter p xs) here) ∙ and_from (p x) _ here (filtered p xs)
  | inr other ↦ ap (list_all p) (cond-false (p x) (x ∷ filter p xs) (filter p xs) other) ∙ filtered p xs
]

module _ (e : Edge) where
  abbrev is_of : Edge × ℕ → Bool
  is_of t = same_edge e t.0

  pub edge_ties : (d : Edge) → edge_cmp d d ≡ Equal
  edge_ties d = by_ranked _ _ _ (edge_cmp d d) (edges_by_before.ranked d d) (λ _ lt. absurd (both_ways _ (irrefl edges_by_before d) lt)) (λ is _. is) (λ _ gt. absurd (both_ways _ (irrefl edges_by_before d) gt))

  -- of two pieces that are e the later has no lesser feature
  step : (a b : Edge × ℕ) → is_of a ≡ true → is_of b ≡ true → later a b ≡ true → up a.1 b.1 ≡ true
  step a b ha hb h =
      let one : b.0 ≡ a.0 = sym ((same_edge_decides e b.0).0 hb) ∙ (same_edge_decides e a.0).0 ha in
      let ties : edge_cmp b.0 a.0 ≡ Equal = ap (λ d. edge_cmp d a.0) one ∙ edge_ties a.0 in
      let by_feature : is_lt (nat_cmp b.1 a.1) ≡ false = sym (ap (λ r. is_lt (ordering_then r (nat_cmp b.1 a.1))) ties) ∙ not-true _ h in
      elim (cases_Bool (nat_lt b.1 a.1)) [
        | inl less ↦ absurd (both_ways _ by_feature (ap is_lt (cond-true _ _ _ less)))
        | inr not_less ↦ not_from_false _ not_less
      ]

  steps : (a : Edge × ℕ) (ts : List (Edge × ℕ)) → is_of a ≡ true → list_all is_of ts ≡ true → list_all (later a) ts ≡ true → list_all (up a.1) (map (λ (t : Edge × ℕ). t.1) ts) ≡ true
  steps a [] ha hs h = refl
  steps a (t ∷ ts) ha hs h =
      let ofs = and_parts (is_of t) (list_all is_of ts) hs in
      let parts = and_parts (later a t) (list_all (later a) ts) h in
      and_from _ _ (step a t ha ofs.0 parts.0) (steps a ts ha ofs.1 parts.1)

  firsts : (ts : List (Edge × ℕ)) → list_all is_of ts ≡ true → is_rising later ts ≡ true → is_rising up (map (λ (t : Edge × ℕ). t.1) ts) ≡ true
  firsts [] hs h = refl
  firsts (t ∷ ts) hs h =
      let ofs = and_parts (is_of t) (list_all is_of ts) hs in
      let parts = and_parts (list_all (later t) ts) (is_rising later ts) h in
      and_from _ _ (steps t ts ofs.0 ofs.1 parts.0) (firsts ts ofs.1 parts.1)

  -- the features of an edge are in order
  features_up : (ts : List (Edge × ℕ)) → IsSorted piece_cmp ts → is_rising up (features_of ts e) ≡ true
  features_up ts sorted = firsts (filter is_of ts) (filtered is_of ts) (rising_kept is_of later ts (sorted_later ts sorted))

  -- with those of a feature in front of no lesser ones they are in order
  with_own : (a : ℕ) (ds : List Edge) (fs : List ℕ) → is_rising up fs ≡ true → ((b : ℕ) → b ≤ a → list_all (up b) fs ≡ true) → (is_rising up (features_of (tagged_by a ds) e ++ fs) ≡ true) × ((b : ℕ) → b ≤ a → list_all (up b) (features_of (tagged_by a ds) e ++ fs) ≡ true)
  with_own a [] fs h later_ones = (h, later_ones)
  with_own a (d ∷ ds) fs h later_ones =
      let rest = with_own a ds fs h later_ones in
      elim (cases_Bool (same_edge e d)) [
        | inl hit ↦ (let more = ap (λ (us : List (Edge × ℕ)). map (λ (t : Edge × ℕ). t.1) us ++ fs) (cond-true (same_edge e d) ((d, a) ∷ filter is_of (tagged_by a ds)) (filter is_of (tagged_by a ds)) hit) in (
          ap (is_rising up) more ∙ and_from _ _ (rest.1 a (omega arith)) rest.0,
          λ b le. ap (list_all (up b)) more ∙ and_from _ _ (not_from_false _ (le-ltb a b le)) (rest.1 b le),
        ))
        | inr miss ↦ (let same = ap (λ (us : List (Edge × ℕ)). map (λ (t : Edge × ℕ). t.1) us ++ fs) (cond-false (same_edge e d) ((d, a) ∷ filter is_of (tagged_by a ds)) (filter is_of (tagged_by a ds)) miss) in (
          ap (is_rising up) same ∙ rest.0,
          λ b le. ap (list_all (up b)) same ∙ rest.1 b le,
        ))
      ]

  -- those of a layer
  layer_up : (cut : Edge → List Edge) (a : ℕ) (layer : List Rings) → (is_rising up (features_of (tagged_pieces cut a layer) e) ≡ true) × ((b : ℕ) → b ≤ a → list_all (up b) (features_of (tagged_pieces cut a layer) e) ≡ true)
  layer_up cut a [] = (refl, λ b le. refl)
  layer_up cut a (r ∷ rs) =
      let first = tagged_by a (flat_map cut (segments r)) in
      let rest = layer_up cut (a + 1) rs in
      let both = features_of-append e first (tagged_pieces cut (a + 1) rs) in
      let all = with_own a (flat_map cut (segments r)) (features_of (tagged_pieces cut (a + 1) rs) e) rest.0 (λ b le. rest.1 b (omega arith)) in
      (ap (is_rising up) both ∙ all.0, λ b le. ap (list_all (up b)) both ∙ all.1 b le)

  count_features : (p : ℕ → Bool) (ts : List (Edge × ℕ)) → count_by p (features_of ts e) ≡ count_by (λ (t : Edge × ℕ). is_of t && p t.1) ts
  count_features p [] = refl
  count_features p (t ∷ ts) =
      let f : Edge × ℕ → ℕ = λ u. bit (same_edge e u.0 && p u.1) in
      let rest = count_features p ts in
      let all = sum_by-cons f t ts in
      elim (cases_Bool (same_edge e t.0)) [
        | inl hit ↦ (let more = ap (λ (us : List (Edge × ℕ)). count_by p (map (λ (u : Edge × ℕ). u.1) us)) (cond-true (same_edge e t.0) (t ∷ filter is_of ts) (filter is_of ts) hit) in
            let own : bit (same_edge e t.0 && p t.1) ≡ bit (p t.1) = ap (λ b. bit (b && p t.1)) hit in
            omega (arith, more, own, rest, all, sum_by-cons (λ n. bit (p n)) t.1 (features_of ts e)))
        | inr miss ↦ (let same = ap (λ (us : List (Edge × ℕ)). count_by p (map (λ (u : Edge × ℕ). u.1) us)) (cond-false (same_edge e t.0) (t ∷ filter is_of ts) (filter is_of ts) miss) in
            let own : bit (same_edge e t.0 && p t.1) ≡ 0 = ap (λ b. bit (b && p t.1)) miss in
            omega (arith, same, own, rest, all))
      ]

-- ---- pieces of segments in another order
count_flat : {X Y : Type 0} (q : Y → Bool) (f : X → List Y) (xs : List X) → count_by q (flat_map f xs) ≡ sum_by (λ x. count_by q (f x)) xs
count_flat q f [] = refl
count_flat q f (x ∷ xs) = omega (arith, sum_by-append (λ y. bit (q y)) (f x) (flat_map f xs), count_flat q f xs, sum_by-cons (λ y. count_by q (f y)) x xs)

any_flat : {X Y : Type 0} (q : Y → Bool) (f : X → List Y) (xs : List X) → list_any q (flat_map f xs) ≡ list_any (λ x. list_any q (f x)) xs
any_flat q f [] = refl
any_flat q f (x ∷ xs) = list_any-append q (f x) (flat_map f xs) ∙ ap (λ b. list_any q (f x) || b) (any_flat q f xs)

any_segment : (p : Edge → Bool) (ts : List (Edge × ℕ)) → list_any p (segments_in ts) ≡ list_any (λ (t : Edge × ℕ). p t.0) ts
any_segment p [] = refl
any_segment p (t ∷ ts) = ap (λ b. p t.0 || b) (any_segment p ts)

module _ (cut : Edge → List Edge) (layer : List Rings) (tagged pieces : List (Edge × ℕ)) (from : IsPermutation (tagged_from 0 layer) tagged) (moved : IsPermutation (cut_tagged cut tagged) pieces) where
  -- each test is passed equally often
  same_counts : (q : Edge × ℕ → Bool) → count_by q pieces ≡ count_by q (tagged_pieces cut 0 layer)
  same_counts q =
      sum_by-IsPermutation (λ t. bit (q t)) (cut_tagged cut tagged) pieces moved
      ∙ (count_flat q (own cut) tagged
      ∙ (sum_by-IsPermutation (λ t. count_by q (own cut t)) (tagged_from 0 layer) tagged from
      ∙ (sym (count_flat q (own cut) (tagged_from 0 layer)) ∙ ap (count_by q) (cut_layer cut 0 layer))))

  same_members : (q : Edge × ℕ → Bool) → list_any q pieces ≡ list_any q (tagged_pieces cut 0 layer)
  same_members q =
      sym (list_any-IsPermutation q (cut_tagged cut tagged) pieces moved)
      ∙ (any_flat q (own cut) tagged
      ∙ (sym (list_any-IsPermutation (λ t. list_any q (own cut t)) (tagged_from 0 layer) tagged from)
      ∙ (sym (any_flat q (own cut) (tagged_from 0 layer)) ∙ ap (list_any q) (cut_layer cut 0 layer))))

  -- the edges are those of the layer
  pub pieces_stay : sorted_set edge_before (segments_in pieces) ≡ pieces_of cut layer
  pieces_stay = same-sorted_set edges_by_before (segments_in pieces) (flat_map cut (layer_segments layer)) (λ p. any_segment p pieces ∙ (same_members (λ (t : Edge × ℕ). p t.0) ∙ (sym (any_segment p (tagged_pieces cut 0 layer)) ∙ ap (list_any p) (segments_in-pieces cut 0 layer))))

  -- and so are the features of each
  pub features_sorted : IsSorted piece_cmp pieces → (e : Edge) → features_of pieces e ≡ features_of (tagged_pieces cut 0 layer) e
  features_sorted sorted e =
      one_list (features_of pieces e) (features_of (tagged_pieces cut 0 layer) e) (features_up e pieces sorted) (layer_up e cut 0 layer).0
      (λ p. count_features e p pieces ∙ (same_counts (λ (t : Edge × ℕ). same_edge e t.0 && p t.1) ∙ sym (count_features e p (tagged_pieces cut 0 layer))))

-- the lists of a layer whose segments are cut at the corners on them, as they are made one from another
pub noded_lists : (layer : List Rings) (corners : List Point) (tagged pieces : List (Edge × ℕ)) (edges : List Edge) (ends sources : List (ℕ × ℕ))
    → corners ≡ layer_corners layer → IsPermutation (tagged_from 0 layer) tagged → IsPermutation (cut_tagged (cut_at (layer_corners layer)) tagged) pieces → IsSorted piece_cmp pieces
    → edges ≡ pieces_of (cut_at (layer_corners layer)) layer → ends ≡ map (numbered_ends layer) (pieces_of (cut_at (layer_corners layer)) layer) → sources ≡ map (λ (e : Edge). numbered_ends layer (source_in (cut_at (layer_corners layer)) layer e)) (pieces_of (cut_at (layer_corners layer)) layer)
    → AreOfLayer (cut_at (layer_corners layer)) layer corners edges ends sources pieces
noded_lists layer corners tagged pieces edges ends sources corners_are from moved sorted edges_are ends_are sources_are = record {
  is_cutting = cutting_noded layer;
  corners_are = corners_are;
  edges_are = edges_are;
  ends_are = ends_are;
  sources_are = sources_are;
  in_order = edges_in_order pieces (by_edge_first pieces sorted);
  distinct = pieces_stay (cut_at (layer_corners layer)) layer tagged pieces from moved;
  features = features_sorted (cut_at (layer_corners layer)) layer tagged pieces from moved sorted;
}
