-- The segments of a layer with their features, as one more feature comes, and sorted.
use Rattle.std.proofs.Common.{◌≡◌, ℕ, suc, ◌+◌, ◌-◌, ◌<◌, ◌≤◌, not, List, [], ◌∷◌, ◌++◌, length, get_or, drop, map, refl, sym, ◌∙◌, ap, ap₂, arith, append-nil}
use Rattle.std.specs.Prelude.{◌&&◌, All, filter}
use Rattle.std.specs.{List.flat_map, Ordering.is_lt}
use Rattle.std.specs.List.Sorted.{IsPermutation, IsSorted, IsSortedBy, IsSortedByKey, IsStableByKey}
use Rattle.std.proofs.lemmas.Bool.{both_ways, false_from_ne_true}
use Rattle.std.proofs.lemmas.List.{append_assoc, length-drop, length-map, map-append, map-id, get_or-map}
use Rattle.std.proofs.lemmas.List.Concat.{flat_map-append, flat_map_single}
use Rattle.std.proofs.lemmas.List.Elements.{All-append, All-cons, filter_agree}
use Rattle.std.proofs.lemmas.List.Sorted.{IsPermutation-map, list_any-IsPermutation}
use Rattle.loc_spec_plane.specs.Points.{Point, Edge, same_edge, edge_before}
use Rattle.loc_spec_plane.specs.{Lists.sorted_set, Tables.layer_segments, Tables.pieces_of, Tables.whole}
use Rattle.loc_spec_plane.specs.Rings.{Ring, Rings, ring_segments, segments}
use Rattle.loc_laws_order.proofs.Tests.{same_edge_decides}
use Rattle.loc_laws_rays.proofs.RayRings.{no_segment}
use Rattle.loc_rings.proofs.Passes.{from_point}
use Rattle.loc_edges.specs.Tagged.{tagged_by, tagged_from, tagged_pieces, segments_in, features_of}
use Rattle.loc_laws_noding.proofs.Orders.{edge_cmp, edges_by_before}
use Rattle.loc_laws_noding.proofs.SortedSet.{is_less, less, from_less, same-sorted_set, tie_is}

-- one more feature
pub tagged_more : (a : ℕ) (layer : List Rings) (r : Rings) → tagged_from a (layer ++ r ∷ []) ≡ tagged_from a layer ++ tagged_by (a + length layer) (segments r)
tagged_more a [] r = let same : a ≡ a + 0 = omega arith in append-nil (tagged_by a (segments r)) ∙ ap (λ n. tagged_by n (segments r)) same
tagged_more a (q ∷ qs) r =
    let same : (a + 1) + length qs ≡ a + suc (length qs) = omega arith in
    ap (λ ts. tagged_by a (segments q) ++ ts) (tagged_more (a + 1) qs r ∙ ap (λ n. tagged_from (a + 1) qs ++ tagged_by n (segments r)) same)
    ∙ sym (append_assoc (tagged_by a (segments q)) (tagged_from (a + 1) qs) (tagged_by (a + suc (length qs)) (segments r)))

-- one more segment of a ring, between its points a and b
pub ring_more : (ring : Ring) (f n : ℕ) (a b : Point) (tagged grown all : List (Edge × ℕ)) → 1 ≤ n → n < length ring → a ≡ get_or ring (n - 1) a → b ≡ get_or ring n b → grown ≡ tagged ++ tagged_by f (ring_segments (a ∷ b ∷ [])) → tagged ++ tagged_by f (ring_segments (drop (n - 1) ring)) ≡ all → grown ++ tagged_by f (ring_segments (drop (n + 1 - 1) ring)) ≡ all
ring_more ring f n a b tagged grown all some fits is_a is_b put were =
    let back : n - 1 + 1 ≡ n = omega (arith, some) in
    let next : n + 1 - 1 ≡ n - 1 + 1 = omega (arith, some) in
    let part : List Edge = ring_segments (a ∷ b ∷ []) in
    let rest : List Edge = ring_segments (drop (n - 1 + 1) ring) in
    ap (λ k. grown ++ tagged_by f (ring_segments (drop k ring))) next
    ∙ (ap (λ ts. ts ++ tagged_by f rest) put
    ∙ (append_assoc tagged (tagged_by f part) (tagged_by f rest)
    ∙ (ap (λ ts. tagged ++ ts) (sym (map-append (λ (s : Edge). (s, f)) part rest))
    ∙ (ap (λ ss. tagged ++ tagged_by f ss) (sym (from_point ring (n - 1) a b (omega (arith, back, fits)) is_a (is_b ∙ ap (λ k. get_or ring k b) (sym back)))) ∙ were))))

-- behind the last point but one a ring has no segment
pub ring_all : (ring : Ring) (f n : ℕ) (tagged all : List (Edge × ℕ)) → length ring ≤ n → tagged ++ tagged_by f (ring_segments (drop (n - 1) ring)) ≡ all → tagged ≡ all
ring_all ring f n tagged all past were = sym (append-nil tagged) ∙ (ap (λ ss. tagged ++ tagged_by f ss) (sym (no_segment (drop (n - 1) ring) (omega (arith, length-drop (n - 1) ring, past)))) ∙ were)

segments_in-append : (ts us : List (Edge × ℕ)) → segments_in (ts ++ us) ≡ segments_in ts ++ segments_in us
segments_in-append [] us = refl
segments_in-append (t ∷ ts) us = ap (λ es. t.0 ∷ es) (segments_in-append ts us)

-- the segments alone
segments_in-tagged_by : (a : ℕ) (ss : List Edge) → segments_in (tagged_by a ss) ≡ ss
segments_in-tagged_by a [] = refl
segments_in-tagged_by a (s ∷ ss) = ap (λ es. s ∷ es) (segments_in-tagged_by a ss)

pub segments_in-pieces : (cut : Edge → List Edge) (a : ℕ) (layer : List Rings) → segments_in (tagged_pieces cut a layer) ≡ flat_map cut (layer_segments layer)
segments_in-pieces cut a [] = refl
segments_in-pieces cut a (r ∷ rs) =
    segments_in-append (tagged_by a (flat_map cut (segments r))) (tagged_pieces cut (a + 1) rs)
    ∙ (ap₂ (λ es ds. es ++ ds) (segments_in-tagged_by a (flat_map cut (segments r))) (segments_in-pieces cut (a + 1) rs) ∙ sym (flat_map-append cut (segments r) (layer_segments rs)))

-- where nothing is cut the segments are the pieces
pub tagged_pieces-whole : (a : ℕ) (layer : List Rings) → tagged_from a layer ≡ tagged_pieces whole a layer
tagged_pieces-whole a [] = refl
tagged_pieces-whole a (r ∷ rs) = ap₂ (λ ss ts. tagged_by a ss ++ ts) (sym (flat_map_single (λ (s : Edge). s) (segments r) ∙ map-id (segments r))) (tagged_pieces-whole (a + 1) rs)

-- the features are those of the layer
pub features_fit : (cut : Edge → List Edge) (a : ℕ) (layer : List Rings) → All (λ (t : Edge × ℕ). t.1 < a + length layer) (tagged_pieces cut a layer)
features_fit cut a [] = λ k d lt. absurd (omega arith)
features_fit cut a (r ∷ rs) = All-append (λ (t : Edge × ℕ). t.1 < a + suc (length rs)) (tagged_by a (flat_map cut (segments r))) (tagged_pieces cut (a + 1) rs) (own (flat_map cut (segments r))) (λ k d lt. omega (arith, features_fit cut (a + 1) rs k d lt))
  where
    own : (es : List Edge) → All (λ (t : Edge × ℕ). t.1 < a + suc (length rs)) (tagged_by a es)
    own [] = λ k d lt. absurd (omega arith)
    own (e ∷ es) = All-cons (λ (t : Edge × ℕ). t.1 < a + suc (length rs)) (e, a) (tagged_by a es) (omega arith) (own es)

-- ---- sorted by the edges
-- the edges are in order
pub in_order : (ts : List (Edge × ℕ)) → IsSortedByKey (λ (t : Edge × ℕ). t.0) edge_cmp ts → IsSortedBy edge_before (segments_in ts)
in_order ts sorted k d low lt =
    let long : k + 1 < length ts = omega (arith, lt, length-map ts (λ (t : Edge × ℕ). t.0)) in
    let here : get_or (segments_in ts) k d ≡ (get_or ts k (d, 0)).0 = get_or-map (λ (t : Edge × ℕ). t.0) ts k (d, 0) d (omega arith) in
    let next : get_or (segments_in ts) (k + 1) d ≡ (get_or ts (k + 1) (d, 0)).0 = get_or-map (λ (t : Edge × ℕ). t.0) ts (k + 1) (d, 0) d long in
    false_from_ne_true _ (λ h. both_ways _ (sorted k (d, 0) low long) (ap is_lt (less edges_by_before (get_or ts (k + 1) (d, 0)).0 (get_or ts k (d, 0)).0 (sym (ap (λ e. edge_before e (get_or (segments_in ts) k d)) next ∙ ap (λ e. edge_before (get_or ts (k + 1) (d, 0)).0 e) here) ∙ h))))

-- std's word for it
pub is_sorted : (es : List Edge) → IsSortedBy edge_before es → IsSorted edge_cmp es
is_sorted es sorted k d low lt = false_from_ne_true _ (λ h. both_ways _ (sorted k d low lt) (from_less edges_by_before (get_or es (k + 1) d) (get_or es k d) (is_less _ h)))

-- the features of each edge stand in their order
pub features_stay : (xs ys : List (Edge × ℕ)) → IsStableByKey (λ (t : Edge × ℕ). t.0) edge_cmp xs ys → (e : Edge) → features_of ys e ≡ features_of xs e
features_stay xs ys stable e = ap (map (λ (t : Edge × ℕ). t.1)) (sym (agree ys) ∙ (stable (e, 0) ∙ agree xs))
  where
    agree : (zs : List (Edge × ℕ)) → filter (λ (t : Edge × ℕ). not (is_lt (edge_cmp e t.0)) && not (is_lt (edge_cmp t.0 e))) zs ≡ filter (λ (t : Edge × ℕ). same_edge e t.0) zs
    agree zs = filter_agree _ _ (λ t. tie_is edges_by_before same_edge same_edge_decides e t.0) zs

-- the edges of a layer
pub edges_stay : (cut : Edge → List Edge) (layer : List Rings) (ys : List (Edge × ℕ)) → IsPermutation (tagged_pieces cut 0 layer) ys → sorted_set edge_before (segments_in ys) ≡ pieces_of cut layer
edges_stay cut layer ys moved =
    same-sorted_set edges_by_before (segments_in ys) (segments_in (tagged_pieces cut 0 layer)) (λ p. sym (list_any-IsPermutation p (segments_in (tagged_pieces cut 0 layer)) (segments_in ys) (IsPermutation-map (λ (t : Edge × ℕ). t.0) (tagged_pieces cut 0 layer) ys moved)))
    ∙ ap (sorted_set edge_before) (segments_in-pieces cut 0 layer)
