-- The first of pieces in order that stands there more than once.
use Rattle.std.proofs.Common.{◌≡◌, ℕ, ◌+◌, ◌-◌, ◌<◌, ◌≤◌, true, false, cond, List, [], ◌∷◌, length, take, get_or, refl, sym, ◌∙◌, ap, subst, inl, inr, arith}
use Rattle.std.specs.Prelude.{count_by, sum_by, Option, Some, None}
use Rattle.std.specs.{Cmp.IsStrictWeakOrder, List.Sorted.IsPermutation, List.Sorted.IsSortedBy}
use Rattle.std.proofs.lemmas.Bool.{both_ways, cases_Bool, false_from_ne_true}
use Rattle.std.proofs.lemmas.List.{get_or-map, length-map, length-take}
use Rattle.std.proofs.lemmas.List.Sums.{count_by-le-length, sum_by-append, sum_by-cons}
use Rattle.std.proofs.lemmas.List.Sorted.{sum_by-IsPermutation}
use Rattle.loc_spec_plane.specs.{Points.Edge, Points.edge_before, Points.same_edge, Rings.Rings}
use Rattle.loc_spec_plane.specs.Tables.{cut_at, layer_corners}
use Rattle.loc_laws_repeats.specs.Repeats.{IsFirstTwice}
use Rattle.loc_laws_repeats.proofs.Repeats.{few_all, few_before, few_more, many_at}
use Rattle.loc_laws_order.proofs.{TableOrder.origin_point, Tests.same_edge_decides}
use Rattle.loc_laws_noding.proofs.Orders.{edges_by_before}
use Rattle.loc_laws_noding.proofs.SortedSet.{from_less, less, same_from_neither}
use Rattle.loc_edges.specs.Tagged.{segments_in, tagged_from}
use Rattle.loc_node.specs.Pieces.{cut_tagged, layer_pieces, placed_from}
use Rattle.loc_edges.proofs.Tagged.{segments_in-pieces}
use Rattle.loc_node.proofs.{Cutting.cut_layer, Cutting.own, NodedLists.edges_kept, Placed.featured_are}

no_edge : Edge
no_edge = record { lo = origin_point; hi = origin_point }

pub no_piece : Edge × ℕ
no_piece = (no_edge, 0)

-- edges are in a strict order
edge_order : IsStrictWeakOrder edge_before
edge_order = record {
  one_way = λ x y h. false_from_ne_true (edge_before y x) (edges_by_before.asym x y h);
  chain = λ x y z xy yz. false_from_ne_true (edge_before x z) (λ xz. elim (cases_Bool (edge_before y x)) [
    | inl yx ↦ both_ways (edge_before y z) yz (from_less edges_by_before y z (edges_by_before.total.trans y x z (less edges_by_before y x yx) (less edges_by_before x z xz)))
    | inr off ↦ both_ways (edge_before y z) yz (subst (λ w. edge_before w z ≡ true) (same_from_neither edges_by_before x y xy off) xz)
  ]);
}

module _ (ps : List (Edge × ℕ)) (up : IsSortedBy edge_before (segments_in ps)) where
  abbrev es : List Edge
  es = segments_in ps

  -- among the first n pieces no edge stands more than once
  abbrev pub FewBefore : ℕ → Type 0
  FewBefore n = (x : Edge) → count_by (same_edge x) (take n es) ≤ 1

  as_many : length es ≡ length ps
  as_many = length-map ps (λ (t : Edge × ℕ). t.0)

  at : (n : ℕ) (d : Edge × ℕ) → n < length ps → get_or es n d.0 ≡ (get_or ps n d).0
  at n d fits = get_or-map (λ (t : Edge × ℕ). t.0) ps n d d.0 fits

  pub start : FewBefore 1
  start x = omega (arith, count_by-le-length (same_edge x) (take 1 es), length-take 1 es)

  -- one piece more, which is not the edge that the one before it is
  pub more : (n : ℕ) (d : Edge × ℕ) → 1 ≤ n → n < length ps → same_edge (get_or ps n d).0 (get_or ps (n - 1) d).0 ≡ false → FewBefore n → FewBefore (n + 1)
  more n d some fits off few = few_more edge_before edge_order (same_from_neither edges_by_before) same_edge same_edge_decides 1 (omega arith) es d.0 up n (omega (arith, as_many)) (λ le same. both_ways (same_edge (get_or ps n d).0 (get_or ps (n - 1) d).0) off ((same_edge_decides (get_or ps n d).0 (get_or ps (n - 1) d).0).1 (sym (at n d fits) ∙ (sym same ∙ at (n - 1) d (omega arith))))) few

  -- a piece that is the edge that the one before it is
  pub found : (n : ℕ) (d : Edge × ℕ) → 1 ≤ n → n < length ps → same_edge (get_or ps n d).0 (get_or ps (n - 1) d).0 ≡ true → FewBefore n → IsFirstTwice es (Some (get_or ps n d).0)
  found n d some fits same few =
      let again : get_or es (n - 1) d.0 ≡ get_or es n d.0 = at (n - 1) d (omega arith) ∙ (sym ((same_edge_decides (get_or ps n d).0 (get_or ps (n - 1) d).0).0 same) ∙ sym (at n d fits)) in
      subst (λ e. IsFirstTwice es (Some e)) (at n d fits) (
        many_at edge_before edge_order (same_from_neither edges_by_before) same_edge same_edge_decides 1 (omega arith) es d.0 up n (omega (arith, as_many)) some again,
        λ y less. few_before edge_before edge_order (same_from_neither edges_by_before) same_edge same_edge_decides 1 (omega arith) es d.0 up n (omega (arith, as_many)) few y less,
      )

  pub none : (n : ℕ) → length ps ≤ n → FewBefore n → IsFirstTwice es None
  none n past few = few_all edge_before edge_order (same_from_neither edges_by_before) same_edge same_edge_decides 1 (omega arith) es no_edge up n (omega (arith, as_many)) few

-- ---- the pieces of a layer, in another order
-- edges that stand in two lists as often
told : (es fs : List Edge) → ((x : Edge) → count_by (same_edge x) es ≡ count_by (same_edge x) fs) → (answer : Option Edge) → IsFirstTwice es answer → IsFirstTwice fs answer
told es fs same None none = λ x. omega (arith, none x, same x)
told es fs same (Some x) first = (omega (arith, first.0, same x), λ y less. omega (arith, first.1 y less, same y))

module _ (x : Edge) where
  abbrev one_if : Edge × ℕ → ℕ
  one_if u = cond (same_edge x u.0) 1 0

  -- edges are counted as tagged ones
  by_tagged : (us : List (Edge × ℕ)) → count_by (same_edge x) (segments_in us) ≡ sum_by one_if us
  by_tagged [] = refl
  by_tagged (u ∷ us) = sum_by-cons (λ e. cond (same_edge x e) 1 0) u.0 (segments_in us) ∙ (ap (λ n. one_if u + n) (by_tagged us) ∙ sym (sum_by-cons one_if u us))

  -- and segment by segment
  by_segment : (cut : Edge → List Edge) (ts : List (Edge × ℕ)) → sum_by one_if (cut_tagged cut ts) ≡ sum_by (λ t. sum_by one_if (own cut t)) ts
  by_segment cut [] = refl
  by_segment cut (t ∷ ts) = sum_by-append one_if (own cut t) (cut_tagged cut ts) ∙ (ap (λ n. sum_by one_if (own cut t) + n) (by_segment cut ts) ∙ sym (sum_by-cons (λ u. sum_by one_if (own cut u)) t ts))

  -- placed pieces are counted as those of the layer
  as_often : (layer : List Rings) (tagged placed : List (Edge × ℕ)) → IsPermutation (tagged_from 0 layer) tagged → IsPermutation (cut_tagged (cut_at (layer_corners layer)) (placed_from 0 tagged)) placed → count_by (same_edge x) (segments_in placed) ≡ count_by (same_edge x) (layer_pieces layer)
  as_often layer tagged placed from moved =
      let cut = cut_at (layer_corners layer) in
      by_tagged placed
      ∙ (sum_by-IsPermutation one_if (cut_tagged cut (placed_from 0 tagged)) placed moved
      ∙ (sym (by_tagged (cut_tagged cut (placed_from 0 tagged)))
      ∙ (ap (count_by (same_edge x)) (sym (edges_kept tagged (cut_tagged cut (placed_from 0 tagged))) ∙ ap segments_in (featured_are cut tagged))
      ∙ (by_tagged (cut_tagged cut tagged)
      ∙ (by_segment cut tagged
      ∙ (sum_by-IsPermutation (λ t. sum_by one_if (own cut t)) (tagged_from 0 layer) tagged from
      ∙ (sym (by_segment cut (tagged_from 0 layer))
      ∙ (sym (by_tagged (cut_tagged cut (tagged_from 0 layer)))
      ∙ ap (count_by (same_edge x)) (ap segments_in (cut_layer cut 0 layer) ∙ segments_in-pieces cut 0 layer)))))))))

-- so the least that is twice is that of the layer
pub twice_of_layer : (layer : List Rings) (tagged placed : List (Edge × ℕ)) → IsPermutation (tagged_from 0 layer) tagged → IsPermutation (cut_tagged (cut_at (layer_corners layer)) (placed_from 0 tagged)) placed → (answer : Option Edge) → IsFirstTwice (segments_in placed) answer → IsFirstTwice (layer_pieces layer) answer
twice_of_layer layer tagged placed from moved answer first = told (segments_in placed) (layer_pieces layer) (λ x. as_often x layer tagged placed from moved) answer first
