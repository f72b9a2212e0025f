-- Where no edge is a piece of more than one segment, each edge has one ring, with an odd mark.
use Rattle.std.proofs.Common.{◌≡◌, ℕ, zero, suc, ◌+◌, ◌<◌, ◌≤◌, Bool, true, false, cond, ◌&&◌, ◌||◌, List, [], ◌∷◌, ◌++◌, length, get_or, map, refl, sym, ◌∙◌, ap, ap₂, subst, inl, inr, arith}
use Rattle.std.specs.Prelude.{nat_lt, ◌==◌, find, unwrap_or, count_by}
use Rattle.std.specs.List.{list_any}
use Rattle.std.proofs.lemmas.Bool.{cases_Bool, cases_lt, cond-true, cond-false, both_ways, eq-eqb, eqb-true, ne_eqb, false_from_ne_true, lt-ltb, or_cases, or_left, or_right, true≢false}
use Rattle.std.proofs.lemmas.List.{append-nil, get_or-map}
use Rattle.std.proofs.lemmas.List.Folds.{list_any-append, list_any_at}
use Rattle.std.proofs.lemmas.List.Sums.{sum_by-append, sum_by-cons}
use Rattle.loc_spec_plane.specs.{declared.Mark.Mark, Points.Edge, Points.same_edge}
use Rattle.loc_spec_plane.specs.Lists.{exactly_one, is_in, odd_many}
use Rattle.loc_spec_plane.specs.Rings.{Ring, Rings, ring_segments, segments}
use Rattle.loc_spec_plane.specs.Tables.{Table, table_by, noded_table_of, cut_at, edge, edge_marks, has, has_odd, layer_corners, layer_segments}
use Rattle.loc_spec_valid.specs.Breaches.{feature_rings, ring_numbers, ring_table}
use Rattle.loc_laws_order.proofs.{Booleans.same-from_both, TableOrder.origin_point, Tests.same_edge_decides}
use Rattle.loc_laws_rays.proofs.Members.{in_numbers}
use Rattle.loc_laws_noding.proofs.{Counting.odd_none, Marks.is_hit, Marks.mark_passes, Noded.cutting_noded}
use Rattle.loc_laws_noding.proofs.Tables.{any_of_pieces, as_many_ends, edge_is_piece, pieces}
use Rattle.loc_laws_valid.specs.Laws.{NoneTwice, OneRing, ring_of}

pub no_edge : Edge
no_edge = record { lo = origin_point; hi = origin_point }

-- ---- the marks of a noded table
module _ (layer : List Rings) (f k : ℕ) (fits : k < length (noded_table_of layer).ends) where
  abbrev cut : Edge → List Edge
  cut = cut_at (layer_corners layer)

  abbrev hit : Edge → Bool
  hit = is_hit cut (edge (noded_table_of layer) k)

  is_piece : get_or (pieces cut layer) k no_edge ≡ edge (noded_table_of layer) k
  is_piece = edge_is_piece cut layer (cutting_noded layer) k no_edge (omega (arith, as_many_ends cut layer))

  row : get_or (noded_table_of layer).marks k [] ≡ edge_marks cut layer (edge (noded_table_of layer) k)
  unfolding table_by
  row = get_or-map (edge_marks cut layer) (pieces cut layer) k no_edge [] (omega (arith, as_many_ends cut layer)) ∙ ap (edge_marks cut layer) is_piece

  -- a feature has an edge where one of its segments has it as a piece
  pub has_is : has (noded_table_of layer) f k ≡ list_any hit (segments (get_or layer f []))
  has_is =
      ap (list_any (λ (m : Mark). m.feature == f)) row
      ∙ (mark_passes cut (λ (m : Mark). m.feature == f) (edge (noded_table_of layer) k) f (λ m other. ne_eqb m.feature f other) layer
      ∙ (ap (λ b. list_any hit (segments (get_or layer f [])) && b) (eq-eqb f f refl) ∙ and_yes (list_any hit (segments (get_or layer f [])))))
    where
      and_yes : (a : Bool) → (a && true) ≡ a
      and_yes true = refl
      and_yes false = refl

  -- and has it odd where an odd number do
  pub odd_is : has_odd (noded_table_of layer) f k ≡ odd_many hit (segments (get_or layer f []))
  odd_is =
      ap (list_any (λ (m : Mark). (m.feature == f) && m.odd)) row
      ∙ (mark_passes cut (λ (m : Mark). (m.feature == f) && m.odd) (edge (noded_table_of layer) k) f (λ m other. ap (λ b. b && m.odd) (ne_eqb m.feature f other)) layer
      ∙ (ap (λ b. list_any hit (segments (get_or layer f [])) && (b && odd_many hit (segments (get_or layer f [])))) (eq-eqb f f refl)
      ∙ elim (cases_Bool (list_any hit (segments (get_or layer f [])))) [
        | inl some ↦ ap (λ b. b && odd_many hit (segments (get_or layer f []))) some
        | inr none ↦ ap (λ b. b && odd_many hit (segments (get_or layer f []))) none ∙ sym (odd_none hit (segments (get_or layer f [])) none)
      ]))

  -- some segment of the layer has it
  pub some_has : list_any hit (layer_segments layer) ≡ true
  some_has = sym (any_of_pieces cut layer (same_edge (edge (noded_table_of layer) k))) ∙ list_any_at (same_edge (edge (noded_table_of layer) k)) (pieces cut layer) k no_edge (omega (arith, as_many_ends cut layer)) ((same_edge_decides (edge (noded_table_of layer) k) (get_or (pieces cut layer) k no_edge)).1 (sym is_piece))

-- ---- a layer with one feature for each ring
abbrev pub single : Ring → Rings
single ring = ring ∷ []

pub own_segments : (rings : Rings) (f : ℕ) → segments (get_or (map single rings) f []) ≡ ring_segments (get_or rings f [])
own_segments [] f = refl
own_segments (ring ∷ rings) zero = append-nil (ring_segments ring)
own_segments (ring ∷ rings) (suc f) = own_segments rings f

pub all_segments : (rings : Rings) → layer_segments (map single rings) ≡ segments rings
all_segments [] = refl
all_segments (ring ∷ rings) = ap₂ (λ xs ys. xs ++ ys) (append-nil (ring_segments ring)) (all_segments rings)

-- ---- what one segment at most has
module _ (p : Edge → Bool) where
  counted : (ss : List Edge) → list_any p ss ≡ true → 1 ≤ count_by p ss
  counted [] h = absurd (true≢false (sym h))
  counted (s ∷ ss) h = elim (cases_Bool (p s)) [
    | inl here ↦ (let e : count_by p (s ∷ ss) ≡ 1 + count_by p ss = sum_by-cons (λ x. cond (p x) 1 0) s ss ∙ ap (λ n. n + count_by p ss) (cond-true (p s) 1 0 here) in omega (arith, e))
    | inr off ↦ (let e : count_by p (s ∷ ss) ≡ 0 + count_by p ss = sum_by-cons (λ x. cond (p x) 1 0) s ss ∙ ap (λ n. n + count_by p ss) (cond-false (p s) 1 0 off) in let rest = counted ss (sym (ap (λ b. b || list_any p ss) off) ∙ h) in omega (arith, rest, e))
  ]

  none_counted : (ss : List Edge) → count_by p ss ≡ 0 → list_any p ss ≡ false
  none_counted ss none = false_from_ne_true (list_any p ss) (λ h. (let some = counted ss h in omega (arith, some)))

  odd_once : (ss : List Edge) → count_by p ss ≤ 1 → odd_many p ss ≡ list_any p ss
  odd_once [] le = refl
  odd_once (s ∷ ss) le = elim (cases_Bool (p s)) [
    | inl here ↦ (let e : count_by p (s ∷ ss) ≡ 1 + count_by p ss = sum_by-cons (λ x. cond (p x) 1 0) s ss ∙ ap (λ n. n + count_by p ss) (cond-true (p s) 1 0 here) in
        let rest : list_any p ss ≡ false = none_counted ss (omega (arith, e)) in
        ap₂ exactly_one here (odd_none p ss rest) ∙ sym (or_left (p s) (list_any p ss) here))
    | inr off ↦ (let e : count_by p (s ∷ ss) ≡ 0 + count_by p ss = sum_by-cons (λ x. cond (p x) 1 0) s ss ∙ ap (λ n. n + count_by p ss) (cond-false (p s) 1 0 off) in ap₂ exactly_one off (odd_once ss (omega (arith, e)))) ∙ sym (ap (λ b. b || list_any p ss) off)
  ]

  part_counted : (rings : Rings) (r : ℕ) → count_by p (ring_segments (get_or rings r [])) ≤ count_by p (segments rings)
  part_counted [] r = omega arith
  part_counted (ring ∷ rings) zero = omega (arith, sum_by-append (λ s. cond (p s) 1 0) (ring_segments ring) (segments rings))
  part_counted (ring ∷ rings) (suc r) = omega (arith, sum_by-append (λ s. cond (p s) 1 0) (ring_segments ring) (segments rings), part_counted rings r)

  -- two rings do not both have it
  only_one : (rings : Rings) (r q : ℕ) → count_by p (segments rings) ≤ 1 → list_any p (ring_segments (get_or rings r [])) ≡ true → list_any p (ring_segments (get_or rings q [])) ≡ true → r ≡ q
  only_one [] r q le at_r at_q = absurd (true≢false (sym at_r))
  only_one (ring ∷ rings) zero zero le at_r at_q = refl
  only_one (ring ∷ rings) zero (suc q) le at_r at_q = absurd (omega (arith, sum_by-append (λ s. cond (p s) 1 0) (ring_segments ring) (segments rings), counted (ring_segments ring) at_r, counted (ring_segments (get_or rings q [])) at_q, part_counted rings q))
  only_one (ring ∷ rings) (suc r) zero le at_r at_q = absurd (omega (arith, sum_by-append (λ s. cond (p s) 1 0) (ring_segments ring) (segments rings), counted (ring_segments ring) at_q, counted (ring_segments (get_or rings r [])) at_r, part_counted rings r))
  only_one (ring ∷ rings) (suc r) (suc q) le at_r at_q = ap suc (only_one rings r q (omega (arith, sum_by-append (λ s. cond (p s) 1 0) (ring_segments ring) (segments rings))) at_r at_q)

  -- some ring has it
  pub some_ring : (rings : Rings) → list_any p (segments rings) ≡ true → (r : ℕ) × (r < length rings) × (list_any p (ring_segments (get_or rings r [])) ≡ true)
  some_ring [] h = absurd (true≢false (sym h))
  some_ring (ring ∷ rings) h = elim (or_cases (list_any p (ring_segments ring)) (list_any p (segments rings)) (sym (list_any-append p (ring_segments ring) (segments rings)) ∙ h)) [
    | inl here ↦ (0, omega arith, here)
    | inr later ↦ (let rest = some_ring rings later in (suc rest.0, omega (arith, rest.1), rest.2))
  ]

-- ---- the first number that passes
module _ (p : ℕ → Bool) where
  first_passes : (ns : List ℕ) → list_any p ns ≡ true → (p (unwrap_or (find p ns) 0) ≡ true) × (is_in (unwrap_or (find p ns) 0) ns ≡ true)
  first_passes [] h = absurd (true≢false (sym h))
  first_passes (n ∷ ns) h = elim (cases_Bool (p n)) [
    | inl here ↦ subst (λ o. (p (unwrap_or o 0) ≡ true) × (is_in (unwrap_or o 0) (n ∷ ns) ≡ true)) (sym (cond-true (p n) _ (find p ns) here)) (here, or_left (n == n) _ (eq-eqb n n refl))
    | inr off ↦ (let rest = first_passes ns (sym (ap (λ b. b || list_any p ns) off) ∙ h) in
        subst (λ o. (p (unwrap_or o 0) ≡ true) × (is_in (unwrap_or o 0) (n ∷ ns) ≡ true)) (sym (cond-false (p n) _ (find p ns) off)) (rest.0, or_right (n == unwrap_or (find p ns) 0) _ rest.1))
  ]

  any_number : (ns : List ℕ) (n : ℕ) → is_in n ns ≡ true → p n ≡ true → list_any p ns ≡ true
  any_number [] n here h = absurd (true≢false (sym here))
  any_number (m ∷ ns) n here h = elim (or_cases (m == n) (is_in n ns) here) [
    | inl at ↦ or_left (p m) _ (subst (λ k. p k ≡ true) (sym (eqb-true m n at)) h)
    | inr later ↦ or_right (p m) _ (any_number ns n later h)
  ]

-- ---- the ring of an edge
module _ (polygons : List Rings) (once : NoneTwice polygons) where
  abbrev layer : List Rings
  layer = map single (feature_rings polygons)

  abbrev t : Table
  t = noded_table_of layer

  module _ (e : ℕ) (fits : e < length t.ends) where
    abbrev at_edge : Edge → Bool
    at_edge = is_hit (cut_at (layer_corners layer)) (edge t e)

    few : count_by at_edge (segments (feature_rings polygons)) ≤ 1
    unfolding ring_table table_by
    few = elim (cases_lt 1 (count_by at_edge (segments (feature_rings polygons)))) [
      | inl more ↦ absurd (both_ways (nat_lt 1 (count_by at_edge (segments (feature_rings polygons)))) (once e fits) (lt-ltb _ _ more))
      | inr le ↦ le
    ]

    has_ring : (r : ℕ) → has t r e ≡ list_any at_edge (ring_segments (get_or (feature_rings polygons) r []))
    has_ring r = has_is layer r e fits ∙ ap (list_any at_edge) (own_segments (feature_rings polygons) r)

    odd_ring : (r : ℕ) → has_odd t r e ≡ has t r e
    odd_ring r =
        odd_is layer r e fits ∙ (ap (odd_many at_edge) (own_segments (feature_rings polygons) r)
        ∙ (odd_once at_edge (ring_segments (get_or (feature_rings polygons) r [])) (omega (arith, few, part_counted at_edge (feature_rings polygons) r))
        ∙ sym (has_ring r)))

    found : (has t (ring_of polygons t e) e ≡ true) × (is_in (ring_of polygons t e) (ring_numbers polygons) ≡ true)
    found =
        let some = some_ring at_edge (feature_rings polygons) (sym (ap (list_any at_edge) (all_segments (feature_rings polygons))) ∙ some_has layer 0 e fits) in
        first_passes (λ r. has t r e) (ring_numbers polygons) (any_number (λ r. has t r e) (ring_numbers polygons) some.0 (in_numbers some.0 (length (feature_rings polygons)) some.1) (has_ring some.0 ∙ some.2))

    has_one : (r : ℕ) → has t r e ≡ (r == ring_of polygons t e)
    has_one r = same-from_both (has t r e) (r == ring_of polygons t e)
        (λ h. eq-eqb r (ring_of polygons t e) (only_one at_edge (feature_rings polygons) r (ring_of polygons t e) few (sym (has_ring r) ∙ h) (sym (has_ring (ring_of polygons t e)) ∙ found.0)))
        (λ h. subst (λ k. has t k e ≡ true) (sym (eqb-true r (ring_of polygons t e) h)) found.0)

pub one_ring : OneRing
unfolding ring_table
one_ring polygons once = record {
  is_ring = λ e fits. (found polygons once e fits).1;
  one = λ e r fits. has_one polygons once e fits r;
  odd = λ e r fits. odd_ring polygons once e fits r ∙ has_one polygons once e fits r;
}
