-- The numbers of points in a rising list, and of the ends of edges between them.
use Rattle.std.proofs.Common.{◌≡◌, ◌<◌, true, ◌||◌, ◌&&◌, List, [], ◌∷◌, length, get_or, map, refl, sym, ◌∙◌, ap, subst, inl, inr, arith}
use Rattle.std.specs.Prelude.{nat_lt, ◌==◌, unwrap_or}
use Rattle.std.specs.List.{list_any, list_all, position_or_len}
use Rattle.std.proofs.lemmas.Bool.{cases_order, cases_lt, cond-true, both_ways, lt-ltb, and_from, and_parts, or_cases, or_right, eq-eqb}
use Rattle.std.proofs.lemmas.List.Folds.{list_any_none}
use Rattle.std.proofs.lemmas.List.Sums.{fails_before_first, passes_at_first}
use Rattle.loc_spec_plane.specs.Points.{Point, Edge, before, same_point, edge_before}
use Rattle.loc_spec_plane.specs.{Lists.is_rising, Tables.number_of, Tables.pair_before}
use Rattle.loc_laws_order.specs.Numbered.{ends_by_number, has_ends}
use Rattle.loc_laws_order.proofs.{Sides.before_irrefl, Sides.before-asym_test, Sides.same_point-true, TableOrder.rises}

module _ (cs : List Point) (up : is_rising before cs ≡ true) where
  first_place : (p : Point) → list_any (same_point p) cs ≡ true → position_or_len (same_point p) cs < length cs
  first_place p h = elim (cases_lt (position_or_len (same_point p) cs) (length cs)) [
    | inl lt ↦ lt
    | inr ge ↦ absurd (both_ways _ (list_any_none (same_point p) cs (λ k d short. fails_before_first (same_point p) cs k d (omega arith))) h)
  ]

  number_is : (p : Point) → list_any (same_point p) cs ≡ true → number_of cs p ≡ position_or_len (same_point p) cs
  number_is p h = ap (λ o. unwrap_or o 0) (cond-true _ _ _ (lt-ltb _ _ (first_place p h)))

  -- a point of the list has a number there, and stands at it
  pub number_fits : (p : Point) → list_any (same_point p) cs ≡ true → number_of cs p < length cs
  number_fits p h = omega (arith, number_is p h, first_place p h)

  pub at_number : (p d : Point) → list_any (same_point p) cs ≡ true → get_or cs (number_of cs p) d ≡ p
  at_number p d h = ap (λ n. get_or cs n d) (number_is p h) ∙ sym (same_point-true p (get_or cs (position_or_len (same_point p) cs) d) (passes_at_first (same_point p) cs d (first_place p h)))

  -- numbers go as the points do
  pub number_up : (p q : Point) → list_any (same_point p) cs ≡ true → list_any (same_point q) cs ≡ true → before p q ≡ true → number_of cs p < number_of cs q
  number_up p q hp hq less = elim (cases_order (number_of cs p) (number_of cs q)) [
    | inl same ↦ absurd (both_ways _ (before_irrefl q) (subst (λ r. before r q ≡ true) (sym (at_number p q hp) ∙ (ap (λ n. get_or cs n q) same ∙ at_number q q hq)) less))
    | inr differ ↦ elim differ [
      | inl lt ↦ lt
      | inr gt ↦ absurd (both_ways _ (before-asym_test p q less) (subst (λ r. before r p ≡ true) (at_number q p hq) (subst (λ r. before (get_or cs (number_of cs q) p) r ≡ true) (at_number p p hp) (rises before p cs (number_of cs q) (number_of cs p) up gt (number_fits p hp)))))
    ]
  ]

  -- so do the pairs of the numbers of ends
  pub pair_up : (a b : Edge) → has_ends cs a ≡ true → has_ends cs b ≡ true → edge_before a b ≡ true → pair_before (ends_by_number cs a) (ends_by_number cs b) ≡ true
  pair_up a b ha hb less =
      let in_a = and_parts (list_any (same_point a.lo) cs) (list_any (same_point a.hi) cs) ha in
      let in_b = and_parts (list_any (same_point b.lo) cs) (list_any (same_point b.hi) cs) hb in
      elim (or_cases (before a.lo b.lo) (same_point a.lo b.lo && before a.hi b.hi) less) [
        | inl low ↦ ap (λ t. t || ((number_of cs a.lo == number_of cs b.lo) && nat_lt (number_of cs a.hi) (number_of cs b.hi))) (lt-ltb (number_of cs a.lo) (number_of cs b.lo) (number_up a.lo b.lo in_a.0 in_b.0 low))
        | inr high ↦ (let parts = and_parts (same_point a.lo b.lo) (before a.hi b.hi) high in
            let same : number_of cs a.lo ≡ number_of cs b.lo = ap (number_of cs) (same_point-true a.lo b.lo parts.0) in
            or_right (nat_lt (number_of cs a.lo) (number_of cs b.lo)) _ (and_from (number_of cs a.lo == number_of cs b.lo) (nat_lt (number_of cs a.hi) (number_of cs b.hi)) (eq-eqb _ _ same) (lt-ltb _ _ (number_up a.hi b.hi in_a.1 in_b.1 parts.1))))
      ]

  pairs_up : (a : Edge) (es : List Edge) → has_ends cs a ≡ true → list_all (has_ends cs) es ≡ true → list_all (edge_before a) es ≡ true → list_all (pair_before (ends_by_number cs a)) (map (ends_by_number cs) es) ≡ true
  pairs_up a [] ha hs less = refl
  pairs_up a (e ∷ es) ha hs less =
      let ends = and_parts (has_ends cs e) (list_all (has_ends cs) es) hs in
      let parts = and_parts (edge_before a e) (list_all (edge_before a) es) less in
      and_from _ _ (pair_up a e ha ends.0 parts.0) (pairs_up a es ha ends.1 parts.1)

  -- the pairs of numbers of edges in order are in order
  pub pairs_rise : (es : List Edge) → list_all (has_ends cs) es ≡ true → is_rising edge_before es ≡ true → is_rising pair_before (map (ends_by_number cs) es) ≡ true
  pairs_rise [] hs h = refl
  pairs_rise (e ∷ es) hs h =
      let ends = and_parts (has_ends cs e) (list_all (has_ends cs) es) hs in
      let parts = and_parts (list_all (edge_before e) es) (is_rising edge_before es) h in
      and_from _ _ (pairs_up e es ends.0 ends.1 parts.0) (pairs_rise es ends.1 parts.1)
