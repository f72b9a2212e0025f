-- The place that is found by a look at every corner and every edge is the place.
use Rattle.std.proofs.Common.{◌≡◌, ◌≢◌, ℕ, zero, suc, ◌+◌, ◌<◌, ◌≤◌, Bool, true, false, List, [], ◌∷◌, length, refl, sym, ◌∙◌, subst, inl, inr, arith, Option, Some, None}
use Rattle.std.specs.{Prelude.nat_lt, Prelude.find, Prelude.fold, List.range_with_len}
use Rattle.std.proofs.lemmas.Bool.{and_parts, and_left, both_ways, cases_Bool, cases_eq, cases_lt, cond-true, cond-false, lt-ltb, le-ltb, not-true, not_from_false, and_from}
use Rattle.loc_spec_plane.specs.{declared.Place.Place, Points.Point, Points.same_point, Points.lies_on}
use Rattle.loc_spec_plane.specs.Tables.{Table, corner, edge, corner_numbers, edge_numbers}
use Rattle.loc_spec_plane.specs.Places.{is_edge, is_corner_of, is_border_of, IsCornerless, IsBorderless, IsFloor, IsPlace}
use Rattle.loc_place.specs.Found.{is_under, with_edge, first_place, place_at}
use Rattle.loc_place.specs.Planar.{IsPlanar}
use Rattle.loc_place.proofs.Highest.{IsHighestAmong, highest_more, highest_first, under_fits}
use Rattle.loc_place.proofs.OnePlace.{one_place}

module _ (test : ℕ → Bool) where
  -- what is found passes
  found_passes : (ns : List ℕ) (n : ℕ) → find test ns ≡ Some n → test n ≡ true
  found_passes [] n h = cc
  found_passes (m ∷ ns) n h = elim (cases_Bool (test m)) [
    | inl passes ↦ (let same : Some m ≡ Some n = sym (cond-true (test m) (Some m) (find test ns) passes) ∙ h in let e : m ≡ n = cc in subst (λ k. test k ≡ true) e passes)
    | inr fails ↦ found_passes ns n (sym (cond-false (test m) (Some m) (find test ns) fails) ∙ h)
  ]

  -- where none is found, none of the numbers from a on passes
  none_passes : (m a : ℕ) → find test (range_with_len a m) ≡ None → (n : ℕ) → a ≤ n → n < a + m → test n ≡ false
  none_passes zero a h n from to = absurd (omega arith)
  none_passes (suc m) a h n from to = elim (cases_Bool (test a)) [
    | inl passes ↦ (let clash : Some a ≡ None = sym (cond-true (test a) (Some a) (find test (range_with_len (a + 1) m)) passes) ∙ h in cc)
    | inr fails ↦ elim (cases_eq a n) [
      | inl same ↦ subst (λ k. test k ≡ false) same fails
      | inr other ↦ none_passes m (a + 1) (sym (cond-false (test a) (Some a) (find test (range_with_len (a + 1) m)) fails) ∙ h) n (let differ : a ≢ n = other in omega arith) (omega arith)
    ]
  ]

module _ (t : Table) (p : Point) where
  -- where no corner is found, p is no corner
  cornerless : find (is_corner_of t p) (corner_numbers t) ≡ None → IsCornerless t p
  cornerless none n = not_from_false (is_corner_of t p n) (elim (cases_lt n (length t.corners)) [
    | inl fits ↦ none_passes (is_corner_of t p) (length t.corners) 0 none n (omega arith) (omega arith)
    | inr past ↦ and_left (nat_lt n (length t.corners)) (same_point (corner t n) p) (le-ltb n (length t.corners) past)
  ])

  -- where no border is found, p lies on no edge
  borderless : find (is_border_of t p) (edge_numbers t) ≡ None → IsBorderless t p
  borderless none e = not_from_false (is_border_of t p e) (elim (cases_lt e (length t.ends)) [
    | inl fits ↦ none_passes (is_border_of t p) (length t.ends) 0 none e (omega arith) (omega arith)
    | inr past ↦ and_left (is_edge t e) (lies_on (edge t e) p) (le-ltb e (length t.ends) past)
  ])

  -- the highest of all edges under p is the floor
  floor_from_highest : (floor : Option ℕ) → IsHighestAmong t p (length t.ends) floor → IsFloor t p floor
  floor_from_highest None none = λ e. elim (cases_Bool (is_under t p e)) [
    | inl under ↦ absurd (both_ways _ (not-true _ (none e)) (and_from (nat_lt e (length t.ends)) (is_under t p e) (lt-ltb e (length t.ends) (under_fits t p e under)) under))
    | inr off ↦ not_from_false _ off
  ]
  floor_from_highest (Some h) best = ((and_parts (nat_lt h (length t.ends)) (is_under t p h) best.0).1, λ e under other. best.1 e (and_from (nat_lt e (length t.ends)) (is_under t p e) (lt-ltb e (length t.ends) (under_fits t p e under)) under) other)

  module _ (planar : IsPlanar t) where
    highest_from : (m n : ℕ) (highest : Option ℕ) → n + m ≡ length t.ends → IsHighestAmong t p n highest → IsHighestAmong t p (length t.ends) (fold (with_edge t p) highest (range_with_len n m))
    highest_from zero n highest all best = (let e : n ≡ length t.ends = omega arith in subst (λ k. IsHighestAmong t p k highest) e best)
    highest_from (suc m) n highest all best = highest_from m (n + 1) (with_edge t p highest n) (omega arith) (highest_more t p planar n highest best)

    -- so the edges one after another give the floor
    pub floor_folded : IsFloor t p (fold (with_edge t p) None (edge_numbers t))
    floor_folded = floor_from_highest (fold (with_edge t p) None (edge_numbers t)) (highest_from (length t.ends) 0 None (omega arith) (highest_first t p))

    by_search : (corner border : Option ℕ) → find (is_corner_of t p) (corner_numbers t) ≡ corner → find (is_border_of t p) (edge_numbers t) ≡ border → IsPlace t p (first_place corner border (fold (with_edge t p) None (edge_numbers t)))
    by_search (Some n) border at_corner at_border = found_passes (is_corner_of t p) (corner_numbers t) n at_corner
    by_search None (Some e) at_corner at_border = (cornerless at_corner, found_passes (is_border_of t p) (edge_numbers t) e at_border)
    by_search None None at_corner at_border = (cornerless at_corner, borderless at_border, floor_folded)

-- what is found is the place
pub place_at_is : (t : Table) → IsPlanar t → (p : Point) → IsPlace t p (place_at t p)
unfolding place_at
place_at_is t planar p = by_search t p planar (find (is_corner_of t p) (corner_numbers t)) (find (is_border_of t p) (edge_numbers t)) refl refl

-- a place of the point is the one found
pub place_is_found : (t : Table) → IsPlanar t → (p : Point) (place : Place) → IsPlace t p place → place ≡ place_at t p
place_is_found t planar p place is_place = one_place t planar.in_order planar.apart p place (place_at t p) is_place (place_at_is t planar p)
