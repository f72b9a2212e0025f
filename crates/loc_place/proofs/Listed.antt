-- A point that is no corner against the list of the edges alive there: it is above the first of them and below the others, and on one of them at most.
use Rattle.std.proofs.Common.{◌≡◌, ℕ, ◌-◌, ◌<◌, ◌≤◌, true, false, ◌&&◌, List, length, map, get_or, sym, ◌∙◌, subst, inl, inr, arith, Option, Some, None, slice_get}
use Rattle.std.proofs.{Math.Dec.eqb, lemmas.Grind.get_or_default_zero, lemmas.List.Folds.Any-from_list_any}
use Rattle.std.specs.List.{list_any, IsDistinct}
use Rattle.std.proofs.lemmas.Bool.{and_from, and_parts, both_ways, cases_Bool, cases_eq, cases_lt, eqb-true, false_from_ne_true, ltb-true, ne_eqb, not_from_false, or_cases}
use Rattle.std.proofs.{lemmas.Map.Keys.IsDistinct-from_apart, lemmas.Map.Steps.length-le_from_distinct_below}
use Rattle.std.proofs.lemmas.Option.{slice_get-get_or, slice_get_within, get_or_from_slice_get}
use Rattle.loc_spec_plane.specs.{declared.Place.TheVariants.Area, Lists.is_in, Tables.Table, Tables.edge}
use Rattle.loc_spec_plane.specs.Points.{Point, is_above, is_on, is_below, lies_on, same_point}
use Rattle.loc_spec_plane.specs.Places.{alive, is_edge, is_border_of, lower_of, IsBorderless, IsCornerless, IsFloor, IsListAt, IsPlace}
use Rattle.loc_laws_order.proofs.{ChainLaws.chain_above, Floors.floor_of_list, AliveAt.alive_parts}
use Rattle.loc_laws_order.proofs.{ListLaws.get-map, ListLaws.is_in-get, ListLaws.list_is_chain, TableOrder.rises}
use Rattle.loc_laws_order.proofs.Sides.{above-not_below, lower-asym, on-not_above, on-not_below}
use Rattle.loc_place.specs.Planar.{IsPlanar}
use Rattle.loc_place.proofs.Cornerless.{begins_elsewhere, lies_on_is}
use Rattle.loc_status.specs.Targets.{IsSearchEnd}
use Rattle.loc_status.proofs.Ends.{last_found, member_place}

module _ (t : Table) (p : Point) (es : List ℕ) (is_list : IsListAt t p es) where
  member : (i : ℕ) → i < length es → is_in (get_or es i 0) es ≡ true
  member i fits = is_in-get es i (get_or es i 0) (slice_get-get_or es i 0 fits)

  -- an edge of the list is alive there
  pub listed_alive : (i : ℕ) → i < length es → (get_or es i 0 < length t.ends) × (alive (edge t (get_or es i 0)) p ≡ true)
  listed_alive i fits = alive_parts t p (get_or es i 0) (sym (is_list.exact (get_or es i 0)) ∙ member i fits)

  -- a lower edge is another one, so no edge stands twice in the list
  pub distinct : IsDistinct eqb es
  distinct = IsDistinct-from_apart eqb es (λ i j d less fits. (let low = rises (lower_of t) d es i j is_list.rising less fits in ne_eqb (get_or es i d) (get_or es j d) (λ same. not_itself (get_or es j d) (subst (λ k. lower_of t k (get_or es j d) ≡ true) same low))))
    where
      not_itself : (e : ℕ) → lower_of t e e ≡ true → ⊥
      not_itself e low = lower-asym (edge t e) (edge t e) low low

  number_fits : (e : ℕ) → list_any (eqb e) es ≡ true → e < length t.ends
  number_fits e here =
      let found = Any-from_list_any (eqb e) es here in
      let same : get_or es found.0 0 ≡ e = sym (get_or_default_zero es found.0 found.1 found.2) ∙ (found.3 ∙ sym (eqb-true e found.1 found.4)) in
      subst (λ k. k < length t.ends) same (listed_alive found.0 found.2).0

  -- there are at most as many as the table has edges
  pub listed_few : length es ≤ length t.ends
  listed_few = length-le_from_distinct_below es (length t.ends) distinct number_fits

  module _ (planar : IsPlanar t) (clear : IsCornerless t p) where
    edge_at : (i : ℕ) → i < length es → slice_get (map (edge t) es) i ≡ Some (edge t (get_or es i 0))
    edge_at i fits = get-map (edge t) es i (get_or es i 0) (slice_get-get_or es i 0 fits)

    -- p is above each edge before one that it is not below
    above_earlier : (i j : ℕ) → i < j → j < length es → is_below (edge t (get_or es j 0)) p ≡ false → is_above (edge t (get_or es i 0)) p ≡ true
    above_earlier i j less fits side =
        let a = edge t (get_or es i 0) in
        let b = edge t (get_or es j 0) in
        let early : i < length es = omega arith in
        let elsewhere = begins_elsewhere t p clear planar.in_order (get_or es i 0) (listed_alive i early).0 in
        elim (or_cases (is_above a p) (same_point p a.lo && same_point p b.lo) (chain_above (map (edge t) es) p (list_is_chain t planar.apart p es is_list) i j a b less (edge_at i early) (edge_at j fits) side)) [
          | inl above ↦ above
          | inr begin ↦ absurd (both_ways (same_point p a.lo) elsewhere (and_parts (same_point p a.lo) (same_point p b.lo) begin).0)
        ]

    -- p is below each edge behind one that it is below
    below_later : (i j : ℕ) → i ≤ j → j < length es → is_below (edge t (get_or es i 0)) p ≡ true → is_below (edge t (get_or es j 0)) p ≡ true
    below_later i j more fits below = elim (cases_eq i j) [
      | inl same ↦ subst (λ k. is_below (edge t (get_or es k 0)) p ≡ true) same below
      | inr other ↦ elim (cases_Bool (is_below (edge t (get_or es j 0)) p)) [
        | inl later ↦ later
        | inr not_later ↦ absurd (both_ways (is_below (edge t (get_or es i 0)) p) (above-not_below (edge t (get_or es i 0)) p (above_earlier i j (omega arith) fits not_later)) below)
      ]
    ]

    -- where a search ends: p is above the edge before the place, and below the edge at the place
    module _ (place : ℕ) (within : place ≤ length es) (above : 0 < place → is_above (edge t (get_or es (place - 1) 0)) p ≡ true) (below : place < length es → is_below (edge t (get_or es place 0)) p ≡ true) where
      above_before : (i : ℕ) → i < place → is_above (edge t (get_or es i 0)) p ≡ true
      above_before i less = elim (cases_eq i (place - 1)) [
        | inl same ↦ subst (λ k. is_above (edge t (get_or es k 0)) p ≡ true) (sym same) (above (omega arith))
        | inr other ↦ above_earlier i (place - 1) (omega arith) (omega arith) (above-not_below (edge t (get_or es (place - 1) 0)) p (above (omega arith)))
      ]

      below_behind : (i : ℕ) → place ≤ i → i < length es → is_below (edge t (get_or es i 0)) p ≡ true
      below_behind i more fits = below_later place i more fits (below (omega arith))

      not_above : (i : ℕ) → place ≤ i → i < length es → is_above (edge t (get_or es i 0)) p ≡ false
      not_above i more fits = false_from_ne_true (is_above (edge t (get_or es i 0)) p) (λ up. both_ways (is_below (edge t (get_or es i 0)) p) (above-not_below (edge t (get_or es i 0)) p up) (below_behind i more fits))

      -- p is on no edge of the list
      off : (i : ℕ) → i < length es → is_on (edge t (get_or es i 0)) p ≡ false
      off i fits = false_from_ne_true (is_on (edge t (get_or es i 0)) p) (λ on. elim (cases_lt i place) [
        | inl less ↦ both_ways (is_above (edge t (get_or es i 0)) p) (on-not_above (edge t (get_or es i 0)) p on) (above_before i less)
        | inr more ↦ both_ways (is_below (edge t (get_or es i 0)) p) (on-not_below (edge t (get_or es i 0)) p on) (below_behind i more fits)
      ])

      borderless : IsBorderless t p
      borderless e = not_from_false (is_border_of t p e) (false_from_ne_true (is_border_of t p e) (λ border.
          (let parts = and_parts (is_edge t e) (lies_on (edge t e) p) border in
          let fits = ltb-true e (length t.ends) parts.0 in
          let live = and_parts (is_on (edge t e) p) (alive (edge t e) p) (sym (lies_on_is t p clear planar.in_order e fits) ∙ parts.1) in
          let found = member_place es e (is_list.exact e ∙ and_from (is_edge t e) (alive (edge t e) p) parts.0 live.1) in
          let inside : found.0 < length es = slice_get_within es found.0 e found.1 in
          both_ways (is_on (edge t e) p) (subst (λ k. is_on (edge t k) p ≡ false) (get_or_from_slice_get es found.0 e 0 found.1) (off found.0 inside)) live.0)))

      -- then p lies in the area whose floor is the edge before the place
      pub in_area : (floor : Option ℕ) → (place ≡ 0 → floor ≡ None) → (0 < place → floor ≡ slice_get es (place - 1)) → IsPlace t p (Area floor)
      in_area floor first later =
          let end : IsSearchEnd (λ e. is_above (edge t e) p) es place = record { within = within; passed = above; reached = λ fits. not_above place (omega arith) fits } in
          (clear, borderless, subst (λ o. IsFloor t p o) (sym (last_found (λ e. is_above (edge t e) p) es place floor end not_above first later)) (floor_of_list t p es is_list))
