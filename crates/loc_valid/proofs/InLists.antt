-- The least pair of a ring by the list above an edge of it: a hole and its exterior, and a hole and another hole.
use Rattle.std.proofs.Common.{◌≡◌, ℕ, ◌+◌, ◌<◌, ◌≤◌, Bool, true, false, not, ◌&&◌, List, length, get_or, refl, sym, ◌∙◌, ap, ap₂, subst, inl, inr, arith}
use Rattle.std.specs.Prelude.{◌==◌, ◌⊎◌, nat_lt, Some, None}
use Rattle.std.proofs.lemmas.Bool.{and_from, and_parts, both_ways, cases_eq, cases_lt, eq-eqb, eqb-true, false_from_ne_true, lt-ltb, ltb-true, ne_eqb, not-true, not_from_false, true≢false}
use Rattle.std.proofs.{lemmas.List.get_or_past, lemmas.List.Folds.list_any_at}
use Rattle.loc_spec_plane.specs.{Lists.is_in, Lists.is_rising, Rings.Rings, Tables.pair_before}
use Rattle.loc_spec_valid.specs.Breaches.{feature_rings, is_hole, polygon_of, ring_places}
use Rattle.loc_laws_order.proofs.TableOrder.{rises, rises_weakly}
use Rattle.loc_laws_valid.proofs.Placed.{as_many_places}
use Rattle.loc_rings.specs.Values.{rings_before}
use Rattle.loc_half.proofs.Linked.{place_of}
use Rattle.loc_valid.specs.declared.hits.Fault.{Fault}
use Rattle.loc_valid.specs.declared.hits.Fault.TheVariants.{Outside, Nested}
use Rattle.loc_valid.specs.Hits.{AreHomes, IsLeast, misplaced_in, nested_in, outside_in}
use Rattle.loc_valid.proofs.RingHomes.{IsOf, between, exterior, fits_all, is_of, is_of_home, no_hole}
use Rattle.loc_valid.proofs.Minima.{not_lower}

-- ---- members of rising lists

-- an earlier member is less
pub strictly : (xs : List ℕ) → is_rising nat_lt xs ≡ true → (i j : ℕ) → i < j → j < length xs → get_or xs i 0 < get_or xs j 0
strictly xs rising i j less fits = ltb-true (get_or xs i 0) (get_or xs j 0) (rises nat_lt 0 xs i j rising less fits)

-- whether a number is a member, by the first place that is not below it
pub among_none : (xs : List ℕ) (n at : ℕ) → ((k : ℕ) → k < at → get_or xs k 0 < n) → at ≡ length xs → is_in n xs ≡ false
among_none xs n at below past = false_from_ne_true (is_in n xs) (λ h. (let found = place_of n xs h in omega (arith, found.1, found.2, past, below found.0 (omega (arith, found.1, past)))))

pub among_at : (xs : List ℕ) (n at : ℕ) → is_rising nat_lt xs ≡ true → at < length xs → ((k : ℕ) → k < at → get_or xs k 0 < n) → ((k : ℕ) → at ≤ k → k < length xs → n ≤ get_or xs k 0) → (get_or xs at 0 == n) ≡ is_in n xs
among_at xs n at rising fits below from = elim (cases_eq (get_or xs at 0) n) [
  | inl same ↦ eq-eqb (get_or xs at 0) n same ∙ sym (list_any_at (λ m. m == n) xs at 0 fits (eq-eqb (get_or xs at 0) n same))
  | inr other ↦ ne_eqb (get_or xs at 0) n other ∙ sym (false_from_ne_true (is_in n xs) (λ h. (let found = place_of n xs h in elim (cases_lt found.0 at) [
    | inl less ↦ omega (arith, found.2, below found.0 less)
    | inr more ↦ elim (cases_eq found.0 at) [
      | inl here ↦ other (ap (λ k. get_or xs k 0) (sym here) ∙ found.2)
      | inr later ↦ omega (arith, found.2, from at (omega arith) fits, strictly xs rising at found.0 (omega arith) found.1)
    ]
  ])))
]

-- a hole is a ring
pub hole_fits : (polygons : List Rings) (k : ℕ) → is_hole polygons k ≡ true → k < length (feature_rings polygons)
hole_fits polygons k hole = elim (cases_lt k (length (feature_rings polygons))) [
  | inl lt ↦ lt
  | inr past ↦ absurd (true≢false (sym hole ∙ ap (λ (place : ℕ × Bool). place.1) (get_or_past (ring_places 0 polygons) k (0, false) (omega (arith, past, as_many_places 0 polygons)))))
]

module _ (polygons : List Rings) (homes : List ℕ) (are : AreHomes polygons homes) (ring : ℕ) (lt : ring < length homes) (list : List ℕ) where
  abbrev m : ℕ
  m = get_or homes ring 0

  abbrev first : ℕ
  first = rings_before polygons m

  is : IsOf polygons ring m
  is = is_of_home polygons homes are ring lt

  own : IsOf polygons first m
  own = exterior polygons ring m is

  pub record IsMissed (j k : ℕ) : Type 0 where
    pub same : j ≡ ring
    pub hole : is_hole polygons ring ≡ true
    pub at : k ≡ first
    pub off : is_in first list ≡ false

  -- a hole alone misses its exterior
  missed_parts : (j k : ℕ) → outside_in polygons ring list j k ≡ true → IsMissed j k
  missed_parts j k h =
      let a = and_parts (j == ring) _ h in
      let b = and_parts (is_hole polygons j && not (is_hole polygons k)) _ a.1 in
      let holes = and_parts (is_hole polygons j) (not (is_hole polygons k)) b.0 in
      let c = and_parts (nat_lt k (length (feature_rings polygons)) && (polygon_of polygons k == polygon_of polygons j)) (not (is_in k list)) b.1 in
      let d = and_parts (nat_lt k (length (feature_rings polygons))) (polygon_of polygons k == polygon_of polygons j) c.0 in
      let same : j ≡ ring = eqb-true j ring a.0 in
      let of_k = is_of polygons k (ltb-true k (length (feature_rings polygons)) d.0) in
      let home : polygon_of polygons k ≡ m = eqb-true (polygon_of polygons k) (polygon_of polygons j) d.1 ∙ (ap (polygon_of polygons) same ∙ is.home) in
      let at : k ≡ first = eqb-true k first (not-false' (k == first) (sym (subst (λ n. is_hole polygons k ≡ not (k == rings_before polygons n)) home of_k.hole) ∙ not-true (is_hole polygons k) holes.1)) in
      record { same = same; hole = ap (is_hole polygons) (sym same) ∙ holes.0; at = at; off = subst (λ n. is_in n list ≡ false) at (not-true (is_in k list) c.1) }
    where
      not-false' : (b : Bool) → not b ≡ false → b ≡ true
      not-false' true h = refl
      not-false' false h = absurd (true≢false h)

  -- the ring is the exterior
  missed_by_none : ring ≡ first → IsLeast (outside_in polygons ring list) None
  missed_by_none same = λ j k. false_from_ne_true (outside_in polygons ring list j k) (λ h. both_ways (is_hole polygons ring) (is.hole ∙ ap not (eq-eqb ring first same)) (missed_parts j k h).hole)

  -- the list has the exterior
  pub missed_not : is_in first list ≡ true → IsLeast (outside_in polygons ring list) None
  missed_not here = λ j k. false_from_ne_true (outside_in polygons ring list j k) (λ h. both_ways (is_in first list) (missed_parts j k h).off here)

  pub missed : (ring ≡ first → ⊥) → is_in first list ≡ false → IsLeast (outside_in polygons ring list) (Some (ring, first))
  missed other off = (
    and_from _ _ (eq-eqb ring ring refl) (and_from _ _
        (and_from _ _ (is.hole ∙ ap not (ne_eqb ring first other)) (not_from_false (is_hole polygons first) (no_hole polygons m own)))
        (and_from _ _ (and_from _ _ (lt-ltb first (length (feature_rings polygons)) (fits_all polygons first m own)) (eq-eqb (polygon_of polygons first) (polygon_of polygons ring) (own.home ∙ sym is.home))) (not_from_false (is_in first list) off))),
    λ j k h. (let parts = missed_parts j k h in ap₂ (λ i n. pair_before (i, n) (ring, first)) parts.same parts.at ∙ not_lower ring first first (omega arith)),
  )

  pub record IsAround (j k : ℕ) : Type 0 where
    pub same : j ≡ ring
    pub above : first < k
    pub past : k < rings_before polygons (m + 1)
    pub other : k ≡ ring → ⊥
    pub here : is_in k list ≡ true
    pub hole : is_hole polygons ring ≡ true

  around_parts : (j k : ℕ) → nested_in polygons ring list j k ≡ true → IsAround j k
  around_parts j k h =
      let a = and_parts (j == ring) _ h in
      let b = and_parts ((is_hole polygons j && is_hole polygons k) && ((polygon_of polygons j == polygon_of polygons k) && not (j == k))) (is_in k list) a.1 in
      let c = and_parts (is_hole polygons j && is_hole polygons k) ((polygon_of polygons j == polygon_of polygons k) && not (j == k)) b.0 in
      let holes = and_parts (is_hole polygons j) (is_hole polygons k) c.0 in
      let d = and_parts (polygon_of polygons j == polygon_of polygons k) (not (j == k)) c.1 in
      let same : j ≡ ring = eqb-true j ring a.0 in
      let lk = hole_fits polygons k holes.1 in
      let home : polygon_of polygons k ≡ m = sym (eqb-true (polygon_of polygons j) (polygon_of polygons k) d.0) ∙ (ap (polygon_of polygons) same ∙ is.home) in
      let of_k : IsOf polygons k m = subst (IsOf polygons k) home (is_of polygons k lk) in
      let apart : k ≡ first → ⊥ = λ e. both_ways (is_hole polygons k) (of_k.hole ∙ ap not (eq-eqb k first e)) holes.1 in
      record {
        same = same;
        above = strict k of_k.from apart;
        past = of_k.past;
        other = λ e. both_ways (not (j == k)) (ap not (eq-eqb j k (same ∙ sym e))) d.1;
        here = b.1;
        hole = ap (is_hole polygons) (sym same) ∙ holes.0;
      }
    where
      strict : (k : ℕ) → first ≤ k → (k ≡ first → ⊥) → first < k
      strict k le off = elim (cases_eq k first) [ inl same ↦ absurd (off same) | inr _ ↦ omega arith ]

  around_by_none : ring ≡ first → IsLeast (nested_in polygons ring list) None
  around_by_none same = λ j k. false_from_ne_true (nested_in polygons ring list j k) (λ h. both_ways (is_hole polygons ring) (is.hole ∙ ap not (eq-eqb ring first same)) (around_parts j k h).hole)

  -- of the members before a place each is no later than the exterior, or is the ring
  abbrev pub ArePassed : ℕ → Type 0
  ArePassed at = (i : ℕ) → i < at → (get_or list i 0 ≤ first) ⊎ (get_or list i 0 ≡ ring)

  -- so what passes stands at a later place
  later : (at j k : ℕ) → ArePassed at → nested_in polygons ring list j k ≡ true → (i : ℕ) × (i < length list) × (get_or list i 0 ≡ k) × (at ≤ i)
  later at j k passed h =
      let parts = around_parts j k h in
      let found = place_of k list parts.here in (
        found.0,
        found.1,
        found.2,
        elim (cases_lt found.0 at) [
          | inl less ↦ absurd (elim (passed found.0 less) [ inl low ↦ omega (arith, low, found.2, parts.above) | inr own_ring ↦ parts.other (sym found.2 ∙ own_ring) ])
          | inr more ↦ more
        ],
      )

  pub around_end : (at : ℕ) → length list ≤ at → ArePassed at → IsLeast (nested_in polygons ring list) None
  around_end at past passed = λ j k. false_from_ne_true (nested_in polygons ring list j k) (λ h. (let found = later at j k passed h in omega (arith, found.1, found.3, past)))

  module _ (rising : is_rising nat_lt list ≡ true) (at : ℕ) (fits : at < length list) (passed : ArePassed at) where
    pub around_past : rings_before polygons (m + 1) ≤ get_or list at 0 → IsLeast (nested_in polygons ring list) None
    around_past past = λ j k. false_from_ne_true (nested_in polygons ring list j k) (λ h. (let found = later at j k passed h in omega (arith, rises_weakly list rising at found.0 found.3 found.1, found.2, (around_parts j k h).past, past)))

    pub around : (ring ≡ first → ⊥) → first < get_or list at 0 → get_or list at 0 < rings_before polygons (m + 1) → (get_or list at 0 ≡ ring → ⊥) → IsLeast (nested_in polygons ring list) (Some (ring, get_or list at 0))
    around inner above past other =
        let k = get_or list at 0 in
        let of_k = between polygons m k is.fits (omega arith) past in (
          and_from _ _ (eq-eqb ring ring refl) (and_from _ _
              (and_from _ _ (and_from _ _ (is.hole ∙ ap not (ne_eqb ring first inner)) (of_k.hole ∙ ap not (ne_eqb k first (λ e. omega (arith, above, e)))))
              (and_from _ _ (eq-eqb (polygon_of polygons ring) (polygon_of polygons k) (is.home ∙ sym of_k.home)) (ap not (ne_eqb ring k (λ e. other (sym e))))))
              (list_any_at (λ n. n == k) list at 0 fits (eq-eqb k k refl))),
          λ j n h. (let found = later at j n passed h in
              ap (λ i. pair_before (i, n) (ring, k)) (around_parts j n h).same ∙ not_lower ring n k (omega (arith, rises_weakly list rising at found.0 found.3 found.1, found.2))),
        )

  -- the exterior is not misplaced
  pub misplaced_by_none : (fault : Fault) → ring ≡ first → IsLeast (misplaced_in fault polygons ring list) None
  misplaced_by_none Outside = missed_by_none
  misplaced_by_none Nested = around_by_none
