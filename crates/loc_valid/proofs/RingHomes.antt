-- The polygon of each ring, by the numbers of the first rings of polygons: the rings of a polygon follow one another, and its first is its exterior.
use Rattle.std.proofs.Common.{◌≡◌, ℕ, zero, suc, ◌+◌, ◌-◌, ◌<◌, ◌≤◌, Bool, false, not, List, [], ◌∷◌, ◌++◌, length, map, take, get_or, refl, sym, ◌∙◌, ap, ap₂, subst, inl, inr, arith, append_assoc}
use Rattle.std.specs.Prelude.{◌==◌}
use Rattle.std.proofs.lemmas.Bool.{cases_eq, cases_lt, eq-eqb, ne_eqb}
use Rattle.std.proofs.lemmas.List.{append-nil, get_or-map, get_or_past, length-append, length-map, length-take-le, map-append, take_all, take_more}
use Rattle.loc_spec_plane.specs.{Lists.numbers, Rings.Rings}
use Rattle.loc_spec_text.specs.Reading.{all_rings}
use Rattle.loc_spec_valid.specs.Breaches.{feature_rings, is_hole, polygon_of, ring_places}
use Rattle.loc_laws_valid.proofs.Placed.{as_many_places, back_place, front_place}
use Rattle.loc_rings.specs.Values.{rings_before}
use Rattle.loc_valid.specs.Hits.{AreHomes}
use Rattle.loc_valid.proofs.RingCounts.{ring_count}

-- two tests of numbers that are equal together
eqb_alike : (a b c d : ℕ) → (a ≡ b → c ≡ d) → (c ≡ d → a ≡ b) → (a == b) ≡ (c == d)
eqb_alike a b c d to back = elim (cases_eq a b) [
  | inl same ↦ eq-eqb a b same ∙ sym (eq-eqb c d (to same))
  | inr other ↦ ne_eqb a b other ∙ sym (ne_eqb c d (λ e. other (back e)))
]

-- the place of a ring of polygon m
placed_from : (n : ℕ) (polygons : List Rings) (m r : ℕ) → m < length polygons → rings_before polygons m ≤ r → r < rings_before polygons m + length (get_or polygons m []) → get_or (ring_places n polygons) r (0, false) ≡ (n + m, not (r == rings_before polygons m))
placed_from n [] m r lm lo hi = absurd (omega arith)
placed_from n (rings ∷ polygons) zero r lm lo hi = let same : n ≡ n + 0 = omega arith in front_place n rings polygons r (omega arith) ∙ ap (λ k. (k, not (r == 0))) same
placed_from n (rings ∷ polygons) (suc m) r lm lo hi =
    let many = length-append rings (all_rings (take m polygons)) in
    let at = placed_from (n + 1) polygons m (r - length rings) (omega arith) (omega (arith, many)) (omega (arith, many)) in
    let next : (n + 1) + m ≡ n + suc m = omega arith in
    let test : ((r - length rings) == rings_before polygons m) ≡ (r == rings_before (rings ∷ polygons) (suc m)) = eqb_alike (r - length rings) (rings_before polygons m) r (rings_before (rings ∷ polygons) (suc m)) (λ e. omega (arith, many, e, lo)) (λ e. omega (arith, many, e)) in
    back_place n rings polygons r (omega (arith, many)) ∙ (at
    ∙ ap₂ (λ (k : ℕ) (b : Bool). (k, not b)) next test)

-- each ring is of a polygon
of_polygon : (polygons : List Rings) (r : ℕ) → r < length (all_rings polygons) → (m : ℕ) × (m < length polygons) × (rings_before polygons m ≤ r) × (r < rings_before polygons m + length (get_or polygons m []))
of_polygon [] r lt = absurd (omega arith)
of_polygon (rings ∷ polygons) r lt = elim (cases_lt r (length rings)) [
  | inl front ↦ (0, omega arith, omega arith, omega arith)
  | inr back ↦ (let rest = of_polygon polygons (r - length rings) (omega (arith, length-append rings (all_rings polygons))) in
      let many = length-append rings (all_rings (take rest.0 polygons)) in
      (suc rest.0, omega (arith, rest.1), omega (arith, many, rest.2), omega (arith, many, rest.3)))
]

-- earlier polygons begin at lower numbers
pub before_rises : (polygons : List Rings) (i j : ℕ) → i ≤ j → rings_before polygons i ≤ rings_before polygons j
before_rises [] zero j le = omega arith
before_rises [] (suc i) j le = omega arith
before_rises (rings ∷ polygons) zero j le = omega arith
before_rises (rings ∷ polygons) (suc i) zero le = absurd (omega arith)
before_rises (rings ∷ polygons) (suc i) (suc j) le = omega (arith, length-append rings (all_rings (take i polygons)), length-append rings (all_rings (take j polygons)), before_rises polygons i j (omega arith))

-- there are no more rings than all
pub before_within : (polygons : List Rings) (i : ℕ) → rings_before polygons i ≤ length (feature_rings polygons)
before_within [] zero = omega arith
before_within [] (suc i) = omega arith
before_within (rings ∷ polygons) zero = omega arith
before_within (rings ∷ polygons) (suc i) = omega (arith, length-append rings (all_rings (take i polygons)), length-append rings (all_rings polygons), before_within polygons i)

-- ring r is of polygon m
pub record IsOf (polygons : List Rings) (r m : ℕ) : Type 0 where
  pub fits : m < length polygons
  pub from : rings_before polygons m ≤ r
  pub past : r < rings_before polygons (m + 1)
  pub home : polygon_of polygons r ≡ m
  pub hole : is_hole polygons r ≡ not (r == rings_before polygons m)

module _ (polygons : List Rings) where
  pub between : (m r : ℕ) → m < length polygons → rings_before polygons m ≤ r → r < rings_before polygons (m + 1) → IsOf polygons r m
  between m r lm lo hi =
      let at = placed_from 0 polygons m r lm lo (omega (arith, ring_count polygons m lm)) in
      record { fits = lm; from = lo; past = hi; home = (let plain : 0 + m ≡ m = omega arith in ap (λ (place : ℕ × Bool). place.0) at ∙ plain); hole = ap (λ (place : ℕ × Bool). place.1) at }

  -- a ring is of its polygon
  pub is_of : (r : ℕ) → r < length (feature_rings polygons) → IsOf polygons r (polygon_of polygons r)
  is_of r lt =
      let found = of_polygon polygons r lt in
      let is = between found.0 r found.1 found.2 (omega (arith, ring_count polygons found.0 found.1, found.3)) in
      subst (IsOf polygons r) (sym is.home) is

  -- a later ring is of no earlier polygon
  pub climbs : (r q : ℕ) → r ≤ q → q < length (feature_rings polygons) → polygon_of polygons r ≤ polygon_of polygons q
  climbs r q le lq =
      let of_r = is_of r (omega arith) in let of_q = is_of q lq in
      elim (cases_lt (polygon_of polygons q) (polygon_of polygons r)) [
        | inl less ↦ absurd (omega (arith, before_rises polygons (polygon_of polygons q + 1) (polygon_of polygons r) (omega arith), of_r.from, of_q.past))
        | inr more ↦ more
      ]

  -- the first ring of the polygon of a ring is its exterior
  pub exterior : (r m : ℕ) → IsOf polygons r m → IsOf polygons (rings_before polygons m) m
  exterior r m is = between m (rings_before polygons m) is.fits (omega arith) (omega (arith, is.from, is.past))

  pub no_hole : (m : ℕ) → IsOf polygons (rings_before polygons m) m → is_hole polygons (rings_before polygons m) ≡ false
  no_hole m is = is.hole ∙ ap not (eq-eqb (rings_before polygons m) (rings_before polygons m) refl)

  pub fits_all : (r m : ℕ) → IsOf polygons r m → r < length (feature_rings polygons)
  fits_all r m is = omega (arith, is.past, before_within polygons (m + 1))

-- ---- the list of them
module _ (polygons : List Rings) (homes : List ℕ) (are : AreHomes polygons homes) where
  pub as_many_homes : length homes ≡ length (feature_rings polygons)
  as_many_homes = ap length are ∙ (length-map (ring_places 0 polygons) (λ (place : ℕ × Bool). place.0) ∙ as_many_places 0 polygons)

  pub home_is : (r : ℕ) → get_or homes r 0 ≡ polygon_of polygons r
  home_is r = elim (cases_lt r (length homes)) [
    | inl lt ↦ ap (λ hs. get_or hs r 0) are ∙ get_or-map (λ (place : ℕ × Bool). place.0) (ring_places 0 polygons) r (0, false) 0 (omega (arith, as_many_homes, as_many_places 0 polygons))
    | inr past ↦ get_or_past homes r 0 past ∙ sym (ap (λ (place : ℕ × Bool). place.0) (get_or_past (ring_places 0 polygons) r (0, false) (omega (arith, as_many_homes, as_many_places 0 polygons))))
  ]

  -- the polygon of a ring, by its place in the list
  pub is_of_home : (r : ℕ) → r < length homes → IsOf polygons r (get_or homes r 0)
  is_of_home r lt = subst (IsOf polygons r) (sym (home_is r)) (is_of polygons r (omega (arith, as_many_homes)))

-- the places of the rings of one polygon more
places_append : (n : ℕ) (polygons : List Rings) (rings : Rings) → map (λ (place : ℕ × Bool). place.0) (ring_places n (polygons ++ rings ∷ [])) ≡ map (λ (place : ℕ × Bool). place.0) (ring_places n polygons) ++ map (λ _. n + length polygons) (numbers (length rings))
places_append n [] rings = map-append (λ (place : ℕ × Bool). place.0) (map (λ k. (n, not (k == 0))) (numbers (length rings))) [] ∙ (append-nil (map (λ (place : ℕ × Bool). place.0) (map (λ k. (n, not (k == 0))) (numbers (length rings)))) ∙ homes_alone n (numbers (length rings)))
  where
    homes_alone : (n : ℕ) (ks : List ℕ) → map (λ (place : ℕ × Bool). place.0) (map (λ k. (n, not (k == 0))) ks) ≡ map (λ _. n + 0) ks
    homes_alone n [] = refl
    homes_alone n (k ∷ ks) = let same : n ≡ n + 0 = omega arith in ap₂ (λ h hs. h ∷ hs) same (homes_alone n ks)
places_append n (own ∷ polygons) rings =
    let front : List (ℕ × Bool) = map (λ k. (n, not (k == 0))) (numbers (length own)) in
    let next : (n + 1) + length polygons ≡ n + suc (length polygons) = omega arith in
    map-append (λ (place : ℕ × Bool). place.0) front (ring_places (n + 1) (polygons ++ rings ∷ []))
    ∙ (ap (λ hs. map (λ (place : ℕ × Bool). place.0) front ++ hs) (places_append (n + 1) polygons rings)
    ∙ (sym (append_assoc (map (λ (place : ℕ × Bool). place.0) front) (map (λ (place : ℕ × Bool). place.0) (ring_places (n + 1) polygons)) (map (λ _. (n + 1) + length polygons) (numbers (length rings))))
    ∙ ap₂ (λ (hs : List ℕ) (k : ℕ). hs ++ map (λ _. k) (numbers (length rings))) (sym (map-append (λ (place : ℕ × Bool). place.0) front (ring_places (n + 1) polygons))) next))

pub homes_more : (polygons : List Rings) (n : ℕ) (homes more : List ℕ) → n < length polygons → AreHomes (take n polygons) homes → more ≡ homes ++ map (λ _. n) (numbers (length (get_or polygons n []))) → AreHomes (take (n + 1) polygons) more
homes_more polygons n homes more lt are is =
    let many : n ≡ 0 + length (take n polygons) = omega (arith, length-take-le n polygons (omega arith)) in
    is ∙ (ap (λ hs. hs ++ map (λ _. n) (numbers (length (get_or polygons n [])))) are
    ∙ (ap (λ k. map (λ (place : ℕ × Bool). place.0) (ring_places 0 (take n polygons)) ++ map (λ _. k) (numbers (length (get_or polygons n [])))) many
    ∙ (sym (places_append 0 (take n polygons) (get_or polygons n [])) ∙ ap (λ ps. map (λ (place : ℕ × Bool). place.0) (ring_places 0 ps)) (sym (take_more polygons n [] lt)))))

pub homes_all : (polygons : List Rings) (n : ℕ) (homes : List ℕ) → length polygons ≤ n → AreHomes (take n polygons) homes → AreHomes polygons homes
homes_all polygons n homes past are = are ∙ ap (λ ps. map (λ (place : ℕ × Bool). place.0) (ring_places 0 ps)) (take_all n polygons past)
