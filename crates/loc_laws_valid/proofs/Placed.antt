-- The rings of a feature and their polygons: each ring of a polygon has a number, with its polygon and whether it is a hole, and a polygon has one exterior.
use Rattle.std.proofs.Common.{◌≡◌, ℕ, zero, suc, ◌+◌, ◌-◌, ◌<◌, ◌≤◌, Bool, false, not, List, [], ◌∷◌, length, get_or, map, refl, sym, ◌∙◌, ap, inl, inr, arith}
use Rattle.std.specs.Prelude.{◌==◌}
use Rattle.std.proofs.{Math.Seq.get_or-append_right, lemmas.Bool.cases_lt, lemmas.Bool.eqb-true, lemmas.Bool.not-false}
use Rattle.std.proofs.lemmas.List.{length-append, get_or_append_left, get_or-append-add}
use Rattle.std.proofs.lemmas.List.FromFn.{get_or-map-range_with_len, length-map-range_with_len}
use Rattle.loc_spec_plane.specs.{Lists.numbers, Rings.Rings}
use Rattle.loc_spec_valid.specs.Breaches.{ring_places, feature_rings}

-- the places of the rings of polygon n
abbrev own_places : ℕ → Rings → List (ℕ × Bool)
own_places n rings = map (λ k. (n, not (k == 0))) (numbers (length rings))

own_many : (n : ℕ) (rings : Rings) → length (own_places n rings) ≡ length rings
own_many n rings = length-map-range_with_len (λ k. (n, not (k == 0))) 0 (length rings)

-- each ring has a place
pub as_many_places : (n : ℕ) (polygons : List Rings) → length (ring_places n polygons) ≡ length (feature_rings polygons)
as_many_places n [] = refl
as_many_places n (rings ∷ polygons) = omega (arith, length-append (own_places n rings) (ring_places (n + 1) polygons), length-append rings (feature_rings polygons), own_many n rings, as_many_places (n + 1) polygons)

pub front_place : (n : ℕ) (rings : Rings) (polygons : List Rings) (r : ℕ) → r < length rings → get_or (ring_places n (rings ∷ polygons)) r (0, false) ≡ (n, not (r == 0))
front_place n rings polygons r lt =
    get_or_append_left (own_places n rings) (ring_places (n + 1) polygons) (0, false) r (omega (arith, own_many n rings))
    ∙ get_or-map-range_with_len (λ k. (n, not (k == 0))) 0 (length rings) r r (0, false) lt (omega arith)

pub back_place : (n : ℕ) (rings : Rings) (polygons : List Rings) (r : ℕ) → length rings ≤ r → get_or (ring_places n (rings ∷ polygons)) r (0, false) ≡ get_or (ring_places (n + 1) polygons) (r - length rings) (0, false)
back_place n rings polygons r le =
    get_or-append_right (own_places n rings) (ring_places (n + 1) polygons) r (0, false) (omega (arith, own_many n rings))
    ∙ ap (λ k. get_or (ring_places (n + 1) polygons) (r - k) (0, false)) (own_many n rings)

-- the number of a ring of a polygon
pub record Numbered (n : ℕ) (polygons : List Rings) (m j : ℕ) : Type 0 where
  pub number : ℕ
  pub fits : number < length (feature_rings polygons)
  pub is_ring : get_or (feature_rings polygons) number [] ≡ get_or (get_or polygons m []) j []
  pub place : get_or (ring_places n polygons) number (0, false) ≡ (n + m, not (j == 0))

pub numbered : (n : ℕ) (polygons : List Rings) (m j : ℕ) → m < length polygons → j < length (get_or polygons m []) → Numbered n polygons m j
numbered n [] m j lm lj = absurd (omega arith)
numbered n (rings ∷ polygons) zero j lm lj = record {
  number = j;
  fits = omega (arith, length-append rings (feature_rings polygons));
  is_ring = get_or_append_left rings (feature_rings polygons) [] j lj;
  place = front_place n rings polygons j lj ∙ ap (λ k. (k, not (j == 0))) (omega arith);
}
numbered n (rings ∷ polygons) (suc m) j lm lj =
    let rest = numbered (n + 1) polygons m j (omega arith) lj in
    let back : (length rings + rest.number) - length rings ≡ rest.number = omega arith in
    record {
      number = length rings + rest.number;
      fits = omega (arith, length-append rings (feature_rings polygons), rest.fits);
      is_ring = get_or-append-add rings (feature_rings polygons) rest.number [] ∙ rest.is_ring;
      place = back_place n rings polygons (length rings + rest.number) (omega arith) ∙ (ap (λ k. get_or (ring_places (n + 1) polygons) k (0, false)) back ∙ (rest.place ∙ ap (λ k. (k, not (j == 0))) (omega arith)));
    }

-- later polygons have greater numbers
later_place : (n : ℕ) (polygons : List Rings) (r : ℕ) → r < length (feature_rings polygons) → n ≤ (get_or (ring_places n polygons) r (0, false)).0
later_place n [] r lt = absurd (omega arith)
later_place n (rings ∷ polygons) r lt = elim (cases_lt r (length rings)) [
  | inl front ↦ (let e = ap (λ (place : ℕ × Bool). place.0) (front_place n rings polygons r front) in omega (arith, e))
  | inr back ↦ (let e = ap (λ (place : ℕ × Bool). place.0) (back_place n rings polygons r back) in
      omega (arith, e, later_place (n + 1) polygons (r - length rings) (omega (arith, length-append rings (feature_rings polygons)))))
]

-- of the rings of a polygon one is no hole
pub one_exterior : (n : ℕ) (polygons : List Rings) (r q : ℕ) → r < length (feature_rings polygons) → q < length (feature_rings polygons)
    → (get_or (ring_places n polygons) r (0, false)).0 ≡ (get_or (ring_places n polygons) q (0, false)).0
    → (get_or (ring_places n polygons) r (0, false)).1 ≡ false → (get_or (ring_places n polygons) q (0, false)).1 ≡ false → r ≡ q
one_exterior n [] r q lr lq same off_r off_q = absurd (omega arith)
one_exterior n (rings ∷ polygons) r q lr lq same off_r off_q = elim (cases_lt r (length rings)) [
  | inl front_r ↦ elim (cases_lt q (length rings)) [
    | inl front_q ↦ first r front_r off_r ∙ sym (first q front_q off_q)
    | inr back_q ↦ absurd (apart r q front_r back_q lq same)
  ]
  | inr back_r ↦ elim (cases_lt q (length rings)) [
    | inl front_q ↦ absurd (apart q r front_q back_r lr (sym same))
    | inr back_q ↦ (let rest : r - length rings ≡ q - length rings = one_exterior (n + 1) polygons (r - length rings) (q - length rings) (omega (arith, many)) (omega (arith, many))
        (sym (ap (λ (place : ℕ × Bool). place.0) (back_place n rings polygons r back_r)) ∙ (same ∙ ap (λ (place : ℕ × Bool). place.0) (back_place n rings polygons q back_q)))
        (sym (ap (λ (place : ℕ × Bool). place.1) (back_place n rings polygons r back_r)) ∙ off_r)
        (sym (ap (λ (place : ℕ × Bool). place.1) (back_place n rings polygons q back_q)) ∙ off_q) in omega arith)
  ]
]
  where
    many : length (feature_rings (rings ∷ polygons)) ≡ length rings + length (feature_rings polygons)
    many = length-append rings (feature_rings polygons)

    first : (k : ℕ) → k < length rings → (get_or (ring_places n (rings ∷ polygons)) k (0, false)).1 ≡ false → k ≡ 0
    first k lt off = eqb-true k 0 (not-false (k == 0) (sym (ap (λ (place : ℕ × Bool). place.1) (front_place n rings polygons k lt)) ∙ off))

    apart : (k m : ℕ) → k < length rings → length rings ≤ m → m < length (feature_rings (rings ∷ polygons)) → (get_or (ring_places n (rings ∷ polygons)) k (0, false)).0 ≡ (get_or (ring_places n (rings ∷ polygons)) m (0, false)).0 → ⊥
    apart k m lt le lm e =
        let here = ap (λ (place : ℕ × Bool). place.0) (front_place n rings polygons k lt) in
        let there = ap (λ (place : ℕ × Bool). place.0) (back_place n rings polygons m le) in
        omega (arith, e, here, there, later_place (n + 1) polygons (m - length rings) (omega (arith, many)))
