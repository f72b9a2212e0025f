-- How many rings a polygon has, by the numbers of first rings; and whether it is parted.
use Rattle.std.proofs.Common.{◌≡◌, ℕ, zero, suc, ◌+◌, ◌<◌, ◌≤◌, Bool, true, false, not, ◌&&◌, List, [], ◌∷◌, length, take, get_or, refl, ◌∙◌, ap, arith}
use Rattle.std.specs.Prelude.{◌==◌}
use Rattle.std.proofs.lemmas.Bool.{and_from, eq-eqb, ne_eqb}
use Rattle.std.proofs.lemmas.List.{append-nil, length-append}
use Rattle.loc_spec_plane.specs.Rings.{Rings}
use Rattle.loc_spec_text.specs.Reading.{all_rings}
use Rattle.loc_spec_valid.specs.Breaches.{is_parted}
use Rattle.loc_rings.specs.Values.{rings_before}
use Rattle.loc_faces.specs.Subdivision.{face_at, next_at}
use Rattle.loc_valid.specs.Judged.{parts_at}

-- the rings of polygon n stand between the number of its first ring and that of the next polygon
pub ring_count : (polygons : List Rings) (n : ℕ) → n < length polygons → rings_before polygons (n + 1) ≡ rings_before polygons n + length (get_or polygons n [])
ring_count polygons n lt = let next : n + 1 ≡ suc n = omega arith in ap (rings_before polygons) next ∙ each polygons n lt
  where
    each : (polygons : List Rings) (n : ℕ) → n < length polygons → rings_before polygons (suc n) ≡ rings_before polygons n + length (get_or polygons n [])
    each [] n lt = absurd (omega arith)
    each (rings ∷ polygons) zero lt = let one = ap length (append-nil rings) in omega (arith, one)
    each (rings ∷ polygons) (suc n) lt = omega (arith, length-append rings (all_rings (take n polygons)), length-append rings (all_rings (take (suc n) polygons)), each polygons n (omega arith))

module _ (polygons : List Rings) (n : ℕ) (lt : n < length polygons) (first past : ℕ) (is_first : first ≡ rings_before polygons n) (is_past : past ≡ rings_before polygons (n + 1)) where
  pub empty : past ≤ first → is_parted next_at face_at polygons n ≡ false
  empty le =
      let none : length (get_or polygons n []) ≡ 0 = omega (arith, ring_count polygons n lt) in
      ap (λ b. not b && not (parts_at polygons n == 1)) (eq-eqb (length (get_or polygons n [])) 0 none)

  pub whole : parts_at polygons n ≡ 1 → is_parted next_at face_at polygons n ≡ false
  whole one = ap (λ b. not (length (get_or polygons n []) == 0) && not b) (eq-eqb (parts_at polygons n) 1 one) ∙ none (not (length (get_or polygons n []) == 0))
    where
      none : (b : Bool) → (b && false) ≡ false
      none true = refl
      none false = refl

  pub parted : first < past → (parts_at polygons n ≡ 1 → ⊥) → is_parted next_at face_at polygons n ≡ true
  parted some other = and_from _ _
      (ap not (ne_eqb (length (get_or polygons n [])) 0 (λ none. omega (arith, ring_count polygons n lt, none))))
      (ap not (ne_eqb (parts_at polygons n) 1 other))
