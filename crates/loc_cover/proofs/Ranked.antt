-- The way down from an edge by the edges just below ends: each has a lesser rank.
use Rattle.std.proofs.Common.{◌≡◌, ℕ, ◌+◌, ◌<◌, ◌≤◌, Bool, true, false, ◌&&◌, ◌||◌, List, [], ◌∷◌, length, refl, sym, ◌∙◌, ap, subst, inl, inr, arith, Some, cond}
use Rattle.std.specs.Prelude.{nat_lt, ◌==◌, count_by}
use Rattle.std.specs.List.{list_all}
use Rattle.std.proofs.lemmas.Bool.{and_right, and_parts, and_from, or_left, or_right, or_from, or_cases, both_ways, cases_lt, true≢false, false_from_ne_true, not-true, eq-eqb, eqb-true, lt-ltb, le-ltb, ltb-true}
use Rattle.std.proofs.lemmas.List.Sums.{sum_by-cons}
use Rattle.loc_spec_plane.specs.{Lists.is_in, Points.before}
use Rattle.loc_spec_plane.specs.Tables.{Table, IsTable, NoConflict, corner, edge, lo_of, edge_numbers}
use Rattle.loc_spec_plane.specs.Places.{alive, alive_at, is_edge, lower_of, IsJustBelow}
use Rattle.loc_laws_order.proofs.{Sides.lower-asym, TableOrder.corner_before, TableOrder.numbers_within}
use Rattle.loc_laws_rays.proofs.Members.{in_numbers}
use Rattle.loc_cover.proofs.JustBelow.{alive_at_begin, lower_than}

-- edge x begins before edge e, or with it and lower
abbrev pub stands_before : Table → ℕ → ℕ → Bool
stands_before t e x = nat_lt (lo_of t x) (lo_of t e) || ((lo_of t x == lo_of t e) && lower_of t x e)

-- how many edges stand before edge e
abbrev pub rank : Table → ℕ → ℕ
rank t e = count_by (stands_before t e) (edge_numbers t)

-- ---- counting
-- one member more, of which the second test asks less
count_step : (a b : Bool) (m n : ℕ) → (a ≡ true → b ≡ true) → m ≤ n → cond a 1 0 + m ≤ cond b 1 0 + n
count_step true true m n less le = omega arith
count_step true false m n less le = absurd (true≢false (sym (less refl)))
count_step false true m n less le = omega arith
count_step false false m n less le = omega arith

count_more : (p q : ℕ → Bool) (n : ℕ) (xs : List ℕ) → list_all (λ k. nat_lt k n) xs ≡ true → ((x : ℕ) → x < n → p x ≡ true → q x ≡ true) → count_by p xs ≤ count_by q xs
count_more p q n [] fits more = omega arith
count_more p q n (x ∷ xs) fits more =
    let parts = and_parts (nat_lt x n) (list_all (λ k. nat_lt k n) xs) fits in
    omega (arith, count_step (p x) (q x) (count_by p xs) (count_by q xs) (more x (ltb-true x n parts.0)) (count_more p q n xs parts.1 more), sum_by-cons (λ y. cond (p y) 1 0) x xs, sum_by-cons (λ y. cond (q y) 1 0) x xs)

count_less : (p q : ℕ → Bool) (n d : ℕ) (xs : List ℕ) → list_all (λ k. nat_lt k n) xs ≡ true → ((x : ℕ) → x < n → p x ≡ true → q x ≡ true) → p d ≡ false → q d ≡ true → is_in d xs ≡ true → count_by p xs < count_by q xs
count_less p q n d [] fits more failed passed here = absurd (true≢false (sym here))
count_less p q n d (x ∷ xs) fits more failed passed here =
    let parts = and_parts (nat_lt x n) (list_all (λ k. nat_lt k n) xs) fits in
    let old = sum_by-cons (λ y. cond (p y) 1 0) x xs in
    let new = sum_by-cons (λ y. cond (q y) 1 0) x xs in
    elim (or_cases (x == d) (is_in d xs) here) [
      | inl same ↦ (let at : x ≡ d = eqb-true x d same in
          let none : cond (p x) 1 0 ≡ 0 = ap (λ (b : Bool). cond {A = ℕ} b 1 0) (ap p at ∙ failed) in
          let one : cond (q x) 1 0 ≡ 1 = ap (λ (b : Bool). cond {A = ℕ} b 1 0) (ap q at ∙ passed) in
          let rest = count_more p q n xs parts.1 more in omega (arith, old, new, none, one, rest))
      | inr later ↦ (let step = count_step (p x) (q x) (count_by p xs + 1) (count_by q xs) (more x (ltb-true x n parts.0)) (let rest = count_less p q n d xs parts.1 more failed passed later in omega (arith, rest)) in omega (arith, old, new, step))
    ]

-- ---- the edge just below
module _ (t : Table) (ok : IsTable t) (apart : NoConflict t) (e d : ℕ) (le : e < length t.ends) (below : IsJustBelow t e (Some d)) where
  d_parts : (alive_at t (edge t e).lo d ≡ true) × (lower_of t d e ≡ true)
  d_parts = and_parts (alive_at t (edge t e).lo d) (lower_of t d e) below.0

  -- it is an edge
  pub below_within : d < length t.ends
  below_within = ltb-true d (length t.ends) (and_parts (is_edge t d) (alive (edge t d) (edge t e).lo) d_parts.0).0

  -- it does not begin later
  begins_first : lo_of t d ≤ lo_of t e
  begins_first = elim (cases_lt (lo_of t e) (lo_of t d)) [
    | inl later ↦ (let up = ok.goes_up d below_within in
        absurd (both_ways (before (edge t e).lo (edge t d).lo) (not-true _ (and_parts _ _ (and_parts (is_edge t d) (alive (edge t d) (edge t e).lo) d_parts.0).1).0) (corner_before t ok (lo_of t e) (lo_of t d) later (omega arith))))
    | inr le ↦ le
  ]

  itself : stands_before t d d ≡ false
  itself = or_from _ _ (le-ltb (lo_of t d) (lo_of t d) (omega arith)) (and_right (lo_of t d == lo_of t d) (lower_of t d d) (false_from_ne_true (lower_of t d d) (λ h. lower-asym (edge t d) (edge t d) h h)))

  reaches : stands_before t e d ≡ true
  reaches = elim (cases_lt (lo_of t d) (lo_of t e)) [
    | inl lt ↦ or_left _ _ (lt-ltb (lo_of t d) (lo_of t e) lt)
    | inr le ↦ (let first = begins_first in or_right _ _ (and_from _ _ (eq-eqb (lo_of t d) (lo_of t e) (omega arith)) d_parts.1))
  ]

  passes : (x : ℕ) → x < length t.ends → stands_before t d x ≡ true → stands_before t e x ≡ true
  passes x lx h = (let first = begins_first in elim (or_cases (nat_lt (lo_of t x) (lo_of t d)) ((lo_of t x == lo_of t d) && lower_of t x d) h) [
    | inl earlier ↦ (let lt : lo_of t x < lo_of t d = ltb-true _ _ earlier in or_left _ _ (lt-ltb (lo_of t x) (lo_of t e) (omega arith)))
    | inr beside ↦ (let parts = and_parts (lo_of t x == lo_of t d) (lower_of t x d) beside in
        let same : lo_of t x ≡ lo_of t d = eqb-true _ _ parts.0 in
        elim (cases_lt (lo_of t d) (lo_of t e)) [
          | inl lt ↦ or_left _ _ (lt-ltb (lo_of t x) (lo_of t e) (omega arith))
          | inr le_lo ↦ (let at : lo_of t x ≡ lo_of t e = omega arith in
              let live : alive_at t (edge t e).lo x ≡ true = subst (λ k. alive_at t (corner t k) x ≡ true) at (alive_at_begin t ok apart x lx) in
              or_right _ _ (and_from _ _ (eq-eqb (lo_of t x) (lo_of t e) at) (and_parts (alive_at t (edge t e).lo x) (lower_of t x e) (lower_than t ok apart e le d x below ∙ or_right (x == d) _ (and_from _ _ live parts.1))).1))
        ])
  ])

  -- it has a lesser rank
  pub below_ranked : rank t d < rank t e
  below_ranked = count_less (stands_before t d) (stands_before t e) (length t.ends) d (edge_numbers t) (numbers_within (length t.ends)) passes itself reaches (in_numbers d (length t.ends) below_within)
