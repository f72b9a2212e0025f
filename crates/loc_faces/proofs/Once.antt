-- Each half-edge stands in exactly one line of its face, once, and in no line of another.
use Rattle.std.proofs.Common.{◌≡◌, ℕ, ◌+◌, ◌<◌, Bool, true, false, not, ◌&&◌, cond, List, [], ◌∷◌, ◌++◌, filter, refl, sym, ◌∙◌, ap, subst, inl, inr, arith}
use Rattle.std.specs.Prelude.{◌==◌, ◌||◌, count_by, nat_lt}
use Rattle.std.specs.List.{flat_map}
use Rattle.std.proofs.lemmas.Bool.{cases_Bool, cond-true, cond-false, and_parts, eq-eqb, eqb-true, ltb-true, or_cases, or_left, or_right, true≢false}
use Rattle.std.proofs.{lemmas.List.Folds.list_any-append, lemmas.List.Sums.sum_by-append, lemmas.List.Sums.sum_by-cons}
use Rattle.loc_spec_plane.specs.{Lists.is_in, Lists.numbers, Tables.Table, Tables.IsTable}
use Rattle.loc_spec_plane.specs.HalfEdges.{half_edge_count, cycle, leader}
use Rattle.loc_spec_plane.specs.Faces.{hangs, leads_face}
use Rattle.loc_laws_order.proofs.{Kept.numbers_rise, Kept.rising_kept, Booleans.same-from_both}
use Rattle.loc_laws_rays.proofs.{Members.in_numbers, Members.is_in-filter, Picked.kept_below}
use Rattle.loc_half.specs.HalfEdgeLists.{HalfEdgeLists, AreHalfEdges, next_in}
use Rattle.loc_half.proofs.Orbits.{cycle_differs, in_cycle, leader_within, leads_itself, same_cycle}
use Rattle.loc_half.proofs.Permuting.{AllDiffer, differ_from_rising}
use Rattle.loc_faces.specs.Boundaries.{boundary, inner_leaders, leads_hanging, outer_leaders}
use Rattle.loc_faces.specs.FaceLists.{FaceLists, AreFaces, face_in}

-- 1 for a test that passes
abbrev pub one_if : Bool → ℕ
one_if b = cond b 1 0

-- a member of a list whose members differ stands there once
count_once : (y : ℕ) (ns : List ℕ) → AllDiffer ns → count_by (λ m. m == y) ns ≡ one_if (is_in y ns)
count_once y [] differ = refl
count_once y (n ∷ ns) differ = elim (cases_Bool (n == y)) [
  | inl here ↦ (let none : is_in y ns ≡ false = subst (λ k. is_in k ns ≡ false) (eqb-true n y here) differ.0 in
      let rest : count_by (λ m. m == y) ns ≡ 0 = count_once y ns differ.1 ∙ cond-false (is_in y ns) 1 0 none in
      let first : one_if (n == y) ≡ 1 = cond-true (n == y) 1 0 here in
      let whole : one_if (is_in y (n ∷ ns)) ≡ 1 = cond-true (is_in y (n ∷ ns)) 1 0 (or_left (n == y) (is_in y ns) here) in
      omega (arith, rest, first, whole, sum_by-cons (λ m. one_if (m == y)) n ns))
  | inr other ↦ (let rest = count_once y ns differ.1 in
      let first : one_if (n == y) ≡ 0 = cond-false (n == y) 1 0 other in
      let whole : one_if (is_in y (n ∷ ns)) ≡ one_if (is_in y ns) = ap (λ b. one_if b) (ap (λ b. b || is_in y ns) other) in
      omega (arith, rest, first, whole, sum_by-cons (λ m. one_if (m == y)) n ns))
]

-- a number that passes a test stands once among those below n that pass
count_kept : (p : ℕ → Bool) (n y : ℕ) → y < n → count_by (λ m. m == y) (filter p (numbers n)) ≡ one_if (p y)
count_kept p n y lt =
    count_once y (filter p (numbers n)) (differ_from_rising nat_lt asym (filter p (numbers n)) (rising_kept p nat_lt (numbers n) (numbers_rise n)))
    ∙ ap (λ b. one_if b) (is_in-filter p y (numbers n) ∙ ap (λ b. b && p y) (in_numbers y n lt))
  where
    asym : (a b : ℕ) → nat_lt a b ≡ true → nat_lt b a ≡ true → ⊥
    asym a b first second = let one = ltb-true a b first in let two = ltb-true b a second in omega (arith, one, two)

module _ (t : Table) (ok : IsTable t) (half : HalfEdgeLists) (are : AreHalfEdges t half) (h : ℕ) (lt : h < half_edge_count t) where
  -- a half-edge stands once in its cycle, and not in another
  count_cycle : (l : ℕ) → l < half_edge_count t → leader t (next_in half) l ≡ l → count_by (λ g. g == h) (cycle t (next_in half) l) ≡ one_if (l == leader t (next_in half) h)
  count_cycle l lt_l leads =
      count_once h (cycle t (next_in half) l) (cycle_differs t ok half are l lt_l)
      ∙ ap (λ b. one_if b) (same-from_both (is_in h (cycle t (next_in half) l)) (l == leader t (next_in half) h)
      (λ here. eq-eqb l (leader t (next_in half) h) (sym (same_cycle t ok half are h l lt_l here ∙ leads)))
      (λ same. in_cycle t ok half are h l lt lt_l (sym (eqb-true l (leader t (next_in half) h) same) ∙ sym leads)))

  -- in the cycles of leaders it stands as often as its leader among these
  count_cycles : (ls : List ℕ) → ((l : ℕ) → is_in l ls ≡ true → (l < half_edge_count t) × (leader t (next_in half) l ≡ l)) → count_by (λ g. g == h) (flat_map (cycle t (next_in half)) ls) ≡ count_by (λ l. l == leader t (next_in half) h) ls
  count_cycles [] each = refl
  count_cycles (l ∷ ls) each =
      let first = each l (or_left (l == l) (is_in l ls) (eq-eqb l l refl)) in
      let apart : count_by (λ g. g == h) (flat_map (cycle t (next_in half)) (l ∷ ls)) ≡ count_by (λ g. g == h) (cycle t (next_in half) l) + count_by (λ g. g == h) (flat_map (cycle t (next_in half)) ls) = sum_by-append (λ g. one_if (g == h)) (cycle t (next_in half) l) (flat_map (cycle t (next_in half)) ls) in
      let rest = count_cycles ls (λ k here. each k (or_right (l == k) (is_in k ls) here)) in
      let here : count_by (λ k. k == leader t (next_in half) h) (l ∷ ls) ≡ one_if (l == leader t (next_in half) h) + count_by (λ k. k == leader t (next_in half) h) ls = sum_by-cons (λ k. one_if (k == leader t (next_in half) h)) l ls in
      omega (arith, apart, count_cycle l first.0 first.1, rest, here)

  module _ (lists : FaceLists) (faces : AreFaces t (next_in half) lists) (f : ℕ) where
    leading : (p : ℕ → Bool) → ((l : ℕ) → p l ≡ true → (leader t (next_in half) l == l) ≡ true) → (l : ℕ) → is_in l (filter p (numbers (half_edge_count t))) ≡ true → (l < half_edge_count t) × (leader t (next_in half) l ≡ l)
    leading p leads l here = let kept = kept_below p (half_edge_count t) l here in (kept.0, eqb-true (leader t (next_in half) l) l (leads l kept.1))

    abbrev outer_test : ℕ → Bool
    outer_test l = leads_face t (next_in half) l && (face_in lists l == f)

    abbrev inner_test : ℕ → Bool
    inner_test l = leads_hanging t (next_in half) l && (face_in lists l == f)

    outer_leads : (l : ℕ) → outer_test l ≡ true → (leader t (next_in half) l == l) ≡ true
    outer_leads l pass = (and_parts (leader t (next_in half) l == l) (not (hangs t (next_in half) l)) (and_parts (leads_face t (next_in half) l) (face_in lists l == f) pass).0).0

    inner_leads : (l : ℕ) → inner_test l ≡ true → (leader t (next_in half) l == l) ≡ true
    inner_leads l pass = (and_parts (leader t (next_in half) l == l) (hangs t (next_in half) l) (and_parts (leads_hanging t (next_in half) l) (face_in lists l == f) pass).0).0

    -- its leader is one of an outer cycle or of a hanging one
    one_test : (l : ℕ) → (leader t (next_in half) l == l) ≡ true → one_if (outer_test l) + one_if (inner_test l) ≡ one_if (face_in lists l == f)
    one_test l leads = go (leader t (next_in half) l == l) (hangs t (next_in half) l) (face_in lists l == f) leads
      where
        go : (a b d : Bool) → a ≡ true → one_if ((a && not b) && d) + one_if ((a && b) && d) ≡ one_if d
        go true true d is = omega arith
        go true false d is = omega arith
        go false b d is = absurd (true≢false (sym is))

    pub stands_once : count_by (λ g. g == h) (boundary t (next_in half) (face_in lists) f) ≡ one_if (face_in lists h == f)
    stands_once =
        let within = leader_within t ok half are h lt in
        let leads : (leader t (next_in half) (leader t (next_in half) h) == leader t (next_in half) h) ≡ true = eq-eqb (leader t (next_in half) (leader t (next_in half) h)) (leader t (next_in half) h) (leads_itself t ok half are h lt) in
        let apart : count_by (λ k. k == leader t (next_in half) h) (outer_leaders t (next_in half) (face_in lists) f ++ inner_leaders t (next_in half) (face_in lists) f) ≡ count_by (λ k. k == leader t (next_in half) h) (outer_leaders t (next_in half) (face_in lists) f) + count_by (λ k. k == leader t (next_in half) h) (inner_leaders t (next_in half) (face_in lists) f) = sum_by-append (λ k. one_if (k == leader t (next_in half) h)) (outer_leaders t (next_in half) (face_in lists) f) (inner_leaders t (next_in half) (face_in lists) f) in
        let same : cond (face_in lists (leader t (next_in half) h) == f) 1 0 ≡ one_if (face_in lists h == f) = ap (λ k. one_if (k == f)) (sym (faces.one_each h lt)) in
        omega (arith, count_cycles (outer_leaders t (next_in half) (face_in lists) f ++ inner_leaders t (next_in half) (face_in lists) f) each, apart, count_kept outer_test (half_edge_count t) (leader t (next_in half) h) within, count_kept inner_test (half_edge_count t) (leader t (next_in half) h) within, one_test (leader t (next_in half) h) leads, same)
      where
        each : (l : ℕ) → is_in l (outer_leaders t (next_in half) (face_in lists) f ++ inner_leaders t (next_in half) (face_in lists) f) ≡ true → (l < half_edge_count t) × (leader t (next_in half) l ≡ l)
        each l here = elim (or_cases (is_in l (outer_leaders t (next_in half) (face_in lists) f)) (is_in l (inner_leaders t (next_in half) (face_in lists) f)) (sym (list_any-append (λ m. m == l) (outer_leaders t (next_in half) (face_in lists) f) (inner_leaders t (next_in half) (face_in lists) f)) ∙ here)) [
          | inl first ↦ leading outer_test outer_leads l first
          | inr second ↦ leading inner_test inner_leads l second
        ]
