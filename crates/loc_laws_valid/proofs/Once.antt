-- Three different numbers that pass a test are more than two.
use Rattle.std.proofs.Common.{◌≡◌, ℕ, zero, suc, ◌+◌, ◌<◌, ◌≤◌, Bool, true, not, cond, ◌&&◌, refl, sym, ◌∙◌, ap, ap₂, inl, inr, arith}
use Rattle.std.specs.Prelude.{◌==◌, count_by}
use Rattle.std.specs.List.{range_with_len}
use Rattle.std.proofs.lemmas.Bool.{and_from, and_right, cases_eq, eq-eqb, ne_eqb}
use Rattle.std.proofs.lemmas.List.Sums.{sum_by-cons}
use Rattle.loc_spec_plane.specs.Lists.{numbers}
use Rattle.loc_laws_order.proofs.Booleans.{and_true}

-- what a member counts for
abbrev pub one_if : Bool → ℕ
one_if b = cond b 1 0

-- all that pass but one
abbrev but : (ℕ → Bool) → ℕ → ℕ → Bool
but p i x = p x && not (x == i)

same_past : (p : ℕ → Bool) (i a n : ℕ) → i < a → count_by (but p i) (range_with_len a n) ≡ count_by p (range_with_len a n)
same_past p i a zero lt = refl
same_past p i a (suc n) lt =
    sum_by-cons (λ x. cond (but p i x) 1 0) a (range_with_len (a + 1) n)
    ∙ (ap₂ (λ (b : Bool) k. one_if b + k) (ap (λ b. p a && not b) (ne_eqb a i (λ same. omega arith)) ∙ and_true (p a)) (same_past p i (a + 1) n (omega arith))
    ∙ sym (sum_by-cons (λ x. cond (p x) 1 0) a (range_with_len (a + 1) n)))

taken : (p : ℕ → Bool) (i a n : ℕ) → a ≤ i → i < a + n → p i ≡ true → count_by p (range_with_len a n) ≡ 1 + count_by (but p i) (range_with_len a n)
taken p i a zero le lt h = absurd (omega arith)
taken p i a (suc n) le lt h = elim (cases_eq a i) [
  | inl same ↦ (let here : one_if (p a) ≡ 1 = ap one_if (ap p same ∙ h) in
      let gone : one_if (but p i a) ≡ 0 = ap one_if (and_right (p a) (not (a == i)) (ap not (eq-eqb a i same))) in
      omega (arith, whole, part, here, gone, same_past p i (a + 1) n (omega arith)))
  | inr other ↦ (let kept : one_if (but p i a) ≡ one_if (p a) = ap one_if (ap (λ b. p a && not b) (ne_eqb a i other) ∙ and_true (p a)) in
      omega (arith, whole, part, kept, taken p i (a + 1) n (omega arith) (omega arith) h))
]
  where
    whole : count_by p (range_with_len a (suc n)) ≡ one_if (p a) + count_by p (range_with_len (a + 1) n)
    whole = sum_by-cons (λ x. cond (p x) 1 0) a (range_with_len (a + 1) n)

    part : count_by (but p i) (range_with_len a (suc n)) ≡ one_if (but p i a) + count_by (but p i) (range_with_len (a + 1) n)
    part = sum_by-cons (λ x. cond (but p i x) 1 0) a (range_with_len (a + 1) n)

pub three_counted : (p : ℕ → Bool) (n i j k : ℕ) → i < n → j < n → k < n → (j ≡ i → ⊥) → (k ≡ i → ⊥) → (k ≡ j → ⊥) → p i ≡ true → p j ≡ true → p k ≡ true → 2 < count_by p (numbers n)
three_counted p n i j k li lj lk ji ki kj pi pj pk =
    let first = taken p i 0 n (omega arith) (omega arith) pi in
    let second = taken (but p i) j 0 n (omega arith) (omega arith) (and_from _ _ pj (ap not (ne_eqb j i ji))) in
    let third = taken (but (but p i) j) k 0 n (omega arith) (omega arith) (and_from _ _ (and_from _ _ pk (ap not (ne_eqb k i ki))) (ap not (ne_eqb k j kj))) in
    omega (arith, first, second, third)
