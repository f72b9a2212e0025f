-- The first number that passes a test, and the first pair.
use Rattle.std.proofs.Common.{◌≡◌, ℕ, zero, suc, ◌+◌, ◌<◌, ◌≤◌, Bool, true, false, refl, sym, ◌∙◌, ap, inl, inr, arith}
use Rattle.std.specs.Prelude.{Some, None, find, option_map}
use Rattle.std.specs.List.{range_with_len}
use Rattle.std.proofs.lemmas.Bool.{cases_Bool, cases_eq, cond-true, cond-false}
use Rattle.loc_spec_text.specs.Bytes.{or_else}
use Rattle.loc_spec_plane.specs.Lists.{numbers}
use Rattle.loc_spec_valid.specs.Breaches.{first_pair}

module _ (p : ℕ → Bool) where
  at_from : (a n k : ℕ) → a ≤ k → k < a + n → p k ≡ true → ((j : ℕ) → a ≤ j → j < k → p j ≡ false) → find p (range_with_len a n) ≡ Some k
  at_from a zero k le lt h before = absurd (omega arith)
  at_from a (suc n) k le lt h before = elim (cases_eq a k) [
    | inl same ↦ cond-true (p a) _ _ (ap p same ∙ h) ∙ ap (λ j. Some j) same
    | inr other ↦ cond-false (p a) _ _ (before a (omega arith) (omega arith)) ∙ at_from (a + 1) n k (omega arith) (omega arith) h (λ j ge less. before j (omega arith) less)
  ]

  none_from : (a n : ℕ) → ((j : ℕ) → a ≤ j → j < a + n → p j ≡ false) → find p (range_with_len a n) ≡ None
  none_from a zero none = refl
  none_from a (suc n) none = cond-false (p a) _ _ (none a (omega arith) (omega arith)) ∙ none_from (a + 1) n (λ j ge less. none j (omega arith) (omega arith))

  -- the first number below n that passes
  pub first_at : (n k : ℕ) → k < n → p k ≡ true → ((j : ℕ) → j < k → p j ≡ false) → find p (numbers n) ≡ Some k
  first_at n k lt h before = at_from 0 n k (omega arith) (omega arith) h (λ j ge less. before j less)

  -- none passes
  pub first_none : (n : ℕ) → ((j : ℕ) → j < n → p j ≡ false) → find p (numbers n) ≡ None
  first_none n none = none_from 0 n (λ j ge less. none j (omega arith))

  past_from : (a n : ℕ) → find p (range_with_len a n) ≡ None → (j : ℕ) → a ≤ j → j < a + n → p j ≡ false
  past_from a zero none j ge lt = absurd (omega arith)
  past_from a (suc n) none j ge lt = elim (cases_Bool (p a)) [
    | inl here ↦ absurd (clash (sym (cond-true (p a) _ _ here) ∙ none))
    | inr off ↦ elim (cases_eq a j) [
      | inl same ↦ ap p (sym same) ∙ off
      | inr other ↦ past_from (a + 1) n (sym (cond-false (p a) _ _ off) ∙ none) j (omega arith) (omega arith)
    ]
  ]
    where
      clash : {X : Type 0} {x : X} → Some x ≡ None → ⊥
      clash e = cc

  -- where none is found none passes
  pub none_passes : (n : ℕ) → find p (numbers n) ≡ None → (j : ℕ) → j < n → p j ≡ false
  none_passes n none j lt = past_from 0 n none j (omega arith) (omega arith)

module _ (test : ℕ → ℕ → Bool) (n : ℕ) where
  pair_from : (a m j k : ℕ) → a ≤ j → j < a + m → k < n → test j k ≡ true → ((i q : ℕ) → a ≤ i → i < j → q < n → test i q ≡ false) → ((q : ℕ) → q < k → test j q ≡ false) → first_pair test (range_with_len a m) (numbers n) ≡ Some (j, k)
  pair_from a zero j k le lt lk h before earlier = absurd (omega arith)
  pair_from a (suc m) j k le lt lk h before earlier = elim (cases_eq a j) [
    | inl same ↦ ap (λ o. or_else (option_map (λ q. (a, q)) o) (first_pair test (range_with_len (a + 1) m) (numbers n))) (first_at (test a) n k lk (ap (λ i. test i k) same ∙ h) (λ q less. ap (λ i. test i q) same ∙ earlier q less))
        ∙ ap (λ (i : ℕ). Some (i, k)) same
    | inr other ↦ ap (λ o. or_else (option_map (λ q. (a, q)) o) (first_pair test (range_with_len (a + 1) m) (numbers n))) (first_none (test a) n (λ q less. before a q (omega arith) (omega arith) less))
        ∙ pair_from (a + 1) m j k (omega arith) (omega arith) lk h (λ i q ge less lq. before i q (omega arith) less lq) earlier
  ]

  no_pair_from : (a m : ℕ) → ((i q : ℕ) → a ≤ i → i < a + m → q < n → test i q ≡ false) → first_pair test (range_with_len a m) (numbers n) ≡ None
  no_pair_from a zero none = refl
  no_pair_from a (suc m) none =
      ap (λ o. or_else (option_map (λ q. (a, q)) o) (first_pair test (range_with_len (a + 1) m) (numbers n))) (first_none (test a) n (λ q less. none a q (omega arith) (omega arith) less))
      ∙ no_pair_from (a + 1) m (λ i q ge less lq. none i q (omega arith) (omega arith) lq)

  -- the first pair that passes
  pub first_pair_at : (m j k : ℕ) → j < m → k < n → test j k ≡ true → ((i q : ℕ) → i < j → q < n → test i q ≡ false) → ((q : ℕ) → q < k → test j q ≡ false) → first_pair test (numbers m) (numbers n) ≡ Some (j, k)
  first_pair_at m j k lj lk h before earlier = pair_from 0 m j k (omega arith) (omega arith) lk h (λ i q ge less lq. before i q less lq) earlier

  -- none passes
  pub no_pair : (m : ℕ) → ((i q : ℕ) → i < m → q < n → test i q ≡ false) → first_pair test (numbers m) (numbers n) ≡ None
  no_pair m none = no_pair_from 0 m (λ i q ge less lq. none i q (omega arith) lq)
