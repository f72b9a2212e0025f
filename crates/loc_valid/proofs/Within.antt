-- What is found stands within the numbers that are searched, and passes; and how the breaches follow one another.
use Rattle.std.proofs.Common.{◌≡◌, ℕ, zero, suc, ◌+◌, ◌<◌, ◌≤◌, Bool, true, false, refl, sym, ◌∙◌, ap, inl, inr, arith}
use Rattle.std.specs.Prelude.{Option, Some, None, find, option_map}
use Rattle.std.specs.List.{range_with_len}
use Rattle.std.proofs.lemmas.Bool.{cases_Bool, cases_eq, cond-true, cond-false}
use Rattle.loc_spec_text.specs.Bytes.{or_else}
use Rattle.loc_spec_plane.specs.Lists.{numbers}
use Rattle.loc_spec_valid.specs.Breaches.{first_pair}
use Rattle.loc_laws_valid.proofs.Least.{none_passes}

pub some_is : {X : Type 0} {x y : X} → Some x ≡ Some y → x ≡ y
some_is e = cc

pub none_some : {X : Type 0} {x : X} → None ≡ Some x → ⊥
none_some e = cc

module _ (p : ℕ → Bool) where
  find_from : (a n k : ℕ) → find p (range_with_len a n) ≡ Some k → (k < a + n) × (p k ≡ true)
  find_from a zero k is = absurd (none_some is)
  find_from a (suc n) k is = elim (cases_Bool (p a)) [
    | inl here ↦ (let same : a ≡ k = some_is (sym (cond-true (p a) _ _ here) ∙ is) in (omega arith, ap p (sym same) ∙ here))
    | inr off ↦ (let rest = find_from (a + 1) n k (sym (cond-false (p a) _ _ off) ∙ is) in (omega (arith, rest.0), rest.1))
  ]

  -- what is found is below the end
  pub found_within : (n k : ℕ) → find p (numbers n) ≡ Some k → (k < n) × (p k ≡ true)
  found_within n k is = let found = find_from 0 n k is in (omega (arith, found.0), found.1)

module _ (test : ℕ → ℕ → Bool) (n : ℕ) where
  -- by the first that passes with a, or by the later pairs
  by_first : (a m : ℕ) (q : ℕ × ℕ) (o : Option ℕ) (later : Option (ℕ × ℕ)) → find (test a) (numbers n) ≡ o → or_else (option_map (λ k. (a, k)) o) later ≡ Some q → (later ≡ Some q → (q.0 < (a + 1) + m) × (q.1 < n)) → (q.0 < a + suc m) × (q.1 < n)
  by_first a m q None later none is rest = let found = rest is in (omega (arith, found.0), found.1)
  by_first a m q (Some k) later found is rest =
      let same : (a, k) ≡ q = some_is is in
      let first = ap (λ (r : ℕ × ℕ). r.0) same in
      let second = ap (λ (r : ℕ × ℕ). r.1) same in
      (omega (arith, first), omega (arith, second, (found_within (test a) n k found).0))

  pair_from : (a m : ℕ) (q : ℕ × ℕ) → first_pair test (range_with_len a m) (numbers n) ≡ Some q → (q.0 < a + m) × (q.1 < n)
  pair_from a zero q is = absurd (none_some is)
  pair_from a (suc m) q is = by_first a m q (find (test a) (numbers n)) (first_pair test (range_with_len (a + 1) m) (numbers n)) refl is (pair_from (a + 1) m q)

  -- a pair that is found is within both ends
  pub pair_within : (m : ℕ) (q : ℕ × ℕ) → first_pair test (numbers m) (numbers n) ≡ Some q → (q.0 < m) × (q.1 < n)
  pair_within m q is = let found = pair_from 0 m q is in (omega (arith, found.0), found.1)

  no_first : (a m : ℕ) (o : Option ℕ) (later : Option (ℕ × ℕ)) → find (test a) (numbers n) ≡ o → or_else (option_map (λ k. (a, k)) o) later ≡ None → (later ≡ None → (j k : ℕ) → a + 1 ≤ j → j < (a + 1) + m → k < n → test j k ≡ false) → (j k : ℕ) → a ≤ j → j < a + suc m → k < n → test j k ≡ false
  no_first a m None later none is rest j k ge lt lk = elim (cases_eq a j) [
    | inl same ↦ ap (λ i. test i k) (sym same) ∙ none_passes (test a) n none k lk
    | inr other ↦ rest is j k (omega arith) (omega arith) lk
  ]
  no_first a m (Some i) later found is rest j k ge lt lk = absurd (none_some (sym is))

  no_pair_from : (a m : ℕ) → first_pair test (range_with_len a m) (numbers n) ≡ None → (j k : ℕ) → a ≤ j → j < a + m → k < n → test j k ≡ false
  no_pair_from a zero none j k ge lt lk = absurd (omega arith)
  no_pair_from a (suc m) none j k ge lt lk = no_first a m (find (test a) (numbers n)) (first_pair test (range_with_len (a + 1) m) (numbers n)) refl none (no_pair_from (a + 1) m) j k ge lt lk

  -- where no pair is found none passes
  pub none_pairs : (m : ℕ) → first_pair test (numbers m) (numbers n) ≡ None → (j k : ℕ) → j < m → k < n → test j k ≡ false
  none_pairs m none j k lj lk = no_pair_from 0 m none j k (omega arith) (omega arith) lk

-- of options the first
pub stop : {X : Type 0} (o rest : Option X) (x : X) → o ≡ Some x → or_else o rest ≡ Some x
stop {X} o rest x is = ap (λ (p : Option X). or_else p rest) is

pub skip : {X : Type 0} (o rest : Option X) → o ≡ None → or_else o rest ≡ rest
skip {X} o rest is = ap (λ (p : Option X). or_else p rest) is
