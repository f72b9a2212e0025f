-- Lists that rise: what a filter keeps of them, and ranges.
use Rattle.std.proofs.Common.{◌≡◌, ℕ, zero, suc, ◌+◌, ◌<◌, ◌≤◌, Bool, true, false, not, ◌&&◌, ◌||◌, List, [], ◌∷◌, filter, refl, sym, ◌∙◌, ap, ap₂, subst, ◌⊎◌, inl, inr, arith, ◌++◌, add-one}
use Rattle.std.specs.Prelude.{nat_lt, ◌==◌}
use Rattle.std.specs.List.{list_all, range_with_len}
use Rattle.std.proofs.lemmas.Bool.{and_parts, and_from, and_right, or_left, cases_Bool, cases_eq, cases_lt, cond-true, cond-false, eq-eqb, ne_eqb, le-ltb, lt-ltb, not_from_false}
use Rattle.loc_spec_plane.specs.Lists.{is_in, is_rising, numbers}

module _ {X : Type 0} (keeps : X → Bool) where
  -- what passes p and is kept passes q
  pub all_filter : (p q : X → Bool) → ((x : X) → p x ≡ true → keeps x ≡ true → q x ≡ true) → (xs : List X) → list_all p xs ≡ true → list_all q (filter keeps xs) ≡ true
  all_filter p q each [] all = refl
  all_filter p q each (x ∷ xs) all =
      let parts = and_parts (p x) (list_all p xs) all in
      elim (cases_Bool (keeps x)) [
        | inl kept ↦ ap (list_all q) (cond-true (keeps x) (x ∷ filter keeps xs) (filter keeps xs) kept) ∙ and_from (q x) (list_all q (filter keeps xs)) (each x parts.0 kept) (all_filter p q each xs parts.1)
        | inr left ↦ ap (list_all q) (cond-false (keeps x) (x ∷ filter keeps xs) (filter keeps xs) left) ∙ all_filter p q each xs parts.1
      ]

  -- what is kept of a list that rises rises
  pub rising_kept : (comes_before : X → X → Bool) (xs : List X) → is_rising comes_before xs ≡ true → is_rising comes_before (filter keeps xs) ≡ true
  rising_kept comes_before [] rises = refl
  rising_kept comes_before (x ∷ xs) rises =
      let parts = and_parts (list_all (comes_before x) xs) (is_rising comes_before xs) rises in
      elim (cases_Bool (keeps x)) [
        | inl kept ↦ ap (is_rising comes_before) (cond-true (keeps x) (x ∷ filter keeps xs) (filter keeps xs) kept)
            ∙ and_from (list_all (comes_before x) (filter keeps xs)) (is_rising comes_before (filter keeps xs)) (all_filter (comes_before x) (comes_before x) (λ y before _. before) xs parts.0) (rising_kept comes_before xs parts.1)
        | inr left ↦ ap (is_rising comes_before) (cond-false (keeps x) (x ∷ filter keeps xs) (filter keeps xs) left) ∙ rising_kept comes_before xs parts.1
      ]

-- a test that each number of a range passes
pub all_range : (p : ℕ → Bool) (a n : ℕ) → ((k : ℕ) → a ≤ k → k < a + n → p k ≡ true) → list_all p (range_with_len a n) ≡ true
all_range p a zero each = refl
all_range p a (suc n) each = and_from (p a) (list_all p (range_with_len (a + 1) n)) (each a (omega arith) (omega arith)) (all_range p (a + 1) n (λ k from lt. each k (omega (arith, from)) (omega (arith, lt))))

-- a range with one more number
pub range_more : (a n : ℕ) → range_with_len a (n + 1) ≡ range_with_len a n ++ (a + n) ∷ []
range_more a n = ap (range_with_len a) (add-one n) ∙ next a n
  where
    next : (a n : ℕ) → range_with_len a (suc n) ≡ range_with_len a n ++ (a + n) ∷ []
    next a zero = let same : a ≡ a + 0 = omega arith in ap (λ k. k ∷ []) same
    next a (suc n) = let same : (a + 1) + n ≡ a + suc n = omega arith in ap (λ ns. a ∷ ns) (next (a + 1) n ∙ ap (λ k. range_with_len (a + 1) n ++ k ∷ []) same)

-- the numbers below one more
pub numbers_more : (n : ℕ) → numbers (n + 1) ≡ numbers n ++ n ∷ []
numbers_more n = range_more 0 n ∙ ap (λ k. numbers n ++ k ∷ []) (let same : 0 + n ≡ n = omega arith in same)

-- a range rises
pub range_rises : (a n : ℕ) → is_rising nat_lt (range_with_len a n) ≡ true
range_rises a zero = refl
range_rises a (suc n) = and_from (list_all (nat_lt a) (range_with_len (a + 1) n)) (is_rising nat_lt (range_with_len (a + 1) n)) (all_range (nat_lt a) (a + 1) n (λ k from lt. lt-ltb a k (omega (arith, from)))) (range_rises (a + 1) n)

-- the numbers below n rise
pub numbers_rise : (n : ℕ) → is_rising nat_lt (numbers n) ≡ true
numbers_rise n = range_rises 0 n

-- the members of a range
pub is_in-range : (a k n : ℕ) → is_in n (range_with_len a k) ≡ (not (nat_lt n a) && nat_lt n (a + k))
is_in-range a zero n = elim (cases_lt n a) [ inl less ↦ grind arith | inr more ↦ grind arith ]
is_in-range a (suc k) n = elim (cases_eq a n) [
  | inl same ↦ or_left (a == n) (is_in n (range_with_len (a + 1) k)) (eq-eqb a n same) ∙ sym (and_from (not (nat_lt n a)) (nat_lt n (a + suc k)) (not_from_false (nat_lt n a) (le-ltb n a (omega arith))) (lt-ltb n (a + suc k) (omega arith)))
  | inr differ ↦ ap₂ (λ x y. x || y) (ne_eqb a n differ) (is_in-range (a + 1) k n) ∙ elim (cases_lt n a) [ inl less ↦ grind arith | inr more ↦ grind arith ]
]

-- the kept members are the members that pass
pub is_in-filter : (g : ℕ → Bool) (n : ℕ) (ns : List ℕ) → is_in n (filter g ns) ≡ (is_in n ns && g n)
is_in-filter g n [] = refl
is_in-filter g n (m ∷ ns) = at (cases_Bool (g m)) (cases_eq m n) (is_in-filter g n ns)
  where
    at : (g m ≡ true) ⊎ (g m ≡ false) → (m ≡ n) ⊎ (m ≡ n → ⊥) → is_in n (filter g ns) ≡ (is_in n ns && g n) → is_in n (filter g (m ∷ ns)) ≡ (is_in n (m ∷ ns) && g n)
    at (inl yes_m) (inl same) later = ap (is_in n) (cond-true (g m) (m ∷ filter g ns) (filter g ns) yes_m) ∙ (or_left (m == n) (is_in n (filter g ns)) (eq-eqb m n same) ∙ sym (and_from (is_in n (m ∷ ns)) (g n) (or_left (m == n) (is_in n ns) (eq-eqb m n same)) (subst (λ k. g k ≡ true) same yes_m)))
    at (inl yes_m) (inr other) later = ap (is_in n) (cond-true (g m) (m ∷ filter g ns) (filter g ns) yes_m) ∙ (ap (λ b. b || is_in n (filter g ns)) (ne_eqb m n other) ∙ (later ∙ ap (λ b. (b || is_in n ns) && g n) (sym (ne_eqb m n other))))
    at (inr no_m) (inl same) later = ap (is_in n) (cond-false (g m) (m ∷ filter g ns) (filter g ns) no_m) ∙ (later ∙ (and_right (is_in n ns) (g n) (subst (λ k. g k ≡ false) same no_m) ∙ sym (and_right (is_in n (m ∷ ns)) (g n) (subst (λ k. g k ≡ false) same no_m))))
    at (inr no_m) (inr other) later = ap (is_in n) (cond-false (g m) (m ∷ filter g ns) (filter g ns) no_m) ∙ (later ∙ ap (λ b. (b || is_in n ns) && g n) (sym (ne_eqb m n other)))
