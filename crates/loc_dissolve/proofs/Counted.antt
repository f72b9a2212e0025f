-- Counts of the members of lists that pass a test: under a map, in a filter, up to a number in a list in order.
use Rattle.std.proofs.Common.{◌≡◌, ℕ, zero, suc, ◌+◌, ◌<◌, ◌≤◌, Bool, true, false, ◌&&◌, ◌||◌, List, [], ◌∷◌, length, get_or, map, filter, refl, sym, ◌∙◌, ap, inl, inr, arith, ltb, leb}
use Rattle.std.specs.Prelude.{◌==◌, count_by, nat_lt, if◌then◌else◌}
use Rattle.std.specs.List.{list_any}
use Rattle.std.proofs.lemmas.Bool.{cases_Bool, cases_order, cond-true, cond-false, lt-ltb}
use Rattle.std.proofs.lemmas.List.Sums.{length-filter, sum_by-cons}
use Rattle.loc_spec_plane.specs.Lists.{numbers, exactly_one}
use Rattle.loc_faces.proofs.Lines.{filter_same}

-- one for a test that holds
abbrev pub one : Bool → ℕ
one b = if b then 1 else 0

none_more : (n : ℕ) → one false + n ≡ n
none_more n = omega arith

-- the count of a list by its first member and the others
pub count-cons : {X : Type 0} (p : X → Bool) (x : X) (xs : List X) → count_by p (x ∷ xs) ≡ one (p x) + count_by p xs
count-cons p x xs = sum_by-cons (λ y. one (p y)) x xs

pub count-map : {X : Type 0} (p : ℕ → Bool) (f : X → ℕ) (xs : List X) → count_by p (map f xs) ≡ count_by (λ x. p (f x)) xs
count-map p f [] = refl
count-map p f (x ∷ xs) = count-cons p (f x) (map f xs) ∙ (ap (λ n. one (p (f x)) + n) (count-map p f xs) ∙ sym (count-cons (λ x. p (f x)) x xs))

pub count-filter : {X : Type 0} (p q : X → Bool) (xs : List X) → count_by p (filter q xs) ≡ count_by (λ x. q x && p x) xs
count-filter p q [] = refl
count-filter p q (x ∷ xs) = elim (cases_Bool (q x)) [
  | inl kept ↦ ap (count_by p) (cond-true (q x) (x ∷ filter q xs) (filter q xs) kept) ∙ (count-cons p x (filter q xs) ∙ (ap (λ n. one (p x) + n) (count-filter p q xs)
      ∙ (ap (λ b. one (b && p x) + count_by (λ y. q y && p y) xs) (sym kept) ∙ sym (count-cons (λ y. q y && p y) x xs))))
  | inr left ↦ ap (count_by p) (cond-false (q x) (x ∷ filter q xs) (filter q xs) left) ∙ (count-filter p q xs ∙ (sym (none_more (count_by (λ y. q y && p y) xs))
      ∙ (ap (λ b. one (b && p x) + count_by (λ y. q y && p y) xs) (sym left) ∙ sym (count-cons (λ y. q y && p y) x xs))))
]

-- a test that some member passes has a count above 0
pub any-count : {X : Type 0} (p : X → Bool) (xs : List X) → list_any p xs ≡ nat_lt 0 (count_by p xs)
any-count p [] = refl
any-count p (x ∷ xs) = elim (cases_Bool (p x)) [
  | inl pass ↦ ap (λ b. b || list_any p xs) pass ∙ sym (ap (nat_lt 0) (count-cons p x xs) ∙ (ap (λ b. nat_lt 0 (one b + count_by p xs)) pass ∙ lt-ltb 0 (1 + count_by p xs) (omega arith)))
  | inr fails ↦ ap (λ b. b || list_any p xs) fails ∙ (any-count p xs ∙ (ap (nat_lt 0) (sym (none_more (count_by p xs))) ∙ (ap (λ b. nat_lt 0 (one b + count_by p xs)) (sym fails) ∙ ap (nat_lt 0) (sym (count-cons p x xs)))))
]

-- two tests that agree below n
pub count_same : (p q : ℕ → Bool) (n : ℕ) → ((h : ℕ) → h < n → p h ≡ q h) → count_by p (numbers n) ≡ count_by q (numbers n)
count_same p q n agree = sym (length-filter p (numbers n)) ∙ (ap length (filter_same p q n agree) ∙ length-filter q (numbers n))

-- a test that the first i members pass, and no other
count_point : (p : ℕ → Bool) (xs : List ℕ) (i : ℕ) → i ≤ length xs → ((k : ℕ) → k < i → p (get_or xs k 0) ≡ true) → ((k : ℕ) → i ≤ k → k < length xs → p (get_or xs k 0) ≡ false) → count_by p xs ≡ i
count_point p [] i few front rest = omega (arith, few)
count_point p (x ∷ xs) zero few front rest = count-cons p x xs ∙ (ap (λ b. one b + count_by p xs) (rest 0 (omega arith) (omega arith)) ∙ (none_more (count_by p xs) ∙ count_point p xs 0 (omega arith) (λ k lt. absurd (omega arith)) (λ k le lt. rest (suc k) (omega arith) (omega (arith, lt)))))
count_point p (x ∷ xs) (suc i) few front rest =
    let later = count_point p xs i (omega (arith, few)) (λ k lt. front (suc k) (omega (arith, lt))) (λ k le lt. rest (suc k) (omega (arith, le)) (omega (arith, lt))) in
    let here : one (p x) ≡ 1 = ap one (front 0 (omega arith)) in
    omega (arith, count-cons p x xs, here, later)

-- those up to g are those below g and g itself
count_up_to : (g : ℕ) (xs : List ℕ) → count_by (λ h. leb h g) xs ≡ count_by (λ h. ltb h g) xs + count_by (λ h. h == g) xs
count_up_to g [] = refl
count_up_to g (x ∷ xs) =
    let rest = count_up_to g xs in
    let here : one (leb x g) ≡ one (ltb x g) + one (x == g) = elim (cases_order x g) [
      | inl same ↦ grind arith
      | inr differ ↦ elim differ [ inl less ↦ grind arith | inr greater ↦ grind arith ]
    ] in
    omega (arith, here, rest, count-cons (λ h. leb h g) x xs, count-cons (λ h. ltb h g) x xs, count-cons (λ h. h == g) x xs)

-- in a list in order g stands between the places up to which members are up to g and below g
pub count_between : (g : ℕ) (xs : List ℕ) (a b : ℕ) → a ≤ length xs → ((k : ℕ) → k < a → leb (get_or xs k 0) g ≡ true) → ((k : ℕ) → a ≤ k → k < length xs → leb (get_or xs k 0) g ≡ false)
    → b ≤ length xs → ((k : ℕ) → k < b → ltb (get_or xs k 0) g ≡ true) → ((k : ℕ) → b ≤ k → k < length xs → ltb (get_or xs k 0) g ≡ false) → a ≡ b + count_by (λ h. h == g) xs
count_between g xs a b few_a front_a rest_a few_b front_b rest_b = omega (arith, count_up_to g xs, count_point (λ h. leb h g) xs a few_a front_a rest_a, count_point (λ h. ltb h g) xs b few_b front_b rest_b)

one_across : (a b c : Bool) → one (c && exactly_one a b) + (one (b && (a && c)) + one (b && (a && c))) ≡ one (a && c) + one (b && c)
one_across true true true = refl
one_across true true false = refl
one_across true false true = refl
one_across true false false = refl
one_across false true true = refl
one_across false true false = refl
one_across false false true = refl
one_across false false false = refl

-- those of z that pass exactly one of x and y, and twice those that pass both, are those that pass x and those that pass y
pub across : {X : Type 0} (x y z : X → Bool) (fs : List X)
    → count_by (λ f. z f && exactly_one (x f) (y f)) fs + (count_by (λ f. y f && (x f && z f)) fs + count_by (λ f. y f && (x f && z f)) fs) ≡ count_by (λ f. x f && z f) fs + count_by (λ f. y f && z f) fs
across x y z [] = refl
across x y z (f ∷ fs) =
    let here = one_across (x f) (y f) (z f) in
    let rest = across x y z fs in
    omega (arith, here, rest, count-cons (λ f. z f && exactly_one (x f) (y f)) f fs, count-cons (λ f. y f && (x f && z f)) f fs, count-cons (λ f. x f && z f) f fs, count-cons (λ f. y f && z f) f fs)

-- no more pass in a filter than in the list
pub count_within : {X : Type 0} (p q : X → Bool) (xs : List X) → count_by p (filter q xs) ≤ count_by p xs
count_within p q [] = omega arith
count_within p q (x ∷ xs) = let rest = count_within p q xs in elim (cases_Bool (q x)) [
  | inl kept ↦ (let is = ap (count_by p) (cond-true (q x) (x ∷ filter q xs) (filter q xs) kept) in omega (arith, is, rest, count-cons p x (filter q xs), count-cons p x xs))
  | inr left ↦ (let is = ap (count_by p) (cond-false (q x) (x ∷ filter q xs) (filter q xs) left) in omega (arith, is, rest, count-cons p x xs))
]
