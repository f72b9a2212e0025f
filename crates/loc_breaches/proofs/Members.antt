-- Members of lists, and the tests that they pass.
use Rattle.std.proofs.Common.{◌≡◌, ◌⊎◌, ℕ, zero, suc, ◌+◌, ◌<◌, ◌≤◌, Bool, true, false, List, [], ◌∷◌, ◌++◌, map, filter, Option, Some, None, refl, sym, ◌∙◌, ap, subst, inl, inr, arith}
use Rattle.std.specs.Prelude.{find, option_map, if◌then◌else◌}
use Rattle.std.specs.List.{flat_map, list_any, range_with_len}
use Rattle.std.proofs.lemmas.Bool.{cases_eq, or_cases, or_left, or_right, true≢false}
use Rattle.loc_spec_text.specs.Bytes.{or_else}
use Rattle.loc_spec_valid.specs.Breaches.{first_pair}

-- x is one of the list
abbrev pub Among : {A : Type 0} → A → List A → Type 0
Among x [] = ⊥
Among x (y ∷ ys) = (x ≡ y) ⊎ Among x ys

-- ---- one that passes a test
pub among_any : {A : Type 0} (test : A → Bool) (xs : List A) (x : A) → Among x xs → test x ≡ true → list_any test xs ≡ true
among_any test [] x at passes = absurd at
among_any test (y ∷ ys) x (inl same) passes = or_left (test y) (list_any test ys) (sym (ap test same) ∙ passes)
among_any test (y ∷ ys) x (inr at) passes = or_right (test y) (list_any test ys) (among_any test ys x at passes)

pub any_among : {A : Type 0} (test : A → Bool) (xs : List A) → list_any test xs ≡ true → (x : A) × Among x xs × (test x ≡ true)
any_among test [] passes = absurd (true≢false (sym passes))
any_among test (y ∷ ys) passes = elim (or_cases (test y) (list_any test ys) passes) [
  | inl here ↦ (y, inl refl, here)
  | inr later ↦ let found = any_among test ys later in (found.0, inr found.1, found.2)
]

-- ---- members of what lists are made into
pub among_front : {A : Type 0} (x : A) (xs ys : List A) → Among x xs → Among x (xs ++ ys)
among_front x [] ys at = absurd at
among_front x (z ∷ zs) ys (inl same) = inl same
among_front x (z ∷ zs) ys (inr at) = inr (among_front x zs ys at)

pub among_back : {A : Type 0} (x : A) (xs ys : List A) → Among x ys → Among x (xs ++ ys)
among_back x [] ys at = at
among_back x (z ∷ zs) ys at = inr (among_back x zs ys at)

among_parts : {A : Type 0} (x : A) (xs ys : List A) → Among x (xs ++ ys) → Among x xs ⊎ Among x ys
among_parts x [] ys at = inr at
among_parts x (z ∷ zs) ys (inl same) = inl (inl same)
among_parts x (z ∷ zs) ys (inr at) = elim (among_parts x zs ys at) [
  | inl front ↦ inl (inr front)
  | inr back ↦ inr back
]

pub among_map : {A B : Type 0} (f : A → B) (x : A) (xs : List A) → Among x xs → Among (f x) (map f xs)
among_map f x [] at = absurd at
among_map f x (y ∷ ys) (inl same) = inl (ap f same)
among_map f x (y ∷ ys) (inr at) = inr (among_map f x ys at)

pub map_among : {A B : Type 0} (f : A → B) (b : B) (xs : List A) → Among b (map f xs) → (x : A) × Among x xs × (b ≡ f x)
map_among f b [] at = absurd at
map_among f b (y ∷ ys) (inl same) = (y, inl refl, same)
map_among f b (y ∷ ys) (inr at) = let found = map_among f b ys at in (found.0, inr found.1, found.2)

pub among_flat : {A B : Type 0} (f : A → List B) (x : A) (b : B) (xs : List A) → Among x xs → Among b (f x) → Among b (flat_map f xs)
among_flat f x b [] at own = absurd at
among_flat f x b (y ∷ ys) (inl same) own = among_front b (f y) (flat_map f ys) (subst (λ z. Among b (f z)) same own)
among_flat f x b (y ∷ ys) (inr at) own = among_back b (f y) (flat_map f ys) (among_flat f x b ys at own)

pub flat_among : {A B : Type 0} (f : A → List B) (b : B) (xs : List A) → Among b (flat_map f xs) → (x : A) × Among x xs × Among b (f x)
flat_among f b [] at = absurd at
flat_among f b (y ∷ ys) at = elim (among_parts b (f y) (flat_map f ys) at) [
  | inl here ↦ (y, inl refl, here)
  | inr later ↦ let found = flat_among f b ys later in (found.0, inr found.1, found.2)
]

kept_among : {A : Type 0} (p : A → Bool) (x y : A) (ys : List A) (own : Bool) → p y ≡ own → Among x (if own then y ∷ filter p ys else filter p ys) → (Among x (filter p ys) → Among x ys × (p x ≡ true)) → Among x (y ∷ ys) × (p x ≡ true)
kept_among p x y ys true is (inl same) more = (inl same, ap p same ∙ is)
kept_among p x y ys true is (inr at) more = let rest = more at in (inr rest.0, rest.1)
kept_among p x y ys false is at more = let rest = more at in (inr rest.0, rest.1)

pub filter_among : {A : Type 0} (p : A → Bool) (x : A) (xs : List A) → Among x (filter p xs) → Among x xs × (p x ≡ true)
filter_among p x [] at = absurd at
filter_among p x (y ∷ ys) at = kept_among p x y ys (p y) refl at (filter_among p x ys)

among_kept : {A : Type 0} (p : A → Bool) (x y : A) (ys : List A) (own : Bool) → p y ≡ own → p x ≡ true → (x ≡ y) ⊎ Among x (filter p ys) → Among x (if own then y ∷ filter p ys else filter p ys)
among_kept p x y ys true is passes at = at
among_kept p x y ys false is passes (inl same) = absurd (true≢false (sym passes ∙ (ap p same ∙ is)))
among_kept p x y ys false is passes (inr at) = at

pub among_filter : {A : Type 0} (p : A → Bool) (x : A) (xs : List A) → Among x xs → p x ≡ true → Among x (filter p xs)
among_filter p x [] at passes = absurd at
among_filter p x (y ∷ ys) (inl same) passes = among_kept p x y ys (p y) refl passes (inl same)
among_filter p x (y ∷ ys) (inr at) passes = among_kept p x y ys (p y) refl passes (inr (among_filter p x ys at passes))

-- ---- numbers
pub among_range : (a n k : ℕ) → a ≤ k → k < a + n → Among k (range_with_len a n)
among_range a zero k low high = absurd (omega (arith, low, high))
among_range a (suc n) k low high = elim (cases_eq k a) [
  | inl same ↦ inl same
  | inr other ↦ inr (among_range (a + 1) n k (omega (arith, low, other)) (omega (arith, high)))
]

pub range_among : (a n k : ℕ) → Among k (range_with_len a n) → (a ≤ k) × (k < a + n)
range_among a zero k at = absurd at
range_among a (suc n) k (inl same) = (omega (arith, same), omega (arith, same))
range_among a (suc n) k (inr at) = let rest = range_among (a + 1) n k at in (omega (arith, rest.0), omega (arith, rest.1))

-- ---- the first that passes
pub none_found : {A : Type 0} (p : A → Bool) (xs : List A) → ((x : A) → Among x xs → p x ≡ false) → find p xs ≡ None
none_found p [] none = refl
none_found p (y ∷ ys) none = rw (none y (inl refl)) (none_found p ys (λ x at. none x (inr at)))

found_none : {A : Type 0} (p : A → Bool) (y : A) (ys : List A) (own : Bool) → p y ≡ own → (if own then Some y else find p ys) ≡ None → (p y ≡ false) × (find p ys ≡ None)
found_none p y ys true is none = absurd (cc none)
found_none p y ys false is none = (is, none)

pub none_passes : {A : Type 0} (p : A → Bool) (xs : List A) → find p xs ≡ None → (x : A) → Among x xs → p x ≡ false
none_passes p [] none x at = absurd at
none_passes p (y ∷ ys) none x (inl same) = ap p same ∙ (found_none p y ys (p y) refl none).0
none_passes p (y ∷ ys) none x (inr at) = none_passes p ys (found_none p y ys (p y) refl none).1 x at

pub no_pair : (test : ℕ → ℕ → Bool) (ms ns : List ℕ) → ((m n : ℕ) → Among m ms → Among n ns → test m n ≡ false) → first_pair test ms ns ≡ None
no_pair test [] ns none = refl
no_pair test (m ∷ ms) ns none =
    ap (λ (o : Option ℕ). or_else (option_map (λ n. (m, n)) o) (first_pair test ms ns)) (none_found (test m) ns (λ n at. none m n (inl refl) at)) ∙ no_pair test ms ns (λ k n at own. none k n (inr at) own)

first_none : (m : ℕ) (o : Option ℕ) (rest : Option (ℕ × ℕ)) → or_else (option_map (λ n. (m, n)) o) rest ≡ None → (o ≡ None) × (rest ≡ None)
first_none m None rest none = (refl, none)
first_none m (Some n) rest none = absurd (cc none)

pub pair_none : (test : ℕ → ℕ → Bool) (ms ns : List ℕ) → first_pair test ms ns ≡ None → (m n : ℕ) → Among m ms → Among n ns → test m n ≡ false
pair_none test [] ns none m n at own = absurd at
pair_none test (k ∷ ms) ns none m n (inl same) own = ap (λ j. test j n) same ∙ none_passes (test k) ns (first_none k (find (test k) ns) (first_pair test ms ns) none).0 n own
pair_none test (k ∷ ms) ns none m n (inr at) own = pair_none test ms ns (first_none k (find (test k) ns) (first_pair test ms ns) none).1 m n at own
