-- Tests of the members of lists, and sorted sets of what is in order.
use Rattle.std.proofs.Common.{◌≡◌, ℕ, Bool, true, false, ◌||◌, List, [], ◌∷◌, ◌++◌, refl, sym, ◌∙◌, ap, inl, inr}
use Rattle.std.specs.Prelude.{◌==◌}
use Rattle.std.specs.List.{list_any, list_all}
use Rattle.std.proofs.lemmas.Bool.{and_parts, and_from, or_cases, or_left, or_right, cases_Bool, cases_eq, eq-eqb, ne_eqb, cond-true, cond-false}
use Rattle.std.proofs.lemmas.List.Folds.{list_all-append}
use Rattle.loc_spec_plane.specs.Lists.{is_rising, with_member, sorted_set}
use Rattle.loc_laws_order.proofs.Booleans.{or_exchange, or_twice}

-- a test of two numbers, either way
pub number_swap : (m n : ℕ) → (m == n) ≡ (n == m)
number_swap m n = elim (cases_eq m n) [ inl same ↦ eq-eqb m n same ∙ sym (eq-eqb n m (sym same)) | inr differ ↦ ne_eqb m n differ ∙ sym (ne_eqb n m (λ same. differ (sym same))) ]

-- what passes a test passes one that asks less
pub any_weaker : {X : Type 0} (p q : X → Bool) → ((x : X) → p x ≡ true → q x ≡ true) → (xs : List X) → list_any p xs ≡ true → list_any q xs ≡ true
any_weaker p q weaker [] h = h
any_weaker p q weaker (x ∷ xs) h = elim (or_cases (p x) (list_any p xs) h) [ inl here ↦ or_left (q x) _ (weaker x here) | inr later ↦ or_right (q x) _ (any_weaker p q weaker xs later) ]

-- where some member passes there is one
pub any_some : {X : Type 0} (p : X → Bool) (xs : List X) → list_any p xs ≡ true → (x : X) × (p x ≡ true)
any_some p [] h = absurd cc
any_some p (x ∷ xs) h = elim (or_cases (p x) (list_any p xs) h) [ inl here ↦ (x, here) | inr later ↦ any_some p xs later ]

-- what all pass they pass that asks less
pub all_weaker : {X : Type 0} (p q : X → Bool) → ((x : X) → p x ≡ true → q x ≡ true) → (xs : List X) → list_all p xs ≡ true → list_all q xs ≡ true
all_weaker p q weaker [] h = refl
all_weaker p q weaker (x ∷ xs) h = let parts = and_parts (p x) (list_all p xs) h in and_from (q x) _ (weaker x parts.0) (all_weaker p q weaker xs parts.1)

-- what all of two lists pass all of the lists together pass
pub all_joined : {X : Type 0} (p : X → Bool) (xs ys : List X) → list_all p xs ≡ true → list_all p ys ≡ true → list_all p (xs ++ ys) ≡ true
all_joined p xs ys first second = list_all-append p xs ys ∙ and_from (list_all p xs) (list_all p ys) first second

module _ {X : Type 0} (comes_before : X → X → Bool) where
  -- a test that x and all members pass is passed by all of the list with x
  all-with_member : (p : X → Bool) (x : X) (ys : List X) → p x ≡ true → list_all p ys ≡ true → list_all p (with_member comes_before x ys) ≡ true
  all-with_member p x [] h all = and_from (p x) true h refl
  all-with_member p x (y ∷ ys) h all = elim (cases_Bool (comes_before x y)) [
    | inl first ↦ ap (list_all p) (cond-true _ _ _ first) ∙ and_from (p x) _ h all
    | inr not_first ↦ elim (cases_Bool (comes_before y x)) [
      | inl later ↦ ap (list_all p) (cond-false _ _ _ not_first ∙ cond-true _ _ _ later) ∙ (let parts = and_parts (p y) (list_all p ys) all in and_from (p y) _ parts.0 (all-with_member p x ys h parts.1))
      | inr not_later ↦ ap (list_all p) (cond-false _ _ _ not_first ∙ cond-false _ _ _ not_later) ∙ all
    ]
  ]

  -- an order of what passes a test
  module _ (here : X → Bool) (same : (x y : X) → here x ≡ true → here y ≡ true → comes_before x y ≡ false → comes_before y x ≡ false → x ≡ y) (trans : (x y z : X) → here x ≡ true → here y ≡ true → here z ≡ true → comes_before x y ≡ true → comes_before y z ≡ true → comes_before x z ≡ true) where
    -- what comes before a first member comes before all
    pub all_later : (x y : X) (ys : List X) → here x ≡ true → here y ≡ true → list_all here ys ≡ true → comes_before x y ≡ true → list_all (comes_before y) ys ≡ true → list_all (comes_before x) ys ≡ true
    all_later x y [] hx hy hs h all = refl
    all_later x y (z ∷ zs) hx hy hs h all =
        let parts = and_parts (comes_before y z) (list_all (comes_before y) zs) all in
        let heres = and_parts (here z) (list_all here zs) hs in
        and_from _ _ (trans x y z hx hy heres.0 h parts.0) (all_later x y zs hx hy heres.1 h parts.1)

    -- the list with x is in order
    rising-with_member : (x : X) (ys : List X) → here x ≡ true → list_all here ys ≡ true → is_rising comes_before ys ≡ true → is_rising comes_before (with_member comes_before x ys) ≡ true
    rising-with_member x [] hx hs up = refl
    rising-with_member x (y ∷ ys) hx hs up =
        let parts = and_parts (list_all (comes_before y) ys) (is_rising comes_before ys) up in
        let heres = and_parts (here y) (list_all here ys) hs in
        elim (cases_Bool (comes_before x y)) [
          | inl first ↦ ap (is_rising comes_before) (cond-true _ _ _ first) ∙ and_from _ _ (and_from (comes_before x y) _ first (all_later x y ys hx heres.0 heres.1 first parts.0)) up
          | inr not_first ↦ elim (cases_Bool (comes_before y x)) [
            | inl later ↦ ap (is_rising comes_before) (cond-false _ _ _ not_first ∙ cond-true _ _ _ later) ∙ and_from _ _ (all-with_member (comes_before y) x ys later parts.0) (rising-with_member x ys hx heres.1 parts.1)
            | inr not_later ↦ ap (is_rising comes_before) (cond-false _ _ _ not_first ∙ cond-false _ _ _ not_later) ∙ up
          ]
        ]

    -- its members are x and those of the list
    any-with_member : (p : X → Bool) (x : X) (ys : List X) → here x ≡ true → list_all here ys ≡ true → list_any p (with_member comes_before x ys) ≡ (p x || list_any p ys)
    any-with_member p x [] hx hs = refl
    any-with_member p x (y ∷ ys) hx hs = let heres = and_parts (here y) (list_all here ys) hs in elim (cases_Bool (comes_before x y)) [
      | inl first ↦ ap (list_any p) (cond-true _ _ _ first)
      | inr not_first ↦ elim (cases_Bool (comes_before y x)) [
        | inl later ↦ ap (list_any p) (cond-false _ _ _ not_first ∙ cond-true _ _ _ later) ∙ (ap (λ b. p y || b) (any-with_member p x ys hx heres.1) ∙ or_exchange (p y) (p x) (list_any p ys))
        | inr not_later ↦ ap (list_any p) (cond-false _ _ _ not_first ∙ cond-false _ _ _ not_later) ∙ (sym (or_twice (p y) (list_any p ys)) ∙ ap (λ b. b || (p y || list_any p ys)) (ap p (sym (same x y hx heres.0 not_first not_later))))
      ]
    ]

    -- the sorted set of what passes rises, has the members of the list, and all of it passes
    pub set_of : (xs : List X) → list_all here xs ≡ true → (is_rising comes_before (sorted_set comes_before xs) ≡ true) × ((p : X → Bool) → list_any p (sorted_set comes_before xs) ≡ list_any p xs) × (list_all here (sorted_set comes_before xs) ≡ true)
    set_of [] all = (refl, λ p. refl, refl)
    set_of (x ∷ xs) all =
        let parts = and_parts (here x) (list_all here xs) all in
        let rest = set_of xs parts.1 in (
          rising-with_member x (sorted_set comes_before xs) parts.0 rest.2 rest.0,
          λ p. any-with_member p x (sorted_set comes_before xs) parts.0 rest.2 ∙ ap (λ b. p x || b) (rest.1 p),
          all-with_member here x (sorted_set comes_before xs) parts.0 rest.2,
        )
