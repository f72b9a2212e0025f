-- The sorted set of a list is the one rising list with its members, and no longer than the list; a sort that then drops equal neighbours makes it.
use Rattle.std.proofs.Common.{◌≡◌, suc, ◌≤◌, Bool, true, false, not, ◌&&◌, ◌||◌, List, [], ◌∷◌, ◌++◌, length, refl, sym, ◌∙◌, ap, subst, inl, inr, Ordering, Less, Equal, Greater, arith}
use Rattle.std.specs.{Bool.Decides, Cmp.IsTotalOrder}
use Rattle.std.specs.List.{list_any, list_all, dedup, dedup_from, AllByRecursion}
use Rattle.std.specs.List.Sorted.{IsPermutation, IsSorted, IsStrictlySortedBy}
use Rattle.std.specs.Ordering.{MatchOrdering, eq_by_cmp, is_eq, is_lt}
use Rattle.std.proofs.lemmas.Bool.{and_parts, and_from, both_ways, cases_Bool, not-true, not_from_false, cond-true, cond-false, false_from_ne_true}
use Rattle.std.proofs.{lemmas.Cmp.by_ranked, lemmas.List.Kept.IsStrictlySortedBy-dedup}
use Rattle.std.proofs.lemmas.List.Sorted.{list_any-IsPermutation}
use Rattle.loc_spec_plane.specs.Lists.{is_rising, sorted_set, with_member}
use Rattle.loc_laws_order.proofs.{Sets.set_of, Booleans.or_twice, Unique.one_rising}

-- ---- equal neighbours dropped
-- the same members are left behind k
any-dedup_from : {X : Type 0} (E : X → X → Bool) → ((x y : X) → E x y ≡ true → x ≡ y) → (p : X → Bool) (k : X) (xs : List X) → list_any p (dedup_from E k xs) ≡ (p k || list_any p xs)
any-dedup_from E exact p k [] = refl
any-dedup_from E exact p k (x ∷ xs) = elim (cases_Bool (E x k)) [
  | inl same ↦ ap (list_any p) (cond-true _ _ _ same) ∙ (any-dedup_from E exact p k xs ∙ (sym (or_twice (p k) (list_any p xs)) ∙ ap (λ b. p k || (b || list_any p xs)) (ap p (sym (exact x k same)))))
  | inr other ↦ ap (list_any p) (cond-false _ _ _ other) ∙ ap (λ b. p k || b) (any-dedup_from E exact p x xs)
]

-- the same members are left
pub any-dedup : {X : Type 0} (E : X → X → Bool) → ((x y : X) → E x y ≡ true → x ≡ y) → (p : X → Bool) (xs : List X) → list_any p (dedup E xs) ≡ list_any p xs
any-dedup E exact p [] = refl
any-dedup E exact p (x ∷ xs) = any-dedup_from E exact p x xs

-- an answer that is less
pub is_less : (r : Ordering) → is_lt r ≡ true → r ≡ Less
is_less Less h = refl
is_less Equal h = grind arith
is_less Greater h = grind arith

-- R is an order, comes_before says where it answers `Less`, and only equals tie
pub record IsOrderBy {X : Type 0} (R : X → X → Ordering) (comes_before : X → X → Bool) : Type 0 where
  pub total : IsTotalOrder R
  pub ranked : (x y : X) → MatchOrdering (R x y) (comes_before x y ≡ true) (x ≡ y) (comes_before y x ≡ true)
  pub asym : (x y : X) → comes_before x y ≡ true → comes_before y x ≡ true → ⊥

module _ {X : Type 0} {R : X → X → Ordering} {comes_before : X → X → Bool} (order : IsOrderBy R comes_before) where
  -- nothing comes before itself
  pub irrefl : (x : X) → comes_before x x ≡ false
  irrefl x = false_from_ne_true _ (λ h. order.asym x x h h)

  -- what comes before is less
  pub less : (x y : X) → comes_before x y ≡ true → R x y ≡ Less
  less x y h = by_ranked _ _ _ (R x y) (order.ranked x y) (λ e _. e) (λ _ same. absurd (both_ways _ (irrefl y) (subst (λ z. comes_before z y ≡ true) same h))) (λ _ more. absurd (order.asym x y h more))

  -- what is less comes before
  pub from_less : (x y : X) → R x y ≡ Less → comes_before x y ≡ true
  from_less x y h = subst (λ r. MatchOrdering r (comes_before x y ≡ true) (x ≡ y) (comes_before y x ≡ true)) h (order.ranked x y)

  -- coming before passes on
  trans : (x y z : X) → comes_before x y ≡ true → comes_before y z ≡ true → comes_before x z ≡ true
  trans x y z h k = from_less x z (order.total.trans x y z (less x y h) (less y z k))

  -- of two different members one comes before the other
  pub same_from_neither : (x y : X) → comes_before x y ≡ false → comes_before y x ≡ false → x ≡ y
  same_from_neither x y h k = by_ranked _ _ _ (R x y) (order.ranked x y) (λ _ lt. absurd (both_ways _ h lt)) (λ _ same. same) (λ _ gt. absurd (both_ways _ k gt))

  -- ---- the sorted set
  -- it rises, and has the members of the list
  sorted_set_is : (xs : List X) → (is_rising comes_before (sorted_set comes_before xs) ≡ true) × ((p : X → Bool) → list_any p (sorted_set comes_before xs) ≡ list_any p xs) × (list_all (λ x. true) (sorted_set comes_before xs) ≡ true)
  sorted_set_is xs = set_of comes_before (λ x. true) (λ x y _ _. same_from_neither x y) (λ x y z _ _ _. trans x y z) xs (any_all xs)
    where
      any_all : (ys : List X) → list_all (λ y. true) ys ≡ true
      any_all [] = refl
      any_all (y ∷ ys) = any_all ys

  -- it rises
  pub rising-sorted_set : (xs : List X) → is_rising comes_before (sorted_set comes_before xs) ≡ true
  rising-sorted_set xs = (sorted_set_is xs).0

  -- the members of the sorted set are those of the list
  pub any-sorted_set : (p : X → Bool) (xs : List X) → list_any p (sorted_set comes_before xs) ≡ list_any p xs
  any-sorted_set p xs = (sorted_set_is xs).1 p

  -- the members of which neither comes before the other are one
  one_decides : (x y : X) → Decides (not (comes_before x y) && not (comes_before y x)) (x ≡ y)
  one_decides x y = (λ h. (let parts = and_parts _ _ h in same_from_neither x y (not-true _ parts.0) (not-true _ parts.1)), λ e. subst (λ z. (not (comes_before x z) && not (comes_before z x)) ≡ true) e (and_from _ _ (not_from_false _ (irrefl x)) (not_from_false _ (irrefl x))))

  -- a rising list with the members of xs is its sorted set
  pub is-sorted_set : (xs ys : List X) → is_rising comes_before ys ≡ true → ((p : X → Bool) → list_any p ys ≡ list_any p xs) → ys ≡ sorted_set comes_before xs
  is-sorted_set xs ys up same = one_rising _ one_decides comes_before order.asym ys (sorted_set comes_before xs) up (rising-sorted_set xs) (λ x. same _ ∙ sym (any-sorted_set _ xs))

  -- lists with the same members have one sorted set
  pub same-sorted_set : (xs ys : List X) → ((p : X → Bool) → list_any p xs ≡ list_any p ys) → sorted_set comes_before xs ≡ sorted_set comes_before ys
  same-sorted_set xs ys same = is-sorted_set ys (sorted_set comes_before xs) (rising-sorted_set xs) (λ p. any-sorted_set p xs ∙ same p)

  -- all that x is less than
  all_less : (x : X) (ys : List X) → AllByRecursion (λ y. R x y ≡ Less) ys → list_all (comes_before x) ys ≡ true
  all_less x [] all = refl
  all_less x (y ∷ ys) all = and_from _ _ (from_less x y all.0) (all_less x ys all.1)

  -- std's word for it
  rising_from_sorted : (ys : List X) → IsStrictlySortedBy R ys → is_rising comes_before ys ≡ true
  unfolding IsStrictlySortedBy
  rising_from_sorted [] up = refl
  rising_from_sorted (y ∷ ys) up = and_from _ _ (all_less y ys up.0) (rising_from_sorted ys up.1)

  -- a test of equality answers where R answers `Equal`
  ties : (E : X → X → Bool) → ((x y : X) → Decides (E x y) (x ≡ y)) → (x y : X) → E x y ≡ eq_by_cmp R x y
  ties E exact x y = by_ranked _ _ _ (R x y) (order.ranked x y)
      (λ is lt. false_from_ne_true (E x y) (λ e. both_ways _ (irrefl y) (subst (λ z. comes_before z y ≡ true) ((exact x y).0 e) lt)) ∙ sym (ap is_eq is))
      (λ is e. (exact x y).1 e ∙ sym (ap is_eq is))
      (λ is gt. false_from_ne_true (E x y) (λ e. both_ways _ (irrefl x) (subst (λ z. comes_before z x ≡ true) (sym ((exact x y).0 e)) gt)) ∙ sym (ap is_eq is))

  -- two members tie where a test of equality passes
  pub tie_is : (E : X → X → Bool) → ((x y : X) → Decides (E x y) (x ≡ y)) → (x y : X) → (not (is_lt (R x y)) && not (is_lt (R y x))) ≡ E x y
  tie_is E exact x y = by_ranked _ _ _ (R x y) (order.ranked x y)
      (λ is lt. ap (λ r. not (is_lt r) && not (is_lt (R y x))) is ∙ sym (false_from_ne_true (E x y) (λ e. both_ways _ (irrefl y) (subst (λ z. comes_before z y ≡ true) ((exact x y).0 e) lt))))
      (λ is e. ap (λ r. not (is_lt r) && not (is_lt (R y x))) is ∙ (ap (λ r. not (is_lt r)) (subst (λ z. R y z ≡ Equal) (sym e) (subst (λ z. R z y ≡ Equal) e is)) ∙ sym ((exact x y).1 e)))
      (λ is gt. ap (λ r. not (is_lt r) && not (is_lt (R y x))) is ∙ (ap (λ r. not (is_lt r)) (less y x gt) ∙ sym (false_from_ne_true (E x y) (λ e. both_ways _ (irrefl x) (subst (λ z. comes_before z x ≡ true) (sym ((exact x y).0 e)) gt)))))

  -- a sorted list that loses equal neighbours rises
  pub rising-dedup : (E : X → X → Bool) → ((x y : X) → Decides (E x y) (x ≡ y)) → (ys : List X) → IsSorted R ys → is_rising comes_before (dedup E ys) ≡ true
  rising-dedup E exact ys sorted = rising_from_sorted (dedup E ys) (IsStrictlySortedBy-dedup order.total (ties E exact) ys sorted)

  -- a sorted list of which equal neighbours were dropped
  pub sorted_set-dedup : (E : X → X → Bool) → ((x y : X) → Decides (E x y) (x ≡ y)) → (xs ys : List X) → IsPermutation xs ys → IsSorted R ys → dedup E ys ≡ sorted_set comes_before xs
  sorted_set-dedup E exact xs ys moved sorted = is-sorted_set xs (dedup E ys) (rising-dedup E exact ys sorted) (λ p. any-dedup E (λ x y. (exact x y).0) p ys ∙ sym (list_any-IsPermutation p xs ys moved))

-- ---- how many
module _ {X : Type 0} (comes_before : X → X → Bool) where
  -- a list with one member more is no shorter, and at most one longer
  length-with_member : (x : X) (ys : List X) → (length ys ≤ length (with_member comes_before x ys)) × (length (with_member comes_before x ys) ≤ suc (length ys))
  length-with_member x [] = (omega arith, omega arith)
  length-with_member x (y ∷ ys) = elim (cases_Bool (comes_before x y)) [
    | inl first ↦ (let e : length (with_member comes_before x (y ∷ ys)) ≡ suc (suc (length ys)) = ap length (cond-true _ _ _ first) in (omega (arith, e), omega (arith, e)))
    | inr other ↦ elim (cases_Bool (comes_before y x)) [
      | inl later ↦ (let e : length (with_member comes_before x (y ∷ ys)) ≡ suc (length (with_member comes_before x ys)) = ap length (cond-false _ _ _ other ∙ cond-true _ _ _ later) in let more = length-with_member x ys in (omega (arith, e, more.0), omega (arith, e, more.1)))
      | inr same ↦ (let e : length (with_member comes_before x (y ∷ ys)) ≡ suc (length ys) = ap length (cond-false _ _ _ other ∙ cond-false _ _ _ same) in (omega (arith, e), omega (arith, e)))
    ]
  ]

  -- a sorted set is no longer than the list
  pub length-sorted_set : (xs : List X) → length (sorted_set comes_before xs) ≤ length xs
  length-sorted_set [] = omega arith
  length-sorted_set (x ∷ xs) = (let one = length-with_member x (sorted_set comes_before xs) in omega (arith, one.1, length-sorted_set xs))

  -- and no shorter than that of a part of the list
  pub length-sorted_set_part : (xs ys : List X) → length (sorted_set comes_before ys) ≤ length (sorted_set comes_before (xs ++ ys))
  length-sorted_set_part [] ys = omega arith
  length-sorted_set_part (x ∷ xs) ys = (let one = length-with_member x (sorted_set comes_before (xs ++ ys)) in omega (arith, one.0, length-sorted_set_part xs ys))
