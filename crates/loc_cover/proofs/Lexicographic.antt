-- Lists of numbers in lexicographic order, and rising lists of any kind, and what their sums are.
use Rattle.std.proofs.Common.{◌≡◌, ℕ, ◌<◌, ◌≤◌, Bool, true, false, not, ◌&&◌, ◌||◌, List, [], ◌∷◌, map, refl, sym, ◌∙◌, ap, subst, inl, inr, arith, Ordering, Less, Equal, Greater}
use Rattle.std.specs.Prelude.{nat_lt, ◌==◌, sum_by}
use Rattle.std.specs.{List.list_all, List.list_any, Cmp.nat_cmp_is, Cmp.Lexicographic.slice_cmp}
use Rattle.std.specs.Ordering.{MatchOrdering, nat_cmp, ordering_then}
use Rattle.std.proofs.lemmas.Bool.{and_parts, and_from, or_left, or_right, or_cases, both_ways, cases_Bool, cases_order, cond-true, true≢false, eq-eqb, eqb-true, lt-ltb, ltb-true}
use Rattle.std.proofs.{lemmas.Cmp.nat_list_cmp_total, lemmas.List.Sums.sum_by-cons}
use Rattle.loc_spec_plane.specs.{Lists.is_rising, Lists.sorted_set, Lists.with_member, Covers.list_before}
use Rattle.loc_cover.specs.Numbered.{IsWithin}
use Rattle.loc_laws_order.proofs.Sets.{any_weaker}
use Rattle.loc_edges.proofs.SortedSet.{IsOrderBy, from_less, irrefl, less, same_from_neither}

-- ---- the order of lists
-- what follows in each of three cases
follow : (r : Ordering) {P Q R P' Q' R' : Type 0} → (P → P') → (Q → Q') → (R → R') → MatchOrdering r P Q R → MatchOrdering r P' Q' R'
follow Less f g h m = f m
follow Equal f g h m = g m
follow Greater f g h m = h m

-- what the comparison of two lists answers: by their first members, and then by their rests
pub lists_ranked : (xs ys : List ℕ) → MatchOrdering (slice_cmp nat_cmp xs ys) (list_before xs ys ≡ true) (xs ≡ ys) (list_before ys xs ≡ true)
lists_ranked [] [] = refl
lists_ranked [] (y ∷ ys) = refl
lists_ranked (x ∷ xs) [] = refl
lists_ranked (x ∷ xs) (y ∷ ys) = elim (cases_order x y) [
  | inl same ↦ subst (λ r. MatchOrdering (ordering_then r (slice_cmp nat_cmp xs ys)) (list_before (x ∷ xs) (y ∷ ys) ≡ true) (x ∷ xs ≡ y ∷ ys) (list_before (y ∷ ys) (x ∷ xs) ≡ true)) (nat_cmp_is x y Equal same)
      (follow (slice_cmp nat_cmp xs ys) (λ h. or_right (nat_lt x y) _ (and_from _ _ (eq-eqb x y same) h)) (λ h. cc (same, h)) (λ h. or_right (nat_lt y x) _ (and_from _ _ (eq-eqb y x (sym same)) h)) (lists_ranked xs ys))
  | inr differ ↦ elim differ [
    | inl lt ↦ subst (λ r. MatchOrdering (ordering_then r (slice_cmp nat_cmp xs ys)) (list_before (x ∷ xs) (y ∷ ys) ≡ true) (x ∷ xs ≡ y ∷ ys) (list_before (y ∷ ys) (x ∷ xs) ≡ true)) (nat_cmp_is x y Less lt) (or_left (nat_lt x y) _ (lt-ltb x y lt))
    | inr gt ↦ subst (λ r. MatchOrdering (ordering_then r (slice_cmp nat_cmp xs ys)) (list_before (x ∷ xs) (y ∷ ys) ≡ true) (x ∷ xs ≡ y ∷ ys) (list_before (y ∷ ys) (x ∷ xs) ≡ true)) (nat_cmp_is x y Greater gt) (or_left (nat_lt y x) _ (lt-ltb y x gt))
  ]
]

-- not both lists come before the other
lists_asym : (xs ys : List ℕ) → list_before xs ys ≡ true → list_before ys xs ≡ true → ⊥
lists_asym [] [] h k = true≢false (sym h)
lists_asym [] (y ∷ ys) h k = true≢false (sym k)
lists_asym (x ∷ xs) [] h k = true≢false (sym h)
lists_asym (x ∷ xs) (y ∷ ys) h k = elim (or_cases (nat_lt x y) ((x == y) && list_before xs ys) h) [
  | inl lt ↦ elim (or_cases (nat_lt y x) ((y == x) && list_before ys xs) k) [
    | inl gt ↦ (let a : x < y = ltb-true x y lt in let b : y < x = ltb-true y x gt in omega arith)
    | inr other ↦ (let a : x < y = ltb-true x y lt in let b : y ≡ x = eqb-true y x (and_parts (y == x) (list_before ys xs) other).0 in omega arith)
  ]
  | inr same ↦ elim (or_cases (nat_lt y x) ((y == x) && list_before ys xs) k) [
    | inl gt ↦ (let a : x ≡ y = eqb-true x y (and_parts (x == y) (list_before xs ys) same).0 in let b : y < x = ltb-true y x gt in omega arith)
    | inr other ↦ lists_asym xs ys (and_parts (x == y) (list_before xs ys) same).1 (and_parts (y == x) (list_before ys xs) other).1
  ]
]

-- lists are sorted by `list_before`
pub lists_by_before : IsOrderBy (slice_cmp nat_cmp) list_before
lists_by_before = record { total = nat_list_cmp_total; ranked = lists_ranked; asym = lists_asym }

-- ---- rising lists
-- where all members pass q, a test may ask for q too
any_passing : {X : Type 0} (p q : X → Bool) (xs : List X) → list_all q xs ≡ true → list_any p xs ≡ true → list_any (λ x. p x && q x) xs ≡ true
any_passing p q [] all h = h
any_passing p q (x ∷ xs) all h = let parts = and_parts (q x) (list_all q xs) all in elim (or_cases (p x) (list_any p xs) h) [
  | inl here ↦ or_left (p x && q x) _ (and_from _ _ here parts.0)
  | inr later ↦ or_right (p x && q x) _ (any_passing p q xs parts.1 later)
]

-- some member of a mapped list passes
pub any_map : {X Y : Type 0} (p : Y → Bool) (f : X → Y) (xs : List X) → list_any p (map f xs) ≡ list_any (λ x. p (f x)) xs
any_map p f [] = refl
any_map p f (x ∷ xs) = ap (λ b. p (f x) || b) (any_map p f xs)

-- where all members pass q, none fails it
pub none_fails : {X : Type 0} (q : X → Bool) (xs : List X) → list_all q xs ≡ true → list_any (λ x. not (q x)) xs ≡ false
none_fails q [] all = refl
none_fails q (x ∷ xs) all = let parts = and_parts (q x) (list_all q xs) all in cc (parts.0, none_fails q xs parts.1)

module _ {X : Type 0} {R : X → X → Ordering} {comes_before : X → X → Bool} (order : IsOrderBy R comes_before) where
  -- coming before passes on
  pub before_passes : (a b c : X) → comes_before a b ≡ true → comes_before b c ≡ true → comes_before a c ≡ true
  before_passes a b c h k = from_less order a c (order.total.trans a b c (less order a b h) (less order b c k))

  -- a rising list is its own sorted set
  pub sorted_set-rising : (xs : List X) → is_rising comes_before xs ≡ true → sorted_set comes_before xs ≡ xs
  sorted_set-rising [] up = refl
  sorted_set-rising (x ∷ xs) up =
      let parts = and_parts (list_all (comes_before x) xs) (is_rising comes_before xs) up in
      ap (with_member comes_before x) (sorted_set-rising xs parts.1) ∙ first x xs parts.0
    where
      first : (x : X) (xs : List X) → list_all (comes_before x) xs ≡ true → with_member comes_before x xs ≡ x ∷ xs
      first x [] all = refl
      first x (y ∷ ys) all = cond-true _ _ _ (and_parts (comes_before x y) (list_all (comes_before x) ys) all).0

  -- what is within a rising list, and behind its first member, is within the rest
  within_rest : (y : X) (xs ys : List X) → list_all (comes_before y) xs ≡ true → IsWithin xs (y ∷ ys) → IsWithin xs ys
  within_rest y xs ys all within p h = elim (or_cases (p y && comes_before y y) (list_any (λ z. p z && comes_before y z) ys) (within (λ z. p z && comes_before y z) (any_passing p (comes_before y) xs all h))) [
    | inl itself ↦ absurd (both_ways _ (irrefl order y) (and_parts (p y) (comes_before y y) itself).1)
    | inr later ↦ any_weaker (λ z. p z && comes_before y z) p (λ z both. (and_parts (p z) (comes_before y z) both).0) ys later
  ]

  -- the sum over a rising list within another is at most the sum over that
  pub sum_within : (f : X → ℕ) (xs ys : List X) → is_rising comes_before xs ≡ true → is_rising comes_before ys ≡ true → IsWithin xs ys → sum_by f xs ≤ sum_by f ys
  sum_within f [] ys rx ry within = omega arith
  sum_within f (x ∷ xs) [] rx ry within = absurd (true≢false (sym (within (λ z. true) refl)))
  sum_within f (x ∷ xs) (y ∷ ys) rx ry within =
      let parts_x = and_parts (list_all (comes_before x) xs) (is_rising comes_before xs) rx in
      let parts_y = and_parts (list_all (comes_before y) ys) (is_rising comes_before ys) ry in
      let cons_x = sum_by-cons f x xs in
      let cons_y = sum_by-cons f y ys in
      elim (cases_Bool (comes_before y x)) [
        | inl first ↦ (let all : list_all (comes_before y) (x ∷ xs) ≡ true = and_from _ _ first (passes y x xs first parts_x.0) in
            let less = sum_within f (x ∷ xs) ys rx parts_y.1 (within_rest y (x ∷ xs) ys all within) in omega arith)
        | inr not_first ↦ elim (cases_Bool (comes_before x y)) [
          | inl before ↦ absurd (both_ways _ (none_fails (comes_before x) (y ∷ ys) (and_from _ _ before (passes x y ys before parts_y.0))) (within (λ z. not (comes_before x z)) (or_left _ _ (ap not (irrefl order x)))))
          | inr neither ↦ (let same : x ≡ y = same_from_neither order x y neither not_first in
              let less = sum_within f xs ys parts_x.1 parts_y.1 (within_rest y xs ys (subst (λ z. list_all (comes_before z) xs ≡ true) same parts_x.0) (λ p h. within p (or_right (p x) _ h))) in
              let eq : f x ≡ f y = ap f same in omega arith)
        ]
      ]
    where
      passes : (a b : X) (zs : List X) → comes_before a b ≡ true → list_all (comes_before b) zs ≡ true → list_all (comes_before a) zs ≡ true
      passes a b [] h all = refl
      passes a b (z ∷ zs) h all = let parts = and_parts (comes_before b z) (list_all (comes_before b) zs) all in and_from _ _ (before_passes a b z h parts.0) (passes a b zs h parts.1)
