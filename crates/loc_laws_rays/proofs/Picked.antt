-- Members of lists of numbers that pass a test, and the least of what is at each.
use Rattle.std.proofs.Common.{◌≡◌, ℕ, ◌<◌, ◌≤◌, Bool, true, List, [], ◌∷◌, map, refl, sym, ◌∙◌, ap, inl, inr, arith}
use Rattle.std.specs.Prelude.{◌==◌, All, filter, nat_lt}
use Rattle.std.specs.List.{list_any}
use Rattle.std.proofs.lemmas.Bool.{and_parts, ltb-true, or_cases, or_left, or_right, eqb-true, eq-eqb, true≢false}
use Rattle.std.proofs.lemmas.List.Elements.{All-cons, All-nil}
use Rattle.loc_spec_plane.specs.Lists.{is_in, least_of, numbers}
use Rattle.loc_laws_order.proofs.{TableOrder.numbers_within, Unique.all-at}
use Rattle.loc_laws_rays.proofs.Members.{is_in-filter}

-- where some member passes there is one
pub member_any : (p : ℕ → Bool) (ns : List ℕ) → list_any p ns ≡ true → (n : ℕ) × (is_in n ns ≡ true) × (p n ≡ true)
member_any p [] pass = absurd (true≢false (sym pass))
member_any p (m ∷ ns) pass = elim (or_cases (p m) (list_any p ns) pass) [
  | inl first ↦ (m, or_left (m == m) (is_in m ns) (eq-eqb m m refl), first)
  | inr more ↦ (let found = member_any p ns more in (found.0, or_right (m == found.0) (is_in found.0 ns) found.1, found.2))
]

-- the least is at most each, and at least what is at most each
pub least-le : (f : ℕ → ℕ) (d g : ℕ) (gs : List ℕ) → is_in g gs ≡ true → least_of d (map f gs) ≤ f g
least-le f d g [] here = absurd (true≢false (sym here))
least-le f d g (x ∷ xs) here = elim (or_cases (x == g) (is_in g xs) here) [
  | inl first ↦ (let low = least-self (f x) (map f xs) in let e : f x ≡ f g = ap f (eqb-true x g first) in omega (arith, low, e))
  | inr more ↦ (let rest = least-le f (f x) g xs more in omega (arith, rest))
]
  where
    least-self : (n : ℕ) (ms : List ℕ) → least_of n ms ≤ n
    least-self n [] = omega arith
    least-self n (m ∷ ms) = omega arith

pub le-least : (f : ℕ → ℕ) (low d : ℕ) (gs : List ℕ) → low ≤ d → ((g : ℕ) → is_in g gs ≡ true → low ≤ f g) → low ≤ least_of d (map f gs)
le-least f low d [] first each = first
le-least f low d (x ∷ xs) first each =
    let at = each x (or_left (x == x) (is_in x xs) (eq-eqb x x refl)) in
    let rest = le-least f low (f x) xs at (λ g here. each g (or_right (x == g) (is_in g xs) here)) in
    omega (arith, first, rest)

-- what holds of each member
pub all_members : (P : ℕ → Type 0) (ns : List ℕ) → ((n : ℕ) → is_in n ns ≡ true → P n) → All P ns
all_members P [] each = All-nil P
all_members P (n ∷ ns) each = All-cons P n ns (each n (or_left (n == n) (is_in n ns) (eq-eqb n n refl))) (all_members P ns (λ m here. each m (or_right (n == m) (is_in m ns) here)))

-- a number below n that is kept
pub kept_below : (p : ℕ → Bool) (n h : ℕ) → is_in h (filter p (numbers n)) ≡ true → (h < n) × (p h ≡ true)
kept_below p n h here =
    let parts = and_parts (is_in h (numbers n)) (p h) (sym (is_in-filter p h (numbers n)) ∙ here) in
    (ltb-true h n (all-at (λ k. nat_lt k n) (numbers n) h (numbers_within n) parts.0), parts.1)
