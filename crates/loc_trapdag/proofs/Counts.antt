-- How often a number stands in a list.
use Rattle.std.proofs.Common.{◌≡◌, ℕ, zero, suc, ◌+◌, cond, List, [], ◌∷◌, ◌++◌, refl, sym, ◌∙◌, ap, subst, inl, inr, arith}
use Rattle.std.specs.Prelude.{count_by, nat_lt, ◌==◌, if◌then◌else◌, IsPermutation}
use Rattle.std.proofs.lemmas.Bool.{cases_lt, cases_eq, eq-eqb, ne_eqb, lt-ltb, le-ltb}
use Rattle.std.proofs.{lemmas.List.Sums.sum_by-append, lemmas.List.Sorted.sum_by-IsPermutation}
use Rattle.loc_spec_plane.specs.Lists.{numbers}
use Rattle.loc_laws_order.proofs.Kept.{numbers_more}
use Rattle.loc_trapdag.specs.Orders.{IsOrder}

-- a number counts as one where it is the one sought
abbrev pub one_of : ℕ → ℕ → ℕ
one_of e m = cond (m == e) 1 0

-- how often a number stands in a list
abbrev pub many_of : ℕ → List ℕ → ℕ
many_of e xs = count_by (λ m. m == e) xs

pub many_push : (e : ℕ) (xs : List ℕ) (x : ℕ) → many_of e (xs ++ x ∷ []) ≡ many_of e xs + one_of e x
many_push e xs x = sum_by-append (one_of e) xs (x ∷ []) ∙ ap (λ n. many_of e xs + n) (zero_add (one_of e x))
  where
    zero_add : (n : ℕ) → 0 + n ≡ n
    zero_add n = omega arith

-- each number below n stands once among the numbers below n
pub many_numbers : (e n : ℕ) → many_of e (numbers n) ≡ (if nat_lt e n then 1 else 0)
many_numbers e zero = rw (le-ltb e 0 (omega arith)) refl
many_numbers e (suc n) =
    let next : suc n ≡ n + 1 = omega arith in
    let rest = many_numbers e n in
    subst (λ k. many_of e (numbers k) ≡ (if nat_lt e k then 1 else 0)) (sym next) (ap (many_of e) (numbers_more n) ∙ (many_push e (numbers n) n ∙ ap (λ k. k + one_of e n) rest ∙ at))
  where
    at : (if nat_lt e n then 1 else 0) + one_of e n ≡ (if nat_lt e (n + 1) then 1 else 0)
    at = elim (cases_lt e n) [
      | inl less ↦ rw (lt-ltb e n less, lt-ltb e (n + 1) (omega arith), ne_eqb n e (λ same. omega arith)) refl
      | inr le ↦ elim (cases_eq n e) [
        | inl same ↦ rw (le-ltb e n le, lt-ltb e (n + 1) (omega arith), eq-eqb n e same) refl
        | inr other ↦ rw (le-ltb e n le, le-ltb e (n + 1) (omega arith), ne_eqb n e other) refl
      ]
    ]

-- what is shuffled is an order
pub order_shuffled : (edges : ℕ) (xs order : List ℕ) → xs ≡ numbers edges → IsPermutation xs order → IsOrder edges order
order_shuffled edges xs order are moved e = sum_by-IsPermutation (one_of e) xs order moved ∙ (ap (many_of e) are ∙ many_numbers e edges)
