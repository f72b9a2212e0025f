-- The first position at which two lists differ.
use Rattle.std.proofs.Common.{◌≡◌, ℕ, zero, suc, ◌<◌, Bool, true, false, List, [], ◌∷◌, take, refl, sym, arith, inl, inr}
use Rattle.std.specs.Prelude.{Option, Some, None, option_map, if◌then◌else◌, slice_get, ◌==◌}
use Rattle.std.proofs.lemmas.Bool.{cases_order, eqb-false, eqb-true}
use Rattle.std.proofs.lemmas.Option.{none-some, same_Some}
use Rattle.loc_spec_index.specs.Flaws.{DifferFirstAt}
use Rattle.loc_laws_judge.specs.FirstFlaw.{first_difference}

-- lists without a difference are one list
pub same_lists : (xs ys : List ℕ) → first_difference xs ys ≡ None → xs ≡ ys
same_lists [] [] h = refl
same_lists [] (y ∷ ys) h = absurd (none-some 0 (sym h))
same_lists (x ∷ xs) [] h = absurd (none-some 0 (sym h))
same_lists (x ∷ xs) (y ∷ ys) h = by (x == y) refl (first_difference xs ys) (same_lists xs ys) h
  where
    by : (b : Bool) → (x == y) ≡ b → (o : Option ℕ) → (o ≡ None → xs ≡ ys) → (if b then option_map suc o else Some 0) ≡ None → x ∷ xs ≡ y ∷ ys
    by true is None later h = let first = eqb-true x y is in let rest = later refl in cc
    by true is (Some q) later h = absurd (none-some (suc q) (sym h))
    by false is o later h = absurd (none-some 0 (sym h))

-- the position that is found is the first
pub differ_at : (xs ys : List ℕ) (p : ℕ) → first_difference xs ys ≡ Some p → DifferFirstAt xs ys p
differ_at [] [] p h = absurd (none-some p h)
differ_at [] (y ∷ ys) p h = rw (sym (same_Some 0 p h)) (refl, λ e. cc)
differ_at (x ∷ xs) [] p h = rw (sym (same_Some 0 p h)) (refl, λ e. cc)
differ_at (x ∷ xs) (y ∷ ys) p h = by (x == y) refl (first_difference xs ys) (differ_at xs ys) h
  where
    by : (b : Bool) → (x == y) ≡ b → (o : Option ℕ) → ((q : ℕ) → o ≡ Some q → DifferFirstAt xs ys q) → (if b then option_map suc o else Some 0) ≡ Some p → DifferFirstAt (x ∷ xs) (y ∷ ys) p
    by true is None later h = absurd (none-some p h)
    by true is (Some q) later h = let rest = later q refl in let first = eqb-true x y is in let front = rest.0 in rw (sym (same_Some (suc q) p h)) (cc, rest.1)
    by false is o later h = rw (sym (same_Some 0 p h)) (refl, λ e. eqb-false x y is (same_Some x y e))

-- lists with the same front are the same there
same_front : (xs ys : List ℕ) (q p : ℕ) → take q xs ≡ take q ys → p < q → slice_get xs p ≡ slice_get ys p
same_front xs ys zero p same less = absurd (omega (arith, less))
same_front [] [] (suc q) p same less = refl
same_front [] (y ∷ ys) (suc q) p same less = absurd (cc)
same_front (x ∷ xs) [] (suc q) p same less = absurd (cc)
same_front (x ∷ xs) (y ∷ ys) (suc q) zero same less = cc
same_front (x ∷ xs) (y ∷ ys) (suc q) (suc p) same less = same_front xs ys q p (cc) (omega (arith, less))

-- two lists have one first difference
pub one_difference : (xs ys : List ℕ) (p q : ℕ) → DifferFirstAt xs ys p → DifferFirstAt xs ys q → p ≡ q
one_difference xs ys p q at_p at_q = elim (cases_order p q) [
  | inl same ↦ same
  | inr apart ↦ elim apart [
    | inl less ↦ absurd (at_p.1 (same_front xs ys q p at_q.0 less))
    | inr more ↦ absurd (at_q.1 (same_front xs ys p q at_p.0 more))
  ]
]
