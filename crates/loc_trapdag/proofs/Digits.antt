-- Digits of a line.
use Rattle.std.proofs.Common.{◌≡◌, ℕ, suc, ◌+◌, ◌*◌, ◌-◌, ◌<◌, min, Bool, true, cond, List, [], ◌∷◌, take, length, get_or, refl, sym, ◌∙◌, ap, subst, inl, inr, arith}
use Rattle.std.specs.{Char.is_ascii_digit, Char.digit_value, List.list_all, List.take_while, List.prefix_len}
use Rattle.std.proofs.{lemmas.Bool.Decides.nat_tests, lemmas.List.Folds.list_all_at}
use Rattle.std.proofs.lemmas.Bool.{cases_Bool, and_from, both_ways, true_from_ne_false}

-- what is taken from the front while a test holds passes it
pub all_taken : (p : ℕ → Bool) (xs : List ℕ) → list_all p (take_while p xs) ≡ true
all_taken p [] = refl
all_taken p (x ∷ xs) = elim (cases_Bool (p x)) [
  | inl passes ↦ (let one : 1 + prefix_len p xs ≡ suc (prefix_len p xs) = omega arith in
      subst (λ (ys : List ℕ). list_all p ys ≡ true) (sym (ap (λ b. take (cond b (1 + prefix_len p xs) 0) (x ∷ xs)) passes ∙ ap (λ n. take n (x ∷ xs)) one)) (and_from (p x) (list_all p (take_while p xs)) passes (all_taken p xs)))
  | inr off ↦ subst (λ (ys : List ℕ). list_all p ys ≡ true) (sym (ap (λ b. take (cond b (1 + prefix_len p xs) 0) (x ∷ xs)) off)) refl
]

-- the value of a digit
pub digit_is : (x : ℕ) → is_ascii_digit x ≡ true → digit_value x ≡ x - 48
digit_is x h = grind (arith, nat_tests)

-- each member passes
pub member_passes : (p : ℕ → Bool) (xs : List ℕ) (i : ℕ) → i < length xs → list_all p xs ≡ true → p (get_or xs i 0) ≡ true
member_passes p xs i less h = true_from_ne_false (p (get_or xs i 0)) (λ off. both_ways (list_all p xs) (list_all_at p xs i 0 less off) h)

-- the cap holds at each step
pub cap_more : (value digits digit cap : ℕ) → value ≡ min digits cap → min (value * 10 + digit) cap ≡ min (digits * 10 + digit) cap
cap_more value digits digit cap is = omega arith
