-- Powers of two and the steps of a search.
use Rattle.std.proofs.Common.{◌≡◌, ℕ, zero, suc, ◌+◌, ◌-◌, ◌*◌, ◌^◌, ◌<◌, ◌≤◌, true, length, sym, subst, inl, inr, arith}
use Rattle.std.specs.Prelude.{nat_le, ◌≢◌}
use Rattle.std.proofs.{Math.Nat.pow-suc, lemmas.Nat.pow-add, lemmas.Nat.mul-le}
use Rattle.std.proofs.lemmas.Bool.{both_ways, cases_Bool, cases_eq, cond-true, cond-false, le-leb, leb-true}
use Rattle.loc_spec_plane.specs.Tables.{Table}
use Rattle.loc_place.specs.Steps.{search_bound, greatest_power, most_steps}

-- the greatest power of two that is at most n
greatest_up_to : (n b k : ℕ) → k ≤ b → 2 ^ k ≤ n → k ≤ greatest_power n b
unfolding greatest_power
greatest_up_to n zero k fits power = fits
greatest_up_to n (suc b) k fits power = elim (cases_Bool (nat_le (2 ^ suc b) n)) [
  | inl below_n ↦ subst (λ z. k ≤ z) (sym (cond-true (nat_le (2 ^ suc b) n) (suc b) (greatest_power n b) below_n)) fits
  | inr above_n ↦ (let below : k ≤ b = elim (cases_eq k (suc b)) [
    | inl same ↦ (let holds : nat_le (2 ^ suc b) n ≡ true = le-leb (2 ^ suc b) n (subst (λ z. 2 ^ z ≤ n) same power) in absurd (both_ways (nat_le (2 ^ suc b) n) above_n holds))
    | inr other ↦ (let differ : k ≢ suc b = other in omega (arith, fits))
  ] in
      subst (λ z. k ≤ z) (sym (cond-false (nat_le (2 ^ suc b) n) (suc b) (greatest_power n b) above_n)) (greatest_up_to n b k below power))
]

-- a number is below its power of two
below_power : (k : ℕ) → k < 2 ^ k
below_power zero = omega arith
below_power (suc k) = let p = pow-suc 2 k in let b = below_power k in omega (arith, p, b)

-- each number of which the power is at most n is at most the greatest
pub greatest_is : (n k : ℕ) → 2 ^ k ≤ n → k ≤ greatest_power n n
greatest_is n k power = greatest_up_to n n k (let b = below_power k in omega (arith, b, power)) power

-- and it is at most n, where n is not 0
greatest_below : (n b : ℕ) → 1 ≤ n → 2 ^ greatest_power n b ≤ n
unfolding greatest_power
greatest_below n zero some = omega (arith, some)
greatest_below n (suc b) some = elim (cases_Bool (nat_le (2 ^ suc b) n)) [
  | inl below_n ↦ subst (λ z. 2 ^ z ≤ n) (sym (cond-true (nat_le (2 ^ suc b) n) (suc b) (greatest_power n b) below_n)) (leb-true (2 ^ suc b) n below_n)
  | inr above_n ↦ subst (λ z. 2 ^ z ≤ n) (sym (cond-false (nat_le (2 ^ suc b) n) (suc b) (greatest_power n b) above_n)) (greatest_below n b some)
]

-- the most steps of a table are within the bound
pub most_within : (t : Table) → 2 ^ most_steps t ≤ search_bound (length t.corners) (length t.ends)
most_within t =
    let v = length t.corners in
    let e = length t.ends in
    greatest_below (search_bound v e) (search_bound v e) (omega (arith, mul-le 1 1 (2 * v + 1) ((e + 1) * (e + 1)) (omega arith) (mul-le 1 1 (e + 1) (e + 1) (omega arith) (omega arith))))

-- a search among the corners and then one down a version
pub both_searches : (i j a b : ℕ) → 2 ^ i ≤ a → 2 ^ j ≤ b → 2 ^ (i + j) ≤ a * b
both_searches i j a b first second = let p = pow-add 2 i j in let m = mul-le (2 ^ i) (2 ^ j) a b first second in omega (arith, p, m)

module _ (v k started middle steps : ℕ) where
  -- a search among v corners, and then one among k edges
  pub both_within : started ≤ middle → middle ≤ steps → 2 ^ (middle - started) ≤ 2 * v + 1 → 2 ^ (steps - middle) ≤ (k + 1) * (k + 1) → 2 ^ (steps - started) ≤ search_bound v k
  both_within first second few_corners few_edges =
      let sum : (middle - started) + (steps - middle) ≡ steps - started = omega (arith, first, second) in
      subst (λ j. 2 ^ j ≤ search_bound v k) sum (both_searches (middle - started) (steps - middle) (2 * v + 1) ((k + 1) * (k + 1)) few_corners few_edges)

-- with no more edges alive than there are, the steps are within the most
pub within_most : (t : Table) (k started steps : ℕ) → k ≤ length t.ends → started ≤ steps → 2 ^ (steps - started) ≤ search_bound (length t.corners) k → steps ≤ started + most_steps t
within_most t k started steps fewer counted few =
    let v = length t.corners in
    let e = length t.ends in
    let square = mul-le (k + 1) (k + 1) (e + 1) (e + 1) (omega (arith, fewer)) (omega (arith, fewer)) in
    let power : 2 ^ (steps - started) ≤ search_bound v e = omega (arith, few, mul-le (2 * v + 1) ((k + 1) * (k + 1)) (2 * v + 1) ((e + 1) * (e + 1)) (omega arith) square) in
    omega (arith, greatest_is (search_bound v e) (steps - started) power, counted)
