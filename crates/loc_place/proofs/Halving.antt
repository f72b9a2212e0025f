-- A search that halves what is left: the power of two of its steps.
use Rattle.std.proofs.Common.{◌≡◌, ℕ, zero, suc, ◌+◌, ◌-◌, ◌*◌, ◌^◌, ◌<◌, ◌≤◌, sym, subst, inl, inr, arith}
use Rattle.std.proofs.{Math.Nat.pow-suc, Math.Pow.pow_mono, lemmas.Bool.cases_lt, lemmas.Nat.mul-le}

-- one step more, where at most half of what was left is left
pub halved : (k w less v : ℕ) → 2 ^ k * w ≤ v → 2 * less ≤ w → 2 ^ suc k * less ≤ v
halved k w less v h half =
    let p = pow-suc 2 k in
    let m = mul-le (2 ^ k) (2 * less) (2 ^ k) w (omega arith) half in
    let e : 2 ^ k * 2 * less ≡ 2 ^ k * (2 * less) = grind arith in
    subst (λ z. z * less ≤ v) (sym p) (omega (arith, m, e, h))

-- where something was left, twice the power is at most twice the whole
pub doubled : (k w v : ℕ) → 2 ^ k * w ≤ v → 0 < w → 2 ^ suc k ≤ 2 * v + 1
doubled k w v h some =
    let p = pow-suc 2 k in
    let m = mul-le (2 ^ k) 1 (2 ^ k) w (omega arith) (omega (arith, some)) in
    omega (arith, p, m, h)

-- the same for a counter that went from f to s, and on to the next number
module _ (f s next w v : ℕ) (counted : f ≤ s) (ticked : next ≡ s + 1) (left : 2 ^ (s - f) * w ≤ v) where
  took : next - f ≡ suc (s - f)
  took = omega (arith, counted, ticked)

  -- what is left halves
  pub step_halves : (less : ℕ) → 2 * less ≤ w → 2 ^ (next - f) * less ≤ v
  step_halves less half = subst (λ k. 2 ^ k * less ≤ v) (sym took) (halved (s - f) w less v left half)

  -- and the power stays within twice the whole
  pub step_doubles : 0 < w → 2 ^ (next - f) ≤ 2 * v + 1
  step_doubles some = subst (λ k. 2 ^ k ≤ 2 * v + 1) (sym took) (doubled (s - f) w v left some)

-- twice a number and one is below the next power of two
below_power : (n : ℕ) → 2 * n + 1 < 2 ^ suc n
below_power zero = omega arith
below_power (suc n) = let p = pow-suc 2 (suc n) in let b = below_power n in omega (arith, p, b)

-- so there are no more steps than there was to look at
pub no_more : (s v : ℕ) → 2 ^ s ≤ 2 * v + 1 → s ≤ v
no_more s v few = elim (cases_lt v s) [
  | inl more ↦ absurd (omega (arith, pow_mono more, below_power v))
  | inr le ↦ le
]
