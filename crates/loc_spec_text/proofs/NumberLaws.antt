-- Laws of number values: what a reader shows to know a number's place on the grid, with no power of the exponent's size formed.
use Rattle.std.proofs.Common.{◌≡◌, ◌≢◌, ℕ, zero, suc, ◌+◌, ◌-◌, ◌*◌, ◌/◌, ◌%◌, ◌^◌, ◌<◌, ◌≤◌, length, true, false, sym, ◌∙◌, ap, arith, mul_assoc, zero-mul, pow-suc, eq-eqb, ne_eqb, mul-le-mul_left, mul-le-mul_right}
use Rattle.std.proofs.lemmas.Nat.{pow-add, div-add-mod'}
use Rattle.std.proofs.Math.Nat.{mul-mod_left, mul-div_cancel, eq_of_mul-eq-mul_right}
use Rattle.std.proofs.lemmas.Bool.{lt-leb}
use Rattle.std.specs.Prelude.{List, nat_le}
use Rattle.loc_spec_text.specs.Number.{significand, raised, lowered, fraction_digits, scaled, unit, is_on_grid, magnitude, is_in_range}

-- a power of ten is not 0
pub ten_pos : (k : ℕ) → 0 < 10 ^ k
ten_pos zero = omega arith
ten_pos (suc k) = rw (pow-suc 10 k) (omega (arith, ten_pos k))

-- over plain numbers: m * 10 ^ z * 10 ^ a is the multiple m * 10 ^ g of 10 ^ d
multiple : (m z a d g : ℕ) → a + z ≡ d + g → (m * 10 ^ z) * 10 ^ a ≡ (m * 10 ^ g) * 10 ^ d
multiple m z a d g e = mul_assoc m (10 ^ z) (10 ^ a)
    ∙ ap (λ p. m * p) (sym (pow-add 10 z a) ∙ ap (λ k. 10 ^ k) (let f : z + a ≡ g + d = omega arith in f) ∙ pow-add 10 g d)
    ∙ sym (mul_assoc m (10 ^ g) (10 ^ d))

quotient : (p q g : ℕ) → 0 < q → p ≡ g * q → (p % q ≡ 0) × (p / q ≡ g)
quotient p q g h e = rw e (mul-mod_left g q, mul-div_cancel g h)

-- behind as many zeros as the places that the exponent and the point take away, the value is on the grid
pub on_grid : (scale : ℕ) (text : List ℕ) (m z g : ℕ) → significand text ≡ m * 10 ^ z → (raised text + scale) + z ≡ (lowered text + length (fraction_digits text)) + g
    → (is_on_grid scale text ≡ true) × (magnitude scale text ≡ m * 10 ^ g)
unfolding scaled unit
on_grid scale text m z g value e =
    let d : ℕ = lowered text + length (fraction_digits text) in
    let p = quotient (significand text * 10 ^ (raised text + scale)) (10 ^ (lowered text + length (fraction_digits text))) (m * 10 ^ g) (ten_pos (lowered text + length (fraction_digits text)))
    (ap (λ v. v * 10 ^ (raised text + scale)) value ∙ multiple m z (raised text + scale) (lowered text + length (fraction_digits text)) g e) in
    (eq-eqb _ 0 p.0, p.1)

-- zero is on every grid, whatever its exponent
pub zero_on_grid : (scale : ℕ) (text : List ℕ) → significand text ≡ 0 → (is_on_grid scale text ≡ true) × (magnitude scale text ≡ 0)
unfolding scaled unit
zero_on_grid scale text value =
    let p = quotient (significand text * 10 ^ (raised text + scale)) (10 ^ (lowered text + length (fraction_digits text))) 0 (ten_pos (lowered text + length (fraction_digits text)))
    (ap (λ v. v * 10 ^ (raised text + scale)) value ∙ zero-mul (10 ^ (raised text + scale)) ∙ sym (zero-mul (10 ^ (lowered text + length (fraction_digits text))))) in
    (eq-eqb _ 0 p.0, p.1)

-- a number whose last digit is not 0, with a place below the grid
tens : (m a k q : ℕ) → m * 10 ^ a ≡ q * 10 ^ (suc k + a) → m ≡ (q * 10 ^ k) * 10
tens m a k q e = eq_of_mul-eq-mul_right (10 ^ a) (ten_pos a) m ((q * 10 ^ k) * 10)
    (e ∙ ap (λ p. q * p) (pow-add 10 (suc k) a ∙ ap (λ p. p * 10 ^ a) (pow-suc 10 k)) ∙ sym (mul_assoc q (10 ^ k * 10) (10 ^ a)) ∙ ap (λ p. p * 10 ^ a) (sym (mul_assoc q (10 ^ k) 10)))

no_quotient : (m a d : ℕ) → m % 10 ≢ 0 → a < d → (m * 10 ^ a) % 10 ^ d ≢ 0
no_quotient m a d last below e =
    let whole : m * 10 ^ a ≡ ((m * 10 ^ a) / 10 ^ d) * 10 ^ d = omega (arith, div-add-mod' (m * 10 ^ a) (10 ^ d), e) in
    let split : d ≡ suc (d - suc a) + a = omega arith in
    last (ap (λ n. n % 10) (tens m a (d - suc a) ((m * 10 ^ a) / 10 ^ d) (whole ∙ ap (λ k. ((m * 10 ^ a) / 10 ^ d) * 10 ^ k) split)) ∙ mul-mod_left (((m * 10 ^ a) / 10 ^ d) * 10 ^ (d - suc a)) 10)

-- a number with a last digit that is not 0 below the grid is off it
pub off_grid : (scale : ℕ) (text : List ℕ) (m z : ℕ) → significand text ≡ m * 10 ^ z → m % 10 ≢ 0 → (raised text + scale) + z < lowered text + length (fraction_digits text)
    → is_on_grid scale text ≡ false
unfolding scaled unit
off_grid scale text m z value last below =
    let e : significand text * 10 ^ (raised text + scale) ≡ m * 10 ^ (z + (raised text + scale)) =
    ap (λ v. v * 10 ^ (raised text + scale)) value ∙ mul_assoc m (10 ^ z) (10 ^ (raised text + scale)) ∙ ap (λ p. m * p) (sym (pow-add 10 z (raised text + scale))) in
    ne_eqb _ 0 (λ h. no_quotient m (z + (raised text + scale)) (lowered text + length (fraction_digits text)) last (omega arith) (sym (ap (λ v. v % 10 ^ (lowered text + length (fraction_digits text))) e) ∙ h))

-- a number that is not 0, with 19 places or more behind it, is out of range
past : (m g : ℕ) → 0 < m → 19 ≤ g → 10 ^ 18 < m * 10 ^ g
past m g h k = let split : g ≡ 19 + (g - 19) = omega arith in
    let big : 10 ^ 19 * 1 ≤ 10 ^ 19 * 10 ^ (g - 19) = mul-le-mul_left (10 ^ 19) (ten_pos (g - 19)) in
    let more : 1 * 10 ^ g ≤ m * 10 ^ g = mul-le-mul_right (10 ^ g) h in
    omega (arith, big, more, ap (λ k. 10 ^ k) split ∙ pow-add 10 19 (g - 19))

-- a number that is not 0 and has 19 places or more on the grid is out of range
pub out_of_range : (scale : ℕ) (text : List ℕ) (m z g : ℕ) → significand text ≡ m * 10 ^ z → (raised text + scale) + z ≡ (lowered text + length (fraction_digits text)) + g
    → 0 < m → 19 ≤ g → (is_on_grid scale text ≡ true) × (is_in_range scale text ≡ false)
out_of_range scale text m z g value e h k = let p = on_grid scale text m z g value e in
    (p.0, ap (λ n. nat_le n (10 ^ 18)) p.1 ∙ lt-leb (m * 10 ^ g) (10 ^ 18) (past m g h k))
