-- Digits that are put from the last to the first.
use Rattle.std.proofs.Common.{◌≡◌, ℕ, zero, suc, ◌+◌, ◌-◌, ◌*◌, ◌/◌, ◌%◌, ◌^◌, ◌<◌, ◌≤◌, List, [], ◌∷◌, ◌++◌, length, drop, set, true, codes, sym, ◌∙◌, ap, ap₂, arith, pow-suc, add-one, mul_comm}
use Rattle.std.proofs.{lemmas.List.drop-set, lemmas.List.length-set, lemmas.Fmt.length-decimal-le}
use Rattle.std.specs.Fmt.{decimal}
use Rattle.std.specs.Prelude.{if◌then◌else◌, ℤ, pos, int_lt, unsigned_abs}
use Rattle.std.proofs.Math.Nat.{div-div-eq-div-mul, div-le_self, div-one}
use Rattle.loc_spec_text.specs.Points.{fraction_text, grid_text, padded_digits}

power_front : (k : ℕ) → 10 * 10 ^ k ≡ 10 ^ suc k
power_front k = mul_comm 10 (10 ^ k) ∙ sym (pow-suc 10 k)

-- one digit more in front
pub padded_front : (k n : ℕ) → padded_digits (suc k) n ≡ (48 + (n / 10 ^ k) % 10) ∷ padded_digits k n
padded_front zero n = ap (λ m. (48 + m % 10) ∷ []) (sym (div-one n))
padded_front (suc k) n = ap (λ ds. ds ++ (48 + n % 10) ∷ []) (padded_front k (n / 10))
    ∙ ap (λ m. (48 + m % 10) ∷ padded_digits (suc k) n) (div-div-eq-div-mul n 10 (10 ^ k) ∙ ap (λ p. n / p) (power_front k))

-- what is left of a number behind one digit more
pub left_more : (n k : ℕ) → n / 10 ^ k / 10 ≡ n / 10 ^ (k + 1)
left_more n k = div-div-eq-div-mul n (10 ^ k) 10 ∙ ap (λ p. n / p) (sym (pow-suc 10 k) ∙ ap (λ j. 10 ^ j) (sym (add-one k)))

-- a digit put in front of those at the end
pub put_more : (room : List ℕ) (k n left : ℕ) → k < length room → left ≡ n / 10 ^ k → drop (length room - k) room ≡ padded_digits k n
    → drop (length (set room (length room - 1 - k) (48 + left % 10)) - (k + 1)) (set room (length room - 1 - k) (48 + left % 10)) ≡ padded_digits (k + 1) n
put_more room k n left h e behind =
    let same : length (set room (length room - 1 - k) (48 + left % 10)) - (k + 1) ≡ length room - 1 - k = omega (arith, length-set room (length room - 1 - k) (48 + left % 10)) in
    let next : length room - 1 - k + 1 ≡ length room - k = omega arith in
    ap (λ i. drop i (set room (length room - 1 - k) (48 + left % 10))) same
    ∙ drop-set room (length room - 1 - k) (48 + left % 10) (omega arith)
    ∙ ap₂ (λ m ds. (48 + m % 10) ∷ ds) e (ap (λ i. drop i room) next ∙ behind)
    ∙ sym (padded_front k n) ∙ ap (λ j. padded_digits j n) (sym (add-one k))

-- a minus put in front of the rest
pub put_minus : (room text : List ℕ) (start : ℕ) → 1 ≤ start → start ≤ length room → drop start room ≡ text → drop (start - 1) (set room (start - 1) 45) ≡ 45 ∷ text
put_minus room text start h k e =
    let next : start - 1 + 1 ≡ start = omega arith in
    drop-set room (start - 1) 45 (omega arith) ∙ ap (λ ds. 45 ∷ ds) (ap (λ i. drop i room) next ∙ e)

-- the text of a value below zero
pub negative_text : (scale : ℕ) (value : ℤ) (m u : ℕ) → m ≡ unsigned_abs value → u ≡ 10 ^ scale → int_lt value (pos 0) ≡ true
    → 45 ∷ (decimal (m / u) ++ fraction_text scale (m % u)) ≡ grid_text scale value
negative_text scale value m u e f h = ap₂ (λ a b. 45 ∷ (decimal (a / b) ++ fraction_text scale (a % b))) e f
    ∙ ap (λ t. (if t then codes "-" else []) ++ decimal (unsigned_abs value / 10 ^ scale) ++ fraction_text scale (unsigned_abs value % 10 ^ scale)) (sym h)

-- the whole part has at most 20 digits
pub whole_short : (m u : ℕ) → m ≤ 2 ^ 63 → length (decimal (m / u)) ≤ 20
whole_short m u h = let small : m / u ≤ m = div-le_self m u in length-decimal-le 20 (m / u) (omega arith) (omega arith) (omega arith)
