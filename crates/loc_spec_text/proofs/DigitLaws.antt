-- Decimal digits by their codes, and what they are not.
use Rattle.std.proofs.Common.{◌≡◌, ℕ, ◌^◌, ◌<◌, List, [], ◌∷◌, true, false, nat_le, refl, arith}
use Rattle.std.specs.Prelude.{◌==◌}
use Rattle.std.specs.{Char.is_ascii_digit, Fmt.decimal, Int.IsInRange, List.list_all}
use Rattle.std.proofs.lemmas.Bool.{and_parts, leb-true, le-leb, ne_eqb, or_from}
use Rattle.std.proofs.lemmas.Fmt.{decimal_is_IsNumeral}
use Rattle.std.proofs.lemmas.Str.Parse.{IsDigitsTest, numerals_by_value}
use Rattle.loc_spec_text.specs.Number.{is_exponent_mark, is_point, is_sign}
use Rattle.loc_spec_text.proofs.SymbolLaws.{is_plain}

pub digit_range : (c : ℕ) → is_ascii_digit c ≡ true → IsInRange 48 57 c
digit_range c h = let two = and_parts (nat_le 48 c) (nat_le c 57) h in (leb-true 48 c two.0, leb-true c 57 two.1)

pub range_digit : (c : ℕ) → IsInRange 48 57 c → is_ascii_digit c ≡ true
range_digit c h = let low = le-leb 48 c h.0 in let high = le-leb c 57 h.1 in simp (low, high)

-- a list of digits, as a test of numerals
pub ascii_digits : IsDigitsTest (λ ds. list_all is_ascii_digit ds ≡ true)
ascii_digits = record {
  empty = refl;
  parts = λ c cs h. let two = and_parts (is_ascii_digit c) (list_all is_ascii_digit cs) h in (digit_range c two.0, two.1);
  more = λ c cs r h. let here = range_digit c r in simp (here, h);
}

-- the decimal of a number is digits
pub decimal_digits : (n : ℕ) → n < 2 ^ 64 → list_all is_ascii_digit (decimal n) ≡ true
decimal_digits n small = (numerals_by_value (λ ds. list_all is_ascii_digit ds ≡ true) ascii_digits).from (decimal n) (decimal_is_IsNumeral n small).0.1

-- what a digit is not
pub not_byte : (c k : ℕ) → is_ascii_digit c ≡ true → (IsInRange 48 57 k → ⊥) → (c == k) ≡ false
not_byte c k digit other = ne_eqb c k (λ e. other (rw e at (digit_range c digit)))

pub no_point : (c : ℕ) → is_ascii_digit c ≡ true → is_point c ≡ false
no_point c digit = not_byte c 46 digit (λ r. omega (arith, r.0))

pub no_mark : (c : ℕ) → is_ascii_digit c ≡ true → is_exponent_mark c ≡ false
no_mark c digit = or_from (c == 101) (c == 69) (not_byte c 101 digit (λ r. omega (arith, r.1))) (not_byte c 69 digit (λ r. omega (arith, r.1)))

pub no_sign : (c : ℕ) → is_ascii_digit c ≡ true → is_sign c ≡ false
no_sign c digit = or_from (c == 43) (c == 45) (not_byte c 43 digit (λ r. omega (arith, r.0))) (not_byte c 45 digit (λ r. omega (arith, r.0)))

-- it is a part of a symbol
pub plain_digit : (c : ℕ) → is_ascii_digit c ≡ true → is_plain c ≡ true
plain_digit c digit =
    let range = digit_range c digit in
    let space = ne_eqb c 32 (λ e. omega (arith, range.0, e)) in
    let tab = ne_eqb c 9 (λ e. omega (arith, range.0, e)) in
    let cr = ne_eqb c 13 (λ e. omega (arith, range.0, e)) in
    let lf = ne_eqb c 10 (λ e. omega (arith, range.0, e)) in
    let left = ne_eqb c 40 (λ e. omega (arith, range.0, e)) in
    let right = ne_eqb c 41 (λ e. omega (arith, range.0, e)) in
    let mark = ne_eqb c 44 (λ e. omega (arith, range.0, e)) in
    simp (space, tab, cr, lf, left, right, mark)

pub plain_digits : (ds : List ℕ) → list_all is_ascii_digit ds ≡ true → list_all is_plain ds ≡ true
plain_digits [] digits = refl
plain_digits (c ∷ ds) digits =
    let parts = and_parts (is_ascii_digit c) (list_all is_ascii_digit ds) digits in
    rw (plain_digit c parts.0, plain_digits ds parts.1) refl
