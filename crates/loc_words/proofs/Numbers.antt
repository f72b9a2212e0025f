-- Numbers by their digits.
use Rattle.std.proofs.Common.{◌≡◌, ◌==◌, ◌^◌, ℕ, ◌<◌, ◌≤◌, true, false, [], ◌∷◌, length, Some, None, Result, Ok, Err, nat_lt, nat_le, refl, ◌∙◌, ap, arith, inl, inr}
use Rattle.std.specs.{Char.is_ascii_digit, List.list_all, Int.IsInRange, Result.OkIff, Result.result_ok}
use Rattle.std.specs.Str.Parse.{IsNumeral, ParsesUnsigned, digits_value, without_leading_plus}
use Rattle.std.proofs.lemmas.Bool.{and_parts, cases_Bool, ne_eqb, le-leb, lt-ltb, ltb-true}
use Rattle.std.proofs.lemmas.Str.Parse.{numerals_by_value}
use Rattle.loc_spec_text.specs.Bytes.{Text}
use Rattle.loc_spec_text.proofs.DigitLaws.{ascii_digits, digit_range}
use Rattle.loc_words.specs.Words.{number_word}

no_plus : (ds : Text) → list_all is_ascii_digit ds ≡ true → without_leading_plus ds ≡ ds
no_plus [] h = refl
no_plus (c ∷ cs) h =
    let range = digit_range c (and_parts (is_ascii_digit c) (list_all is_ascii_digit cs) h).0 in
    let other : (c == 43) ≡ false = ne_eqb c 43 (λ e. not_plus c range e) in
    simp other
  where
    not_plus : (c : ℕ) → IsInRange 48 57 c → c ≡ 43 → ⊥
    not_plus c r e = omega (arith, r.0, e)

-- the number that was parsed of digits
pub parsed : {E : Type 0} (ds : Text) (r : Result ℕ E) → 0 < length ds → length ds ≤ 20 → list_all is_ascii_digit ds ≡ true → ParsesUnsigned 64 10 ds r → result_ok r ≡ number_word ds
parsed {E = E} ds r some most digits parses =
    let numeral : IsNumeral 10 ds = (some, (numerals_by_value (λ l. list_all is_ascii_digit l ≡ true) ascii_digits).to ds digits) in
    let plain = no_plus ds digits in
    let bare : OkIff r (IsNumeral 10 ds × (digits_value 10 ds < 2 ^ 64)) (digits_value 10 ds) = rw plain at parses in
    answered r numeral bare
  where
    tested : nat_lt 0 (length ds) ≡ true
    tested = lt-ltb 0 (length ds) some

    below : nat_le (length ds) 20 ≡ true
    below = le-leb (length ds) 20 most

    is_number : nat_lt (digits_value 10 ds) (2 ^ 64) ≡ true → Some (digits_value 10 ds) ≡ number_word ds
    is_number fits = simp (tested, below, digits, fits)

    is_none : nat_lt (digits_value 10 ds) (2 ^ 64) ≡ false → None ≡ number_word ds
    is_none large = simp (tested, below, digits, large)

    answered : (r : Result ℕ E) → IsNumeral 10 ds → OkIff r (IsNumeral 10 ds × (digits_value 10 ds < 2 ^ 64)) (digits_value 10 ds) → result_ok r ≡ number_word ds
    answered (Ok x) numeral p = ap Some p.1 ∙ is_number (lt-ltb (digits_value 10 ds) (2 ^ 64) p.0.1)
    answered (Err e) numeral p = elim (cases_Bool (nat_lt (digits_value 10 ds) (2 ^ 64))) [
      | inl fits ↦ absurd (p (numeral, ltb-true (digits_value 10 ds) (2 ^ 64) fits))
      | inr large ↦ is_none large
    ]
