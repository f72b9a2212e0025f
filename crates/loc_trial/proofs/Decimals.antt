-- A number in decimal, as it is read: digits, which are one symbol of a text, and the number itself.
use Rattle.std.proofs.Common.{◌≡◌, ℕ, ◌*◌, ◌^◌, ◌<◌, ◌≤◌, ◌||◌, ◌&&◌, true, false, not, List, [], ◌∷◌, ◌++◌, length, append-nil, refl, ◌∙◌, ap, ap₂, arith, nat_le}
use Rattle.std.specs.Prelude.{◌==◌, codes, pos, if◌then◌else◌}
use Rattle.std.specs.{Char.is_ascii_digit, Char.is_ascii_alphabetic, Fmt.decimal, Str.Parse.digits_value}
use Rattle.std.specs.List.{list_all, list_any, before_first, after_first}
use Rattle.std.proofs.lemmas.Bool.{and_parts, ne_eqb, le-leb, lt-leb}
use Rattle.std.proofs.lemmas.Fmt.{decimal_is_IsNumeral}
use Rattle.loc_spec_text.specs.Geometry.{number, symbols, symbol_of, ends_symbol}
use Rattle.loc_spec_text.specs.Number.{are_digits, exponent, fraction_digits, grid_value, has_exponent, is_exponent_mark, is_in_range as is_within, is_negative, is_number, is_on_grid, is_point, lowered, magnitude, raised, significand, unsigned, whole_digits}
use Rattle.loc_spec_text.proofs.{NumberLaws.on_grid, SymbolLaws.run_first, CutLaws.none_of, CutLaws.uncut}
use Rattle.loc_spec_text.proofs.DigitLaws.{digit_range, decimal_digits, no_mark, no_point, no_sign, not_byte, plain_digits}
use Rattle.loc_wkt.proofs.SymbolLemmas.{not_that}

pub decimal_some : (n : ℕ) → n < 2 ^ 64 → 0 < length (decimal n)
decimal_some n small = (decimal_is_IsNumeral n small).0.0

decimal_value : (n : ℕ) → n < 2 ^ 64 → digits_value 10 (decimal n) ≡ n
decimal_value n small = (decimal_is_IsNumeral n small).1

-- the parts of digits as a number text
pub record AreParts (ds : List ℕ) : Type 0 where
  pub positive : is_negative ds ≡ false
  pub whole : whole_digits ds ≡ ds
  pub fraction : fraction_digits ds ≡ []
  pub no_exponent : exponent ds ≡ []
  pub no_mark : has_exponent ds ≡ false

pub parts_of : (ds : List ℕ) → 0 < length ds → list_all is_ascii_digit ds ≡ true → AreParts ds
parts_of [] some digits = absurd (omega (arith, some))
parts_of (c ∷ cs) some digits =
    let first = (and_parts (is_ascii_digit c) (list_all is_ascii_digit cs) digits).0 in
    let minus = not_byte c 45 first (λ r. omega (arith, r.0)) in
    let bare : unsigned (c ∷ cs) ≡ c ∷ cs = rw (no_sign c first) refl in
    let none = none_of is_exponent_mark is_ascii_digit no_mark (c ∷ cs) digits in
    let marks = uncut is_exponent_mark (c ∷ cs) none in
    let points = uncut is_point (c ∷ cs) (none_of is_point is_ascii_digit no_point (c ∷ cs) digits) in
    record {
      positive = minus;
      whole = ap (λ t. before_first is_point (before_first is_exponent_mark t)) bare ∙ ap (before_first is_point) marks.0 ∙ points.0;
      fraction = ap (λ t. after_first is_point (before_first is_exponent_mark t)) bare ∙ ap (after_first is_point) marks.0 ∙ points.1;
      no_exponent = ap (after_first is_exponent_mark) bare ∙ marks.1;
      no_mark = ap (list_any is_exponent_mark) bare ∙ none;
    }

-- digits are a number text
pub digits_number : (ds : List ℕ) → 0 < length ds → list_all is_ascii_digit ds ≡ true → is_number ds ≡ true
digits_number ds some digits =
    let p = parts_of ds some digits in
    let all : whole_digits ds ++ fraction_digits ds ≡ ds = ap₂ (λ a b. a ++ b) p.whole p.fraction ∙ append-nil ds in
    let not_none : (length ds == 0) ≡ false = ne_eqb (length ds) 0 (λ e. omega (arith, e, some)) in
    let here : are_digits ds ≡ true = simp (not_none, digits) in
    ap₂ (λ a b. are_digits a && (not b || are_digits (unsigned (exponent ds)))) all p.no_mark ∙ rw here refl

-- the value of a decimal that is within the range, at scale 0
pub record IsRead (n : ℕ) : Type 0 where
  pub on_the_grid : is_on_grid 0 (decimal n) ≡ true
  pub within : is_within 0 (decimal n) ≡ true
  pub value : grid_value 0 (decimal n) ≡ pos n

pub decimal_read : (n : ℕ) → n ≤ 10 ^ 18 → IsRead n
decimal_read n few =
    let small : n < 2 ^ 64 = omega arith in
    let digits = decimal_digits n small in
    let p = parts_of (decimal n) (decimal_some n small) digits in
    let value : significand (decimal n) ≡ n * 10 ^ 0 = ap₂ (λ a b. digits_value 10 (a ++ b)) p.whole p.fraction ∙ ap (digits_value 10) (append-nil (decimal n)) ∙ decimal_value n small ∙ omega arith in
    let raised_is : raised (decimal n) ≡ 0 = ap (λ e. if is_negative e then 0 else digits_value 10 (unsigned e)) p.no_exponent in
    let lowered_is : lowered (decimal n) ≡ 0 = ap (λ e. if is_negative e then digits_value 10 (unsigned e) else 0) p.no_exponent in
    let fraction : length (fraction_digits (decimal n)) ≡ 0 = ap length p.fraction in
    let g = on_grid 0 (decimal n) n 0 0 value (omega (arith, raised_is, lowered_is, fraction)) in
    let whole : magnitude 0 (decimal n) ≡ n = g.1 ∙ omega arith in
    record {
      on_the_grid = g.0;
      within = ap (λ m. nat_le m (10 ^ 18)) whole ∙ le-leb n (10 ^ 18) few;
      value = rw (p.positive, whole) refl;
    }

-- it is a number of a text
decimal_symbol : (n : ℕ) → n < 2 ^ 64 → symbol_of (decimal n) ≡ number (decimal n)
decimal_symbol n small =
    let digits = decimal_digits n small in
    let o = not_that (list_all is_ascii_digit) (decimal n) (codes "(") digits refl in
    let c = not_that (list_all is_ascii_digit) (decimal n) (codes ")") digits refl in
    let m = not_that (list_all is_ascii_digit) (decimal n) (codes ",") digits refl in
    let w = no_letters (decimal n) (decimal_some n small) digits in
    let d = digits_number (decimal n) (decimal_some n small) digits in
    rw (o, c, m, w, d) refl
  where
    no_letters : (ds : List ℕ) → 0 < length ds → list_all is_ascii_digit ds ≡ true → list_all is_ascii_alphabetic ds ≡ false
    no_letters [] some digits = absurd (omega (arith, some))
    no_letters (c ∷ cs) some digits =
        let r = digit_range c (and_parts (is_ascii_digit c) (list_all is_ascii_digit cs) digits).0 in
        let low = lt-leb 65 c (omega (arith, r.1)) in
        let high = lt-leb 97 c (omega (arith, r.1)) in
        simp (low, high)

-- the first symbol of a text that begins with a decimal
pub decimal_first : (n : ℕ) (rest : List ℕ) → n < 2 ^ 64 → ends_symbol rest ≡ true → symbols (decimal n ++ rest) ≡ number (decimal n) ∷ symbols rest
decimal_first n rest small ends = run_first (decimal n) rest (decimal_some n small) (plain_digits (decimal n) (decimal_digits n small)) ends ∙ ap (λ p. p ∷ symbols rest) (decimal_symbol n small)

-- two numbers with a space between them
pub pair_first : (x y : ℕ) (rest : List ℕ) → x < 2 ^ 64 → y < 2 ^ 64 → ends_symbol rest ≡ true
    → symbols (decimal x ++ 32 ∷ (decimal y ++ rest)) ≡ number (decimal x) ∷ number (decimal y) ∷ symbols rest
pair_first x y rest small_x small_y ends = decimal_first x (32 ∷ (decimal y ++ rest)) small_x refl ∙ ap (λ ps. number (decimal x) ∷ ps) (decimal_first y rest small_y ends)
