-- A printed grid value as a number text: its sign, the digits before the point and exactly as many behind it as the scale says.
use Rattle.std.proofs.Common.{◌≡◌, ℕ, zero, suc, ◌+◌, ◌*◌, ◌/◌, ◌%◌, ◌^◌, ◌<◌, ◌≤◌, ◌||◌, ◌&&◌, Bool, true, false, not, ◌∷◌, ◌++◌, length, append_assoc, append-nil, length-append, mul_assoc, pow-suc, ℤ, pos, negsuc, neg_ℤ, refl, sym, ◌∙◌, ap, ap₂, arith, nat_le, []}
use Rattle.std.specs.Prelude.{◌==◌, codes, if◌then◌else◌, unsigned_abs, int_lt}
use Rattle.std.specs.{Char.digit_value, Char.is_ascii_digit, Fmt.decimal}
use Rattle.std.specs.List.{list_all, list_any, before_first, after_first}
use Rattle.std.specs.Str.Parse.{digits_value, digits_value_after}
use Rattle.std.proofs.{Math.Nat.div-le_self, lemmas.Fmt.decimal_is_IsNumeral}
use Rattle.std.proofs.lemmas.Bool.{and_parts, ne_eqb, le-leb, le-ltb, or_from}
use Rattle.std.proofs.lemmas.List.Folds.{list_all-append, list_any-append}
use Rattle.std.proofs.lemmas.Nat.{div-add-mod', mod_below}
use Rattle.loc_spec_plane.specs.Points.{OnGrid}
use Rattle.loc_spec_text.specs.{Bytes.Text, Points.fraction_text, Points.grid_text, Points.padded_digits}
use Rattle.loc_spec_text.specs.Number.{are_digits, exponent, fraction_digits, has_exponent, is_exponent_mark, is_negative, is_number, is_point, lowered, magnitude, raised, significand, unsigned, whole_digits}
use Rattle.loc_spec_text.proofs.DigitLaws.{range_digit, decimal_digits, no_mark, no_point, no_sign, not_byte}
use Rattle.loc_spec_text.proofs.{NumberLaws.on_grid, NumberLaws.ten_pos, CutLaws.cut, CutLaws.none_of, CutLaws.uncut}
use Rattle.loc_laws_grouptext.proofs.NoQuotes.{small_abs}
use Rattle.loc_wkt.proofs.NumberLemmas.{digit_number}
use Rattle.loc_laws_regroup.specs.Laws.{GridTextReads, IsTextOf}

-- ---- digits
digit_is : (k : ℕ) → k < 10 → is_ascii_digit (48 + k) ≡ true
digit_is k less = range_digit (48 + k) (omega arith, omega (arith, less))

pub padded_are : (k n : ℕ) → list_all is_ascii_digit (padded_digits k n) ≡ true
padded_are zero n = refl
padded_are (suc k) n = list_all-append is_ascii_digit (padded_digits k (n / 10)) ((48 + n % 10) ∷ []) ∙ rw (padded_are k (n / 10), digit_is (n % 10) (mod_below n 10 (omega arith))) refl

padded_length : (k n : ℕ) → length (padded_digits k n) ≡ k
padded_length zero n = refl
padded_length (suc k) n = omega (arith, length-append (padded_digits k (n / 10)) ((48 + n % 10) ∷ []), padded_length k (n / 10))

value_after-append : (n : ℕ) (ds es : Text) → digits_value_after 10 n (ds ++ es) ≡ digits_value_after 10 (digits_value_after 10 n ds) es
value_after-append n [] es = refl
value_after-append n (d ∷ ds) es = value_after-append (n * 10 + digit_value d) ds es

-- so many digits behind a number
padded_value : (k w n : ℕ) → n < 10 ^ k → digits_value_after 10 w (padded_digits k n) ≡ w * 10 ^ k + n
padded_value zero w n less = omega (arith, less)
padded_value (suc k) w n less =
    let whole = div-add-mod' n 10 in
    let below : n / 10 < 10 ^ k = (let power = pow-suc 10 k in omega (arith, less, power, whole)) in
    let last = mod_below n 10 (omega arith) in
    let digit = digit_number (48 + n % 10) (omega arith) (omega (arith, last)) in
    let front = padded_value k w (n / 10) below in
    let power = pow-suc 10 k in
    let shift : w * (10 ^ k * 10) ≡ w * 10 ^ k * 10 = sym (mul_assoc w (10 ^ k) 10) in
    value_after-append w (padded_digits k (n / 10)) ((48 + n % 10) ∷ [])
    ∙ ap₂ (λ a b. a * 10 + b) front digit
    ∙ rw power (omega (arith, shift, whole))

-- ---- the parts of the text
abbrev pub sign_text : Bool → Text
sign_text negative = if negative then codes "-" else []

-- what the text is made of: a sign, digits, and the fraction
abbrev pub text_by : Bool → Text → ℕ → ℕ → Text
text_by negative ds scale n = sign_text negative ++ (ds ++ fraction_text scale n)

pub record AreParts (negative : Bool) (ds : Text) (scale n : ℕ) : Type 0 where
  pub sign : is_negative (text_by negative ds scale n) ≡ negative
  pub whole : whole_digits (text_by negative ds scale n) ≡ ds
  pub fraction : fraction_digits (text_by negative ds scale n) ≡ padded_digits scale n
  pub no_exponent : exponent (text_by negative ds scale n) ≡ []
  pub no_mark : has_exponent (text_by negative ds scale n) ≡ false

-- behind the sign
unsigned_is : (negative : Bool) (c : ℕ) (ds : Text) (scale n : ℕ) → is_ascii_digit c ≡ true
    → (unsigned (text_by negative (c ∷ ds) scale n) ≡ (c ∷ ds) ++ fraction_text scale n) × (is_negative (text_by negative (c ∷ ds) scale n) ≡ negative)
unsigned_is true c ds scale n digit = (refl, refl)
unsigned_is false c ds scale n digit = let bare = no_sign c digit in (rw bare refl, not_byte c 45 digit (λ r. omega (arith, r.0)))

unmarked : (ds : Text) (scale n : ℕ) → list_all is_ascii_digit ds ≡ true → list_any is_exponent_mark (ds ++ fraction_text scale n) ≡ false
unmarked ds scale n digits = list_any-append is_exponent_mark ds (fraction_text scale n) ∙ or_from (list_any is_exponent_mark ds) (list_any is_exponent_mark (fraction_text scale n)) (none_of is_exponent_mark is_ascii_digit no_mark ds digits) (behind scale)
  where
    behind : (scale : ℕ) → list_any is_exponent_mark (fraction_text scale n) ≡ false
    behind zero = refl
    behind (suc k) = none_of is_exponent_mark is_ascii_digit no_mark (padded_digits (suc k) n) (padded_are (suc k) n)

pointed : (ds : Text) (scale n : ℕ) → list_all is_ascii_digit ds ≡ true
    → (before_first is_point (ds ++ fraction_text scale n) ≡ ds) × (after_first is_point (ds ++ fraction_text scale n) ≡ padded_digits scale n)
pointed ds zero n digits =
    let all = uncut is_point ds (none_of is_point is_ascii_digit no_point ds digits) in
    let end = append-nil ds in
    (ap (before_first is_point) end ∙ all.0, ap (after_first is_point) end ∙ all.1)
pointed ds (suc k) n digits = cut is_point ds 46 (padded_digits (suc k) n) (none_of is_point is_ascii_digit no_point ds digits) refl

pub parts_of : (negative : Bool) (ds : Text) (scale n : ℕ) → 0 < length ds → list_all is_ascii_digit ds ≡ true → AreParts negative ds scale n
parts_of negative [] scale n some digits = absurd (omega (arith, some))
parts_of negative (c ∷ cs) scale n some digits =
    let bare = unsigned_is negative c cs scale n (and_parts (is_ascii_digit c) (list_all is_ascii_digit cs) digits).0 in
    let none = unmarked (c ∷ cs) scale n digits in
    let marks = uncut is_exponent_mark ((c ∷ cs) ++ fraction_text scale n) none in
    let points = pointed (c ∷ cs) scale n digits in
    record {
      sign = bare.1;
      whole = ap (λ t. before_first is_point (before_first is_exponent_mark t)) bare.0 ∙ ap (before_first is_point) marks.0 ∙ points.0;
      fraction = ap (λ t. after_first is_point (before_first is_exponent_mark t)) bare.0 ∙ ap (after_first is_point) marks.0 ∙ points.1;
      no_exponent = ap (after_first is_exponent_mark) bare.0 ∙ marks.1;
      no_mark = ap (list_any is_exponent_mark) bare.0 ∙ none;
    }

-- it is a number of the grammar
number_is : (negative : Bool) (ds : Text) (scale n : ℕ) → 0 < length ds → list_all is_ascii_digit ds ≡ true → is_number (text_by negative ds scale n) ≡ true
number_is negative ds scale n some digits =
    let parts = parts_of negative ds scale n some digits in
    let text = text_by negative ds scale n in
    let long : (length (ds ++ padded_digits scale n) == 0) ≡ false = ne_eqb (length (ds ++ padded_digits scale n)) 0 (λ none. omega (arith, none, some, length-append ds (padded_digits scale n))) in
    let all : list_all is_ascii_digit (ds ++ padded_digits scale n) ≡ true = list_all-append is_ascii_digit ds (padded_digits scale n) ∙ rw (digits, padded_are scale n) refl in
    let here : are_digits (ds ++ padded_digits scale n) ≡ true = rw (long, all) refl in
    ap₂ (λ a b. are_digits a && (not b || are_digits (unsigned (exponent text)))) (ap₂ (λ a b. a ++ b) parts.whole parts.fraction) parts.no_mark ∙ rw here refl

-- and has the value of its digits
value_is : (negative : Bool) (scale w n : ℕ) → w < 2 ^ 64 → n < 10 ^ scale → w * 10 ^ scale + n ≤ 10 ^ 18
    → IsTextOf scale (if negative then neg_ℤ (pos (w * 10 ^ scale + n)) else pos (w * 10 ^ scale + n)) (text_by negative (decimal w) scale n)
value_is negative scale w n small less few =
    let numeral = decimal_is_IsNumeral w small in
    let digits = decimal_digits w small in
    let parts = parts_of negative (decimal w) scale n numeral.0.0 digits in
    let text : Text = text_by negative (decimal w) scale n in
    let m : ℕ = w * 10 ^ scale + n in
    let value : significand text ≡ (w * 10 ^ scale + n) * 10 ^ 0 =
    ap₂ (λ a b. digits_value 10 (a ++ b)) parts.whole parts.fraction
    ∙ value_after-append 0 (decimal w) (padded_digits scale n)
    ∙ ap (λ v. digits_value_after 10 v (padded_digits scale n)) numeral.1
    ∙ padded_value scale w n less ∙ omega arith in
    let raised_is : raised text ≡ 0 = ap (λ e. if is_negative e then 0 else digits_value 10 (unsigned e)) parts.no_exponent in
    let lowered_is : lowered text ≡ 0 = ap (λ e. if is_negative e then digits_value 10 (unsigned e) else 0) parts.no_exponent in
    let places : length (fraction_digits text) ≡ scale = ap length parts.fraction ∙ padded_length scale n in
    let grid = on_grid scale text (w * 10 ^ scale + n) 0 0 value (omega (arith, raised_is, lowered_is, places)) in
    let whole : magnitude scale text ≡ w * 10 ^ scale + n = grid.1 ∙ omega arith in
    record {
      number = number_is negative (decimal w) scale n numeral.0.0 digits;
      on_grid = grid.0;
      in_range = ap (λ k. nat_le k (10 ^ 18)) whole ∙ le-leb (w * 10 ^ scale + n) (10 ^ 18) few;
      reads = ap₂ (λ (s : Bool) (k : ℕ). if s then neg_ℤ (pos k) else pos k) parts.sign whole;
    }

-- ---- a grid value

signed_is : (v : ℤ) → (if int_lt v (pos 0) then neg_ℤ (pos (unsigned_abs v)) else pos (unsigned_abs v)) ≡ v
signed_is (pos n) = rw (le-ltb n 0 (omega arith)) refl
signed_is (negsuc n) = refl

pub grid_text_is : (scale : ℕ) (v : ℤ) → grid_text scale v ≡ text_by (int_lt v (pos 0)) (decimal (unsigned_abs v / 10 ^ scale)) scale (unsigned_abs v % 10 ^ scale)
grid_text_is scale v = append_assoc (sign_text (int_lt v (pos 0))) (decimal (unsigned_abs v / 10 ^ scale)) (fraction_text scale (unsigned_abs v % 10 ^ scale))

-- the whole part of a grid value is small
pub whole_small : (scale : ℕ) (v : ℤ) → OnGrid v → unsigned_abs v / 10 ^ scale < 2 ^ 64
whole_small scale v on = let small = small_abs v on in let less = div-le_self (unsigned_abs v) (10 ^ scale) in omega (arith, small, less)

pub grid_text_reads : GridTextReads
grid_text_reads scale v on =
    let small = small_abs v on in
    let power = ten_pos scale in
    let whole : (unsigned_abs v / 10 ^ scale) * 10 ^ scale + unsigned_abs v % 10 ^ scale ≡ unsigned_abs v = div-add-mod' (unsigned_abs v) (10 ^ scale) in
    let read = value_is (int_lt v (pos 0)) scale (unsigned_abs v / 10 ^ scale) (unsigned_abs v % 10 ^ scale) (whole_small scale v on) (mod_below (unsigned_abs v) (10 ^ scale) power) (omega (arith, small, whole)) in
    let value_is : (if int_lt v (pos 0) then neg_ℤ (pos ((unsigned_abs v / 10 ^ scale) * 10 ^ scale + unsigned_abs v % 10 ^ scale)) else pos ((unsigned_abs v / 10 ^ scale) * 10 ^ scale + unsigned_abs v % 10 ^ scale)) ≡ v =
    ap (λ m. if int_lt v (pos 0) then neg_ℤ (pos m) else pos m) whole ∙ signed_is v in
    rw (grid_text_is scale v) (record { number = read.number; on_grid = read.on_grid; in_range = read.in_range; reads = read.reads ∙ value_is })
