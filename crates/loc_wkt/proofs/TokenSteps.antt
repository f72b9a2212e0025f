-- One byte more of a number: what completes it before the byte and behind it.
use Rattle.std.proofs.Common.{◌≡◌, ◌≢◌, ℕ, ◌≤◌, List, [], ◌∷◌, ◌++◌, Bool, true, false, ◌⊎◌, inl, inr, ◌&&◌, ◌||◌, not, refl, ◌∙◌, ap, ap₂, arith, one-add, add-one, ne_eqb, length}
use Rattle.std.proofs.lemmas.Bool.Decides.{nat_tests}
use Rattle.std.specs.Char.{is_ascii_digit}
use Rattle.std.specs.List.{before_first, after_first, list_all, list_any}
use Rattle.loc_spec_text.specs.Number.{are_digits, is_exponent_mark, is_point, is_sign, unsigned}
use Rattle.loc_wkt.specs.TokenParts.{mantissa, digits, exponent_is_right, completes}
use Rattle.loc_wkt.specs.declared.tokens.lengths.Part.TheVariants.{Start, Sign, Whole, Point, Fraction, Mark}

module _ (p : ℕ → Bool) (x : ℕ) (xs : List ℕ) where
  pub before_first-no : p x ≡ false → before_first p (x ∷ xs) ≡ x ∷ before_first p xs
  before_first-no h = rw h (rw one-add refl)

  before_first-yes : p x ≡ true → before_first p (x ∷ xs) ≡ []
  before_first-yes h = rw h refl

  pub after_first-no : p x ≡ false → after_first p (x ∷ xs) ≡ after_first p xs
  after_first-no h = rw h (rw (one-add, add-one, add-one) refl)

-- which tests a byte passes
record IsDigit (b : ℕ) : Type 0 where
  digit : is_ascii_digit b ≡ true
  no_point : is_point b ≡ false
  no_mark : is_exponent_mark b ≡ false
  no_sign : is_sign b ≡ false

is_digit : (b : ℕ) → 48 ≤ b → b ≤ 57 → IsDigit b
is_digit b h k = record { digit = grind (arith, nat_tests); no_point = grind (arith, nat_tests); no_mark = grind (arith, nat_tests); no_sign = grind (arith, nat_tests) }

pub no_digit : (b : ℕ) → (48 ≤ b → b ≤ 57 → ⊥) → is_ascii_digit b ≡ false
no_digit b h = grind (arith, nat_tests)

-- the parts of a text with one byte more in front
mantissa-no : (b : ℕ) (text : List ℕ) → is_exponent_mark b ≡ false → mantissa (b ∷ text) ≡ b ∷ mantissa text
mantissa-no b text h = before_first-no is_exponent_mark b text h

digits-no : (b : ℕ) (text : List ℕ) → is_exponent_mark b ≡ false → is_point b ≡ false → digits (b ∷ text) ≡ b ∷ digits text
digits-no b text h k = ap (λ m. before_first is_point m ++ after_first is_point m) (mantissa-no b text h)
    ∙ ap₂ (λ x y. x ++ y) (before_first-no is_point b (mantissa text) k) (after_first-no is_point b (mantissa text) k)

digits-point : (text : List ℕ) → digits (46 ∷ text) ≡ mantissa text
digits-point text = ap (λ m. before_first is_point m ++ after_first is_point m) (mantissa-no 46 text refl)

exponent_is_right-no : (b : ℕ) (text : List ℕ) → is_exponent_mark b ≡ false → exponent_is_right (b ∷ text) ≡ exponent_is_right text
exponent_is_right-no b text h = ap₂ (λ x y. not (x || list_any is_exponent_mark text) || are_digits (unsigned y)) h (after_first-no is_exponent_mark b text h)

-- a digit more
are_digits-cons : (b : ℕ) (ds : List ℕ) → are_digits (b ∷ ds) ≡ list_all is_ascii_digit (b ∷ ds)
are_digits-cons b ds = rw (ne_eqb (length (b ∷ ds)) 0 (λ e. absurd (omega arith))) refl

are_digits-more : (b : ℕ) (ds : List ℕ) → is_ascii_digit b ≡ true → are_digits (b ∷ ds) ≡ list_all is_ascii_digit ds
are_digits-more b ds h = are_digits-cons b ds ∙ rw h refl

first_digits : (b : ℕ) (text : List ℕ) → IsDigit b → completes Sign (b ∷ text) ≡ completes Whole text
first_digits b text d = ap₂ (λ x y. are_digits x && y) (digits-no b text d.no_mark d.no_point) (exponent_is_right-no b text d.no_mark)
    ∙ ap (λ x. x && exponent_is_right text) (are_digits-more b (digits text) d.digit)

pub start_digit : (b : ℕ) (text : List ℕ) → 48 ≤ b → b ≤ 57 → completes Start (b ∷ text) ≡ completes Whole text
start_digit b text h k = let d = is_digit b h k in rw d.no_sign (first_digits b text d)

pub sign_digit : (b : ℕ) (text : List ℕ) → 48 ≤ b → b ≤ 57 → completes Sign (b ∷ text) ≡ completes Whole text
sign_digit b text h k = first_digits b text (is_digit b h k)

pub whole_digit : (b : ℕ) (text : List ℕ) → 48 ≤ b → b ≤ 57 → completes Whole (b ∷ text) ≡ completes Whole text
whole_digit b text h k = let d = is_digit b h k in ap₂ (λ x y. list_all is_ascii_digit x && y) (digits-no b text d.no_mark d.no_point) (exponent_is_right-no b text d.no_mark) ∙ rw d.digit refl

pub point_digit : (b : ℕ) (text : List ℕ) → 48 ≤ b → b ≤ 57 → completes Point (b ∷ text) ≡ completes Fraction text
point_digit b text h k = let d = is_digit b h k in ap₂ (λ x y. are_digits x && y) (mantissa-no b text d.no_mark) (exponent_is_right-no b text d.no_mark)
    ∙ ap (λ x. x && exponent_is_right text) (are_digits-more b (mantissa text) d.digit)

pub fraction_digit : (b : ℕ) (text : List ℕ) → 48 ≤ b → b ≤ 57 → completes Fraction (b ∷ text) ≡ completes Fraction text
fraction_digit b text h k = let d = is_digit b h k in ap₂ (λ x y. list_all is_ascii_digit x && y) (mantissa-no b text d.no_mark) (exponent_is_right-no b text d.no_mark) ∙ rw d.digit refl

-- the point
pub start_point : (text : List ℕ) → completes Start (46 ∷ text) ≡ completes Point text
start_point text = ap₂ (λ x y. are_digits x && y) (digits-point text) (exponent_is_right-no 46 text refl)

pub whole_point : (text : List ℕ) → completes Whole (46 ∷ text) ≡ completes Fraction text
whole_point text = ap₂ (λ x y. list_all is_ascii_digit x && y) (digits-point text) (exponent_is_right-no 46 text refl)

-- the exponent's mark
pub whole_mark : (b : ℕ) (text : List ℕ) → (b ≡ 69) ⊎ (b ≡ 101) → completes Whole (b ∷ text) ≡ completes Mark text
whole_mark b text (inl e) = rw e refl
whole_mark b text (inr e) = rw e refl

pub fraction_mark : (b : ℕ) (text : List ℕ) → (b ≡ 69) ⊎ (b ≡ 101) → completes Fraction (b ∷ text) ≡ completes Mark text
fraction_mark b text (inl e) = rw e refl
fraction_mark b text (inr e) = rw e refl

-- no number goes on with the byte
module _ (b : ℕ) (text : List ℕ) (no : is_ascii_digit b ≡ false) (no_point : b ≢ 46) where
  not_point : is_point b ≡ false
  not_point = ne_eqb b 46 no_point

  no_digits_more : (ds : List ℕ) → are_digits (b ∷ ds) ≡ false
  no_digits_more ds = are_digits-cons b ds ∙ rw no refl

  pub sign_stops : completes Sign (b ∷ text) ≡ false
  sign_stops = stops (is_exponent_mark b) refl
    where
      stops : (m : Bool) → is_exponent_mark b ≡ m → completes Sign (b ∷ text) ≡ false
      stops true h = ap (λ x. are_digits x && exponent_is_right (b ∷ text)) (ap (λ m. before_first is_point m ++ after_first is_point m) (before_first-yes is_exponent_mark b text h))
      stops false h = ap (λ x. are_digits x && exponent_is_right (b ∷ text)) (digits-no b text h not_point) ∙ ap (λ x. x && exponent_is_right (b ∷ text)) (no_digits_more (digits text))

  pub whole_stops : ((b ≡ 69) ⊎ (b ≡ 101) → ⊥) → completes Whole (b ∷ text) ≡ false
  whole_stops h = ap (λ x. list_all is_ascii_digit x && exponent_is_right (b ∷ text)) (digits-no b text (rw (ne_eqb b 101 (λ e. h (inr e)), ne_eqb b 69 (λ e. h (inl e))) refl) not_point) ∙ rw no refl

  pub start_stops : ((b ≡ 43) ⊎ (b ≡ 45) → ⊥) → completes Start (b ∷ text) ≡ false
  start_stops h = rw (ne_eqb b 43 (λ e. h (inl e)), ne_eqb b 45 (λ e. h (inr e))) sign_stops
