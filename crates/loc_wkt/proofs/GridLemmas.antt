-- What the parts of a number text, as they are kept, decide of its place on the grid of a scale.
use Rattle.std.proofs.Common.{◌≡◌, ◌⊎◌, inl, inr, ℕ, ◌+◌, ◌-◌, ◌*◌, ◌^◌, ◌<◌, ◌≤◌, List, [], ◌∷◌, ◌++◌, Bool, true, false, not, ◌||◌, length, min, refl, sym, ◌∙◌, ap, ap₂, subst, arith, length-drop, length-take, mul-le-mul_left}
use Rattle.std.specs.Prelude.{if◌then◌else◌, pos, neg_ℤ, nat_le}
use Rattle.std.specs.{Char.is_ascii_digit, Str.Parse.digits_value}
use Rattle.std.specs.List.{before_first, after_first, list_all, list_any, position_or_len}
use Rattle.std.proofs.{lemmas.Bool.and_parts, lemmas.Bool.lt-leb, lemmas.List.Folds.list_all-append}
use Rattle.loc_spec_text.specs.Number.{are_digits, exponent, fraction_digits, grid_value, has_exponent, is_exponent_mark, is_in_range, is_negative, is_number, is_on_grid, is_point, is_sign, lowered, magnitude, raised, significand, unsigned, whole_digits}
use Rattle.loc_spec_text.proofs.NumberLaws.{off_grid, on_grid, out_of_range, zero_on_grid, ten_pos}
use Rattle.loc_wkt.specs.{declared.grid_numbers.Decimal.Decimal, GridNumbers.IsDecimal}
use Rattle.loc_wkt.proofs.DigitLemmas.{last_digit, no_digits, not_none}
use Rattle.loc_wkt.proofs.FirstSymbol.{nothing_after}

-- the digits of a number text
exponent_digits : (text : List ℕ) (b : Bool) → list_any is_exponent_mark text ≡ b → (not b || are_digits (unsigned (after_first is_exponent_mark text))) ≡ true
    → list_all is_ascii_digit (unsigned (after_first is_exponent_mark text)) ≡ true
exponent_digits text true e h = (and_parts _ (list_all is_ascii_digit (unsigned (after_first is_exponent_mark text))) h).1
exponent_digits text false e h = ap (λ t. list_all is_ascii_digit (unsigned t)) (nothing_after is_exponent_mark text e)

-- the parts of a number text are digits
pub record AreDigits (text : List ℕ) : Type 0 where
  pub whole : list_all is_ascii_digit (whole_digits text) ≡ true
  pub fraction : list_all is_ascii_digit (fraction_digits text) ≡ true
  pub exponent : list_all is_ascii_digit (unsigned (exponent text)) ≡ true

pub number_digits : (text : List ℕ) → is_number text ≡ true → AreDigits text
number_digits text h =
    let parts = and_parts (are_digits (whole_digits text ++ fraction_digits text)) _ h in
    let ds = and_parts (list_all is_ascii_digit (whole_digits text)) (list_all is_ascii_digit (fraction_digits text))
    (sym (list_all-append is_ascii_digit (whole_digits text) (fraction_digits text)) ∙ (and_parts _ (list_all is_ascii_digit (whole_digits text ++ fraction_digits text)) parts.0).1) in
    record { whole = ds.0; fraction = ds.1; exponent = exponent_digits (unsigned text) (has_exponent text) refl parts.1 }

-- they are no longer than the text
parted-le : (p : ℕ → Bool) (xs : List ℕ) → length (before_first p xs) + length (after_first p xs) ≤ length xs
parted-le p xs = omega (arith, length-take (position_or_len p xs) xs, length-drop (position_or_len p xs + 1) xs)

unsigned-le : (text : List ℕ) → length (unsigned text) ≤ length text
unsigned-le [] = omega arith
unsigned-le (b ∷ text) = go (is_sign b)
  where
    go : (t : Bool) → length (if t then text else b ∷ text) ≤ length (b ∷ text)
    go true = omega arith
    go false = omega arith

pub digits_short : (text : List ℕ) → length (whole_digits text) + length (fraction_digits text) ≤ length text
digits_short text = let u = unsigned-le text in
    let m = parted-le is_exponent_mark (unsigned text) in
    let w = parted-le is_point (before_first is_exponent_mark (unsigned text)) in
    omega (arith, u, m, w)

-- an exponent raises or lowers
one_way : (text : List ℕ) → (raised text ≡ 0) ⊎ (lowered text ≡ 0)
one_way text = go (is_negative (exponent text)) (digits_value 10 (unsigned (exponent text)))
  where
    go : (b : Bool) (n : ℕ) → ((if b then 0 else n) ≡ 0) ⊎ ((if b then n else 0) ≡ 0)
    go true n = inl refl
    go false n = inr refl

-- What is kept of an exponent decides, since there are fewer digits than it counts: over plain numbers.
module _ (R L r l z f s : ℕ) (raises : r ≡ min R (2 ^ 66)) (lowers : l ≡ min L (2 ^ 66)) (zeros : z < 2 ^ 64) (places : f < 2 ^ 64) (scale : s ≤ 15) where
  below : (R ≡ 0) ⊎ (L ≡ 0) → (z + r) + s < l + f → (R + s) + z < L + f
  below (inl h) k = omega (arith, raises, lowers, zeros, places, scale, h, k)
  below (inr h) k = omega (arith, raises, lowers, zeros, places, scale, h, k)

  above : (R ≡ 0) ⊎ (L ≡ 0) → l + f ≤ (z + r) + s → (R + s) + z ≡ (L + f) + (((R + s) + z) - (L + f))
  above (inl h) k = omega (arith, raises, lowers, zeros, places, scale, h, k)
  above (inr h) k = omega (arith, raises, lowers, zeros, places, scale, h, k)

  near : (R ≡ 0) ⊎ (L ≡ 0) → l + f ≤ (z + r) + s → ((z + r) + s) - (l + f) ≤ 18 → (R + s) + z ≡ (L + f) + (((z + r) + s) - (l + f))
  near (inl h) k m = omega (arith, raises, lowers, zeros, places, scale, h, k, m)
  near (inr h) k m = omega (arith, raises, lowers, zeros, places, scale, h, k, m)

  far : (R ≡ 0) ⊎ (L ≡ 0) → l + f ≤ (z + r) + s → 18 < ((z + r) + s) - (l + f) → 19 ≤ ((R + s) + z) - (L + f)
  far (inl h) k m = omega (arith, raises, lowers, zeros, places, scale, h, k, m)
  far (inr h) k m = omega (arith, raises, lowers, zeros, places, scale, h, k, m)

-- the places that the digits are moved up, and those that they are moved down
abbrev up : ℕ → Decimal → ℕ
up scale d = (d.digits.zeros + d.raised) + scale

abbrev down : Decimal → ℕ
down d = d.lowered + d.fraction

long_past : (m g : ℕ) → 10 ^ 19 ≤ m → 10 ^ 18 < m * 10 ^ g
long_past m g h = let more : m * 1 ≤ m * 10 ^ g = mul-le-mul_left m (ten_pos g) in omega (arith, h, more)

signed_zero : (b : Bool) → pos 0 ≡ (if b then neg_ℤ (pos 0) else pos 0)
signed_zero true = refl
signed_zero false = refl

module _ (scale : ℕ) (text : List ℕ) (d : Decimal) (kept : IsDecimal d text) (small : scale ≤ 15) where
  fits : length (fraction_digits text) < 2 ^ 64
  fits = subst (λ n. n < 2 ^ 64) kept.fraction kept.places

  -- zero is on every grid
  pub zero_kept : d.digits.head ≡ 0 → d.digits.long ≡ false → (is_on_grid scale text ≡ true) × (is_in_range scale text ≡ true) × (pos 0 ≡ grid_value scale text)
  zero_kept h short = let p = zero_on_grid scale text (no_digits d.digits (significand text) kept.digits h short) in
      (p.0, ap (λ n. nat_le n (10 ^ 18)) p.1, signed_zero (is_negative text) ∙ ap (λ m. if is_negative text then neg_ℤ (pos m) else pos m) (sym p.1))

  -- a digit that is not 0 below the grid
  pub off_kept : ((d.digits.head ≡ 0) × (d.digits.long ≡ false) → ⊥) → up scale d < down d → is_on_grid scale text ≡ false
  off_kept some h = off_grid scale text kept.digits.m d.digits.zeros kept.digits.value (last_digit d.digits (significand text) kept.digits some)
      (below (raised text) (lowered text) d.raised d.lowered d.digits.zeros (length (fraction_digits text)) scale kept.raises kept.lowers kept.zeros fits small (one_way text)
      (subst (λ n. up scale d < d.lowered + n) kept.fraction h))

  -- 19 places or more on the grid
  pub far_kept : ((d.digits.head ≡ 0) × (d.digits.long ≡ false) → ⊥) → down d ≤ up scale d → 18 < up scale d - down d → (is_on_grid scale text ≡ true) × (is_in_range scale text ≡ false)
  far_kept some h more = let h' = subst (λ n. d.lowered + n ≤ up scale d) kept.fraction h in
      let more' = subst (λ n. 18 < up scale d - (d.lowered + n)) kept.fraction more in
      out_of_range scale text kept.digits.m d.digits.zeros (((raised text + scale) + d.digits.zeros) - (lowered text + length (fraction_digits text))) kept.digits.value
      (above (raised text) (lowered text) d.raised d.lowered d.digits.zeros (length (fraction_digits text)) scale kept.raises kept.lowers kept.zeros fits small (one_way text) h')
      (not_none kept.digits.m (last_digit d.digits (significand text) kept.digits some))
      (far (raised text) (lowered text) d.raised d.lowered d.digits.zeros (length (fraction_digits text)) scale kept.raises kept.lowers kept.zeros fits small (one_way text) h' more')

  -- a head of 20 digits or more on the grid
  pub long_kept : down d ≤ up scale d → d.digits.long ≡ true → (is_on_grid scale text ≡ true) × (is_in_range scale text ≡ false)
  long_kept h long = let h' = subst (λ n. d.lowered + n ≤ up scale d) kept.fraction h in
      let g : ℕ = ((raised text + scale) + d.digits.zeros) - (lowered text + length (fraction_digits text)) in
      let big = rw long at kept.digits.size in
      let p = on_grid scale text kept.digits.m d.digits.zeros g kept.digits.value
      (above (raised text) (lowered text) d.raised d.lowered d.digits.zeros (length (fraction_digits text)) scale kept.raises kept.lowers kept.zeros fits small (one_way text) h') in
      (p.0, ap (λ n. nat_le n (10 ^ 18)) p.1 ∙ lt-leb (kept.digits.m * 10 ^ g) (10 ^ 18) (long_past kept.digits.m g big))

  -- a head that is kept, moved up by few places
  pub near_kept : down d ≤ up scale d → d.digits.long ≡ false → up scale d - down d ≤ 18 → (is_on_grid scale text ≡ true) × (magnitude scale text ≡ d.digits.head * 10 ^ (up scale d - down d))
  near_kept h short few = let h' = subst (λ n. d.lowered + n ≤ up scale d) kept.fraction h in
      let few' = subst (λ n. up scale d - (d.lowered + n) ≤ 18) kept.fraction few in
      let head = rw short at kept.digits.size in
      let p = on_grid scale text kept.digits.m d.digits.zeros (up scale d - (d.lowered + length (fraction_digits text))) kept.digits.value
      (near (raised text) (lowered text) d.raised d.lowered d.digits.zeros (length (fraction_digits text)) scale kept.raises kept.lowers kept.zeros fits small (one_way text) h' few') in
      (p.0, p.1 ∙ ap₂ (λ a n. a * 10 ^ (up scale d - (d.lowered + n))) head.0 (sym kept.fraction))
