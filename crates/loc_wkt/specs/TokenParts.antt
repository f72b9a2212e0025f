-- What completes a number of which a part has been read. The words: `mantissa`, `digits`, `exponent_is_right`, `completes`.
use Rattle.std.specs.Prelude.{ℕ, Bool, not, ◌&&◌, ◌||◌, List, ◌++◌}
use Rattle.std.specs.Char.{is_ascii_digit}
use Rattle.std.specs.List.{before_first, after_first, list_all, list_any}
use Rattle.loc_spec_text.specs.Number.{are_digits, is_exponent_mark, is_number, is_point, unsigned}
use Rattle.loc_wkt.specs.declared.tokens.lengths.Part.{Part}
use Rattle.loc_wkt.specs.declared.tokens.lengths.Part.TheVariants.{Start, Sign, Whole, Point, Fraction, Mark, ExponentSign, Exponent}

-- the text before its exponent
abbrev pub mantissa : List ℕ → List ℕ
mantissa text = before_first is_exponent_mark text

-- its digits without the point
abbrev pub digits : List ℕ → List ℕ
digits text = before_first is_point (mantissa text) ++ after_first is_point (mantissa text)

-- there is no exponent, or it is a sign or none, and digits
abbrev pub exponent_is_right : List ℕ → Bool
exponent_is_right text = not (list_any is_exponent_mark text) || are_digits (unsigned (after_first is_exponent_mark text))

-- Whether a text completes a number behind this part: with nothing read it is a number, behind a sign or the first digits a point
-- may follow, and behind the point or the exponent's mark none.
abbrev pub completes : Part → List ℕ → Bool
completes Start text = is_number text
completes Sign text = are_digits (digits text) && exponent_is_right text
completes Whole text = list_all is_ascii_digit (digits text) && exponent_is_right text
completes Point text = are_digits (mantissa text) && exponent_is_right text
completes Fraction text = list_all is_ascii_digit (mantissa text) && exponent_is_right text
completes Mark text = are_digits (unsigned text)
completes ExponentSign text = are_digits text
completes Exponent text = list_all is_ascii_digit text
