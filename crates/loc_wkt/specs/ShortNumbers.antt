-- Digits with at most one point, at the front of a text. The words: `IsFront`.
use Rattle.std.specs.Prelude.{◌≡◌, ◌⊎◌, ℕ, ◌≤◌, ◌<◌, true, List, [], ◌∷◌, ◌++◌, length, take}
use Rattle.std.specs.{Char.is_ascii_digit, List.list_all, Str.byte, Str.Parse.digits_value}
use Rattle.loc_wkt.specs.declared.grid_numbers.short.Front.{Front}

-- The bytes at the front are some digits, and maybe a point and further digits.
pub record IsFront (front : Front) (text : List ℕ) : Type 0 where
  pub whole : List ℕ
  pub fraction : List ℕ
  pub cut : (take front.length text ≡ whole ++ byte "." ∷ fraction) ⊎ ((take front.length text ≡ whole) × (fraction ≡ []))
  pub some : 0 < length whole
  pub all : list_all is_ascii_digit (whole ++ fraction) ≡ true
  pub digits : front.digits ≡ digits_value 10 (whole ++ fraction)
  pub places : front.fraction ≡ length fraction
  pub within : front.length ≤ length text
