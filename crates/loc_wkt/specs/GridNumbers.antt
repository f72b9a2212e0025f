-- Digits and number texts as they are kept while their place on a grid is decided. The words: `Represents`, `IsDecimal`, `IsGridNumber`, `IsBounded`.
use Rattle.std.specs.Prelude.{◌≡◌, ◌≢◌, ◌⊎◌, ℕ, ◌*◌, ◌%◌, ◌^◌, ◌<◌, ◌≤◌, true, false, List, length, min, MatchBool}
use Rattle.loc_spec_plane.specs.Points.{OnGrid as IsGridValue}
use Rattle.loc_spec_text.specs.Number.{fraction_digits, grid_value, is_in_range, is_on_grid, lowered, raised, significand}
use Rattle.loc_wkt.specs.{declared.grid_numbers.digits.Digits.Digits, declared.grid_numbers.Decimal.Decimal}
use Rattle.loc_wkt.specs.declared.grid_numbers.GridNumber.{GridNumber}
use Rattle.loc_wkt.specs.declared.grid_numbers.GridNumber.TheVariants.{OnGrid, OffGrid, OutOfRange}

-- The digits so far are the number v: m with some zeros behind, where m ends in no zero, and is kept while it is below 10 ^ 19.
pub record Represents (d : Digits) (v : ℕ) : Type 0 where
  pub m : ℕ
  pub value : v ≡ m * 10 ^ d.zeros
  pub last : (m % 10 ≢ 0) ⊎ ((m ≡ 0) × (d.zeros ≡ 0))
  pub size : MatchBool d.long (10 ^ 19 ≤ m) ((m ≡ d.head) × (m < 10 ^ 19))

-- The parts of a number text. It has fewer digits than 2 ^ 64, so that of an exponent 2 ^ 66 decides.
pub record IsDecimal (d : Decimal) (text : List ℕ) : Type 0 where
  pub digits : Represents d.digits (significand text)
  pub zeros : d.digits.zeros < 2 ^ 64
  pub fraction : d.fraction ≡ length (fraction_digits text)
  pub places : d.fraction < 2 ^ 64
  pub raises : d.raised ≡ min (raised text) (2 ^ 66)
  pub lowers : d.lowered ≡ min (lowered text) (2 ^ 66)

-- what a number text is on the grid of a scale
abbrev pub IsGridNumber : ℕ → List ℕ → GridNumber → Type 0
IsGridNumber scale text (OnGrid value) = (is_on_grid scale text ≡ true) × (is_in_range scale text ≡ true) × (value ≡ grid_value scale text)
IsGridNumber scale text OffGrid = is_on_grid scale text ≡ false
IsGridNumber scale text OutOfRange = (is_on_grid scale text ≡ true) × (is_in_range scale text ≡ false)

-- a grid value is at most 10 ^ 18 either way
abbrev pub IsBounded : GridNumber → Type 0
IsBounded (OnGrid value) = IsGridValue value
IsBounded _ = Unit {0}
