-- Examples, computed: the grammar and the values of numbers.
use Rattle.std.proofs.Common.{◌≡◌, ℕ, List, [], ◌∷◌, refl, codes, inl, inr, true, false, lit≤}
use Rattle.std.specs.Prelude.{negsuc, pos}
use Rattle.loc_spec_text.specs.Number.{is_number, is_on_grid, is_in_range, grid_value, scaled, unit, magnitude}
use Rattle.loc_spec_text.proofs.NumberLaws.{zero_on_grid, out_of_range, off_grid}
use Rattle.loc_spec_text.specs.Geometry.{IsTree, numbers, PointText, Polygon, wide_numbers, two, three}

-- two numbers as a text of points writes them
at : List ℕ → List ℕ → PointText
at x y = (x, y)

square : List (Polygon PointText)
square = (((codes "0", codes "0") ∷ (codes "4", codes "0") ∷ (codes "4", codes "4") ∷ (codes "0", codes "4") ∷ (codes "0", codes "0") ∷ []) ∷ []) ∷ []

square_text : IsTree numbers (codes "POLYGON ((0 0, 4 0, 4 4, 0 4, 0 0))") square
unfolding square
square_text = record { spelled = inl (_, refl, refl); points = (((λ e. cc), tt), tt) }

-- free white space, any case
spaced_text : IsTree numbers (codes " pOlygon\t(( 0 0,4 0 ,4 4,0\n4,0 0 ) )\r") square
unfolding square
spaced_text = record { spelled = inl (_, refl, refl); points = (((λ e. cc), tt), tt) }

empty_text : IsTree numbers (codes "POLYGON EMPTY") ([] ∷ [])
empty_text = record { spelled = inl ([], refl, refl); points = (tt, tt) }

no_polygon : IsTree numbers (codes "multipolygon empty") []
no_polygon = record { spelled = inr refl; points = tt }

-- a point of three numbers is in the wide grammar
deep_text : IsTree wide_numbers (codes "POLYGON ((0 0, 4 0 1, 4 4, 0 0))") (((two (codes "0") (codes "0") ∷ three (codes "4") (codes "0") (codes "1") ∷ two (codes "4") (codes "4") ∷ two (codes "0") (codes "0") ∷ []) ∷ []) ∷ [])
deep_text = record { spelled = inl (_, refl, refl); points = (((λ e. cc), tt), tt) }

-- which texts are numbers
four_point : is_number (codes "4.") ≡ true
four_point = refl

point_five : is_number (codes ".5") ≡ true
point_five = refl

plus_three : is_number (codes "+3") ≡ true
plus_three = refl

minus_zero : is_number (codes "-0") ≡ true
minus_zero = refl

exponent_number : is_number (codes "1.5e3") ≡ true
exponent_number = refl

no_number : (is_number (codes ".") ≡ false) × (is_number (codes "1e") ≡ false) × (is_number (codes "1.2.3") ≡ false) × (is_number (codes "+-1") ≡ false) × (is_number (codes "") ≡ false) × (is_number (codes "1e+-5") ≡ false) × (is_number (codes "e5") ≡ false)
no_number = (refl, refl, refl, refl, refl, refl, refl)

no_number_either : (is_number (codes "+") ≡ false) × (is_number (codes "-.") ≡ false) × (is_number (codes "1e+") ≡ false) × (is_number (codes "1-2") ≡ false) × (is_number (codes "--1") ≡ false) × (is_number (codes "1e5.0") ≡ false) × (is_number (codes "1e5e5") ≡ false) × (is_number (codes " 1") ≡ false) × (is_number (codes "1 ") ≡ false) × (is_number (codes "1,5") ≡ false) × (is_number (codes "0x10") ≡ false)
no_number_either = (refl, refl, refl, refl, refl, refl, refl, refl, refl, refl, refl)

-- values on a grid
ten_tenths : (is_on_grid 0 (codes "10e-1") ≡ true) × (grid_value 0 (codes "10e-1") ≡ pos 1)
unfolding scaled unit
ten_tenths = (refl, refl)

one_tenth : is_on_grid 0 (codes "1e-1") ≡ false
unfolding scaled unit
one_tenth = refl

minus_half : (is_on_grid 1 (codes "-.5") ≡ true) × (grid_value 1 (codes "-.5") ≡ negsuc 4)
unfolding scaled unit
minus_half = (refl, refl)

thousand : (is_on_grid 15 (codes "1000.000") ≡ true) × (is_in_range 15 (codes "1000.000") ≡ true) × (grid_value 15 (codes "1000.000") ≡ pos 1000000000000000000)
unfolding scaled unit
thousand = (refl, refl, refl)

past_range : (is_on_grid 15 (codes "1000.000000000000001") ≡ true) × (is_in_range 15 (codes "1000.000000000000001") ≡ false)
unfolding scaled unit
past_range = (refl, refl)

twelve_and_a_half : (grid_value 1 (codes "12.50") ≡ pos 125) × (grid_value 1 (codes "1.5e3") ≡ pos 15000) × (is_on_grid 1 (codes "12.55") ≡ false)
unfolding scaled unit
twelve_and_a_half = (refl, refl, refl)

-- exponents of any size, whose power is never formed
zero_high : (is_on_grid 0 (codes "0e99999999999999999999") ≡ true) × (magnitude 0 (codes "0e99999999999999999999") ≡ 0)
zero_high = zero_on_grid 0 (codes "0e99999999999999999999") refl

one_high : (is_on_grid 0 (codes "1e99999999999999999999") ≡ true) × (is_in_range 0 (codes "1e99999999999999999999") ≡ false)
one_high = out_of_range 0 (codes "1e99999999999999999999") 1 0 99999999999999999999 refl refl (lit≤ tt) (lit≤ tt)

one_low : is_on_grid 15 (codes "12e-99999999999999999999") ≡ false
one_low = off_grid 15 (codes "12e-99999999999999999999") 12 0 refl (λ e. cc) (lit≤ tt)
