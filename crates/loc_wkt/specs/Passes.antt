-- What is kept while a geometry text is read: which values stand, how many numbers and rings have come, and their first faults. The words: `has_two`,
-- `first_two`, `value_or_zero`, `point_or_zero`, `counted`, `after_number`, `after_point`, `with_values`, `after_ring`, `after_polygon`, `HasRoom`,
-- `nothing_read`, `outcome`, `IsTreeRead`.
use Rattle.std.specs.Prelude.{◌≡◌, ℕ, ◌+◌, ◌<◌, ◌≤◌, ◌^◌, length, Bool, true, false, List, [], ◌∷◌, ◌++◌, map, if◌then◌else◌, ℤ, pos, Option, Some, None, option_map, is_none, Result, Err}
use Rattle.std.specs.List.{fold}
use Rattle.loc_spec_plane.specs.Points.{Point, point_at}
use Rattle.loc_spec_text.specs.{declared.TextFault.TextFault, declared.TextFault.TheVariants.Dimension}
use Rattle.loc_spec_text.specs.{Bytes.ok_unless, Bytes.or_else, Number.grid_value, Points.is_grid_number}
use Rattle.loc_spec_text.specs.Geometry.{Polygon, PointText, Ring, WidePoint, two, three, four}
use Rattle.loc_spec_text.specs.Reading.{Polygons, all_rings, number_fault, ring_fault}
use Rattle.loc_rings.specs.Values.{with_ring}
use Rattle.loc_wkt.specs.{declared.values.Counter.Counter, declared.values.Values.Values}

-- the point has two numbers
abbrev pub has_two : WidePoint → Bool
has_two (two x y) = true
has_two _ = false

-- its first two numbers
abbrev pub first_two : WidePoint → PointText
first_two (two x y) = (x, y)
first_two (three x y z) = (x, y)
first_two (four x y z m) = (x, y)

-- the grid value of a number text, and 0 where it has none in range
abbrev pub value_or_zero : ℕ → List ℕ → ℤ
value_or_zero scale text = if is_grid_number scale text then grid_value scale text else pos 0

-- the point of the first two numbers
abbrev pub point_or_zero : ℕ → WidePoint → Point
point_or_zero scale p = point_at (value_or_zero scale (first_two p).0) (value_or_zero scale (first_two p).1)

-- one more is counted, and its fault is kept where it is the first
unfoldable pub counted : Counter → Option (ℕ → TextFault) → Counter
counted c kind = record { count = c.count + 1; fault = or_else c.fault (option_map (λ f. f (c.count + 1)) kind) }

-- a number has been read
abbrev pub after_number : Values → List ℕ → Values
after_number v text = record v { numbers = counted v.numbers (number_fault v.scale text) }

-- a point has been read
unfoldable pub after_point : Values → WidePoint → Values
after_point v p = record (after_number (after_number v (first_two p).0) (first_two p).1) { is_wide = if has_two p then v.is_wide else true }

-- the values of a ring have been read
abbrev pub with_values : Values → Ring Point → Values
with_values v ring = record v { rings = counted v.rings (ring_fault ring); built = if is_none (ring_fault ring) then with_ring v.built ring else v.built }

-- a ring has been read
unfoldable pub after_ring : Values → Ring WidePoint → Values
after_ring v ring = with_values (fold after_point v ring) (map (point_or_zero v.scale) ring)

-- a polygon has been read
unfoldable pub after_polygon : Values → Polygon WidePoint → Values
after_polygon v rings = fold after_ring (record v { built = v.built ++ [] ∷ [] }) rings

-- There is room for all that a text can give.
pub record HasRoom (v : Values) (text : List ℕ) : Type 0 where
  pub scale : v.scale ≤ 15
  pub numbers : v.numbers.count + length text < 2 ^ 28
  pub rings : v.rings.count + length text < 2 ^ 28
  pub kept : length (all_rings v.built) ≤ v.rings.count
  pub polygons : length v.built + length text < 2 ^ 28

-- nothing has been read
abbrev pub nothing_read : ℕ → Values
nothing_read scale = record { scale = scale; numbers = record { count = 0; fault = None }; rings = record { count = 0; fault = None }; is_wide = false; built = [] }

-- What a text reads as whose tree has been read.
abbrev pub outcome : Values → Result Polygons TextFault
outcome v = if v.is_wide then Err Dimension else ok_unless (or_else v.numbers.fault v.rings.fault) v.built

-- Some tree has been read of a text, and its values are kept.
pub record IsTreeRead (read : Option (List (Polygon WidePoint))) (before after : Values) : Type 0 where
  pub tree : List (Polygon WidePoint)
  pub gives : read ≡ Some tree
  pub values : after ≡ fold after_polygon before tree
