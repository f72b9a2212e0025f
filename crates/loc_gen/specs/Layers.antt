-- Generated layers (this product's own): the rectangles of a kind, a size and a shift, their text, and the points that are asked. The words:
--   limit_of                        the greatest size of a kind
--   feature_count                   how many features a layer has
--   start_of                        where a shift begins: it goes round at 65536
--   rectangle, square, nested, strip_left, strip  rectangles
--   features                        the rectangles of a layer in order
--   corner_text, feature_text, layer_text  a corner, the line of a feature and a whole layer in print
--   point_number                    the point with a number
use Rattle.std.specs.Prelude.{ℕ, ◌+◌, ◌-◌, ◌*◌, ◌%◌, List, ◌++◌, map, codes, pos}
use Rattle.std.specs.{Fmt.decimal, List.flat_map}
use Rattle.loc_spec_plane.specs.{Lists.numbers, Points.Point, Points.point_at}
use Rattle.loc_gen.specs.declared.kinds.Kind.{Kind}
use Rattle.loc_gen.specs.declared.kinds.Kind.TheVariants.{Grid, Nest, Strips}
use Rattle.loc_gen.specs.declared.features.Rectangle.{Rectangle}

-- the greatest size of a kind
abbrev pub limit_of : Kind → ℕ
limit_of Grid = 256
limit_of Nest = 4096
limit_of Strips = 131072

-- how many features a layer of size n has
abbrev pub feature_count : Kind → ℕ → ℕ
feature_count Grid n = n * n
feature_count Nest n = n
feature_count Strips n = n

-- where a shift begins: it goes round at 65536
abbrev pub start_of : ℕ → ℕ
start_of shift = shift % 65536

-- the rectangle from its lower left corner (a c) to its upper right one (b d)
abbrev pub rectangle : ℕ → ℕ → ℕ → ℕ → Rectangle
rectangle a c b d = record { left = a; low = c; right = b; high = d }

-- the unit square from (a c)
abbrev pub square : ℕ → ℕ → Rectangle
square a c = rectangle a c (a + 1) (c + 1)

-- square i of a nest of n, from the outside in
abbrev pub nested : ℕ → ℕ → ℕ → Rectangle
nested n start i = rectangle (start + i) i (start + 4 * n - i) (4 * n - i)

-- where strip i begins: strips go round at 65536
abbrev pub strip_left : ℕ → ℕ → ℕ
strip_left start i = (start + i * 40503) % 65536

-- strip i, from below
abbrev pub strip : ℕ → ℕ → Rectangle
strip start i = rectangle (strip_left start i) (2 * i) (strip_left start i + 200000) (2 * i + 1)

-- The features of a layer of size n in order: a grid goes column by column, each from below, a nest inward, and strips upward.
abbrev pub features : Kind → ℕ → ℕ → List Rectangle
features Grid n start = flat_map (λ i. map (λ j. square (start + i) j) (numbers n)) (numbers n)
features Nest n start = map (λ i. nested n start i) (numbers n)
features Strips n start = map (λ i. strip start i) (numbers n)

-- x, a space, y
abbrev pub corner_text : ℕ → ℕ → List ℕ
corner_text x y = decimal x ++ codes " " ++ decimal y

-- a polygon of one ring, from the lower left corner round to the left and back, and LF
abbrev pub feature_text : Rectangle → List ℕ
feature_text r = codes "POLYGON ((" ++ corner_text r.left r.low ++ codes ", " ++ corner_text r.right r.low ++ codes ", " ++ corner_text r.right r.high
    ++ codes ", " ++ corner_text r.left r.high ++ codes ", " ++ corner_text r.left r.low ++ codes "))\n"

-- the features, a line each
abbrev pub layer_text : Kind → ℕ → ℕ → List ℕ
layer_text kind n shift = flat_map feature_text (features kind n (start_of shift))

-- point t of the n that are asked of a layer of size n
abbrev pub point_number : ℕ → ℕ → ℕ → Point
point_number n shift t = point_at (pos (start_of shift + (t * 40503) % (4 * n))) (pos ((t * 25173) % (2 * n)))
