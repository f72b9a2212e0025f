-- A generated layer as the features that its text reads as, and the points that are asked of it, as lines. The words:
--   ring_of, feature_of, generated  a rectangle as a ring and as a feature, and the layer
--   point_line, points_text         a point in print, and the points, a line each
use Rattle.std.specs.Prelude.{ℕ, ◌+◌, ◌*◌, ◌%◌, List, [], ◌∷◌, map, pos}
use Rattle.std.specs.{Fmt.decimal, List.enumerate_from, List.flat_map}
use Rattle.loc_spec_plane.specs.{Lists.numbers, Points.point_at, Rings.Ring}
use Rattle.loc_spec_text.specs.Points.{ended}
use Rattle.loc_rings.specs.Values.{Feature}
use Rattle.loc_gen.specs.{declared.kinds.Kind.Kind, declared.features.Rectangle.Rectangle}
use Rattle.loc_gen.specs.Layers.{corner_text, features, start_of}

-- the corners of a rectangle, from the lower left one round to the left and back
abbrev pub ring_of : Rectangle → Ring
ring_of r = point_at (pos r.left) (pos r.low) ∷ point_at (pos r.right) (pos r.low) ∷ point_at (pos r.right) (pos r.high) ∷ point_at (pos r.left) (pos r.high) ∷ point_at (pos r.left) (pos r.low) ∷ []

-- a rectangle as the feature of its number: one polygon of one ring
abbrev pub feature_of : ℕ × Rectangle → Feature
feature_of numbered = record { id = decimal numbered.0; polygons = (ring_of numbered.1 ∷ []) ∷ [] }

-- the generated layer: its rectangles in order, numbered from 1
abbrev pub generated : Kind → ℕ → ℕ → List Feature
generated kind n shift = map feature_of (enumerate_from 1 (features kind n (start_of shift)))

-- point t of the n that are asked of a layer of size n: x, a space, y
abbrev pub point_line : ℕ → ℕ → ℕ → List ℕ
point_line n shift t = corner_text (start_of shift + (t * 40503) % (4 * n)) ((t * 25173) % (2 * n))

-- the points, a line each
abbrev pub points_text : ℕ → ℕ → List ℕ
points_text n shift = flat_map (λ t. ended (point_line n shift t)) (numbers n)
