-- Boxes about the features of a layer. The words:
--   Kept            a box: the edge from its first moment to its last, its lowest and its highest point, and its feature
--   rings_at        the rings of the feature of a box
--   IsBoxOf         a box is about all segments of its feature
--   has_segments    a feature has a segment
--   BoxedState, IsBoxed  what is kept of the features of a layer
--   IsIdle, IsNear  boxes of a range whose features neither touch nor cover a point, and a box before which, from a place on, all are so
--   holds_point     a box holds a point
use Rattle.std.specs.Prelude.{◌≡◌, ℕ, ◌<◌, ◌≤◌, Bool, true, false, ◌&&◌, int_le, List, [], length, map, filter, get_or, slice_index_or, All, Option, Some, None}
use Rattle.std.specs.{List.list_all, List.Sorted.IsPermutation}
use Rattle.loc_spec_text.specs.Limits.{most_features}
use Rattle.loc_spec_plane.specs.{Lists.numbers, Points.Point, Points.Edge}
use Rattle.loc_spec_plane.specs.Rings.{Rings, segments, touches, covers}
use Rattle.loc_laws_any.specs.{Boxes.is_boxed, Moments.AreClosed, Moments.at_moment}
use Rattle.loc_spans.specs.{Around.is_some, declared.boxes.Extent.Extent}

-- the edge from the first moment to the last, and a lowest and a highest point and the feature
abbrev pub Kept : Type 0
Kept = Edge × Extent

-- the number of the feature of a box
abbrev pub feature_of : Kept → ℕ
feature_of box = box.1.feature

-- the rings of the feature of a box
abbrev pub rings_at : List Rings → Kept → Rings
rings_at layer box = get_or layer (feature_of box) []

-- the box is of a feature of the layer, and about all its segments
abbrev pub IsBoxOf : List Rings → Kept → Type 0
IsBoxOf layer box = (feature_of box < length layer) × (list_all (is_boxed box.0.lo box.0.hi box.1.low.y box.1.high.y) (segments (rings_at layer box)) ≡ true)

-- a feature has a segment
abbrev pub has_segments : List Rings → ℕ → Bool
has_segments layer f = is_some (segments (get_or layer f []))

-- what is seen of the features of a layer: the boxes of those that have segments, and the segments of each
pub record BoxedState : Type 0 where
  pub boxes : List Kept
  pub segments : List (List Edge)

-- of the first features of a layer the rings are closed, and the segments are kept in some order
pub record AreKept (layer : List Rings) (kept : List (List Edge)) (count : ℕ) : Type 0 where
  pub many : length kept ≡ count
  pub closed : (f : ℕ) → f < count → AreClosed (get_or layer f [])
  pub moved : (f : ℕ) → f < count → IsPermutation (segments (get_or layer f [])) (get_or kept f [])

-- the boxes are of the first features that have segments, in order
pub record AreBoxes (layer : List Rings) (boxes : List Kept) (count : ℕ) : Type 0 where
  pub each : All (IsBoxOf layer) boxes
  pub named : map feature_of boxes ≡ filter (has_segments layer) (numbers count)

-- what is kept is of the features of the layer; the boxes stand in some order
pub record IsBoxed (layer : List Rings) (b : BoxedState) : Type 0 where
  pub few : length layer ≤ most_features
  pub kept : AreKept layer b.segments (length layer)
  pub each : All (IsBoxOf layer) b.boxes
  pub named : IsPermutation (filter (has_segments layer) (numbers (length layer))) (map feature_of b.boxes)

-- the features of the boxes from one place up to another neither touch nor cover the point
abbrev pub IsIdle : List Rings → List Kept → Point → ℕ → ℕ → Type 0
IsIdle layer boxes p from to = (k : ℕ) (d : Kept) → from ≤ k → k < to → k < length boxes → (touches (rings_at layer (slice_index_or boxes k d)) p ≡ false) × (covers (rings_at layer (slice_index_or boxes k d)) p ≡ false)

-- a box, before which from a place on no feature touches or covers the point; None where none does
abbrev pub IsNear : List Rings → List Kept → Point → ℕ → Option ℕ → Type 0
IsNear layer boxes p from None = IsIdle layer boxes p from (length boxes)
IsNear layer boxes p from (Some k) = (from ≤ k) × (k < length boxes) × IsIdle layer boxes p from k

-- the point is of the moments of the box, and between its heights
abbrev pub holds_point : Kept → Point → Bool
holds_point box p = at_moment box.0 p && (int_le box.1.low.y p.y && int_le p.y box.1.high.y)
