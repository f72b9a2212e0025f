-- The features that are named at a point, by their numbers in the layer. The words:
--   noted          a feature more that touches, or that covers
--   number_of      the number in the layer of the feature of a box
--   segment_count  how many segments the feature of a box has
--   NamesAll       two lists name, in the order of the boxes, the features that touch a point and those that cover it
--   segments_at    how many segments a feature of the layer has
--   Names          two lists name the features with these numbers that touch a point, and those that cover it
use Rattle.std.specs.Prelude.{◌≡◌, ℕ, ◌≤◌, Bool, true, false, ◌&&◌, List, [], ◌∷◌, ◌++◌, filter, get_or, length, map, sum_by, take, Option, Some, None}
use Rattle.std.specs.List.{list_any}
use Rattle.loc_spec_plane.specs.{Lists.is_in, Points.Point}
use Rattle.loc_spec_plane.specs.Rings.{Rings, segments, touches, covers}
use Rattle.loc_batch.specs.Lists.{ListsState}
use Rattle.loc_spans.specs.Boxes.{BoxedState, Kept, feature_of, rings_at}

-- a feature that touches the point, one that covers it, or one that does neither
abbrev pub noted : ListsState → ℕ → Option Bool → ListsState
noted l f None = record l { touching = l.touching ++ f ∷ [] }
noted l f (Some true) = record l { covering = l.covering ++ f ∷ [] }
noted l f (Some false) = l

-- the number of the feature of a box, where the boxes are about the features with these numbers
abbrev pub number_of : List ℕ → Kept → ℕ
number_of ns box = get_or ns (feature_of box) 0

-- how many segments are kept of the feature of a box
abbrev pub segment_count : BoxedState → Kept → ℕ
segment_count b box = length (get_or b.segments (feature_of box) [])

-- behind what they named before, the lists name, by these numbers, the features of the first boxes that touch the point, and those that cover it
pub record NamesAll (part : List Rings) (b : BoxedState) (ns : List ℕ) (p : Point) (count : ℕ) (before l : ListsState) : Type 0 where
  pub touching : l.touching ≡ before.touching ++ map (number_of ns) (filter (λ box. touches (rings_at part box) p) (take count b.boxes))
  pub covering : l.covering ≡ before.covering ++ map (number_of ns) (filter (λ box. covers (rings_at part box) p) (take count b.boxes))

-- how many segments a feature of the layer has
abbrev pub segments_at : List Rings → ℕ → ℕ
segments_at layer n = length (segments (get_or layer n []))

-- the lists name the features with a number of these lists that touch the point, and those that cover it, and no more than there are numbers
pub record Names (layer : List Rings) (p : Point) (numbers : List (List ℕ)) (l : ListsState) : Type 0 where
  pub touching : (n : ℕ) → is_in n l.touching ≡ (list_any (is_in n) numbers && touches (get_or layer n []) p)
  pub covering : (n : ℕ) → is_in n l.covering ≡ (list_any (is_in n) numbers && covers (get_or layer n []) p)
  pub few_touching : length l.touching ≤ sum_by length numbers
  pub few_covering : length l.covering ≤ sum_by length numbers
