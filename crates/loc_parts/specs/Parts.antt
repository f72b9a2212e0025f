-- A layer in parts, each of which is accepted, and what is left. The words:
--   no_rings           a feature that has no rings
--   features_with      the features of a layer with these numbers
--   AreNumbersOf       the numbers are of features of the layer
--   IsPartOf           a part has its numbers, and the plane of its features
--   IsLeftOf           what is left has its numbers, and the boxes of its features
--   part_numbers, left_numbers, numbers_in  the numbers of each part, of all that is left, and of both
--   IsRestOf           what is in no part yet has its numbers, and its features
--   IsPartedBut        every feature of a layer is in a part, left, or in no part yet
--   IsParted           every feature of a layer is in a part or left
use Rattle.std.specs.Prelude.{◌≡◌, ◌≤◌, ◌^◌, ◌||◌, ℕ, List, [], ◌++◌, All, IsTrue, length, map, get_or, nat_lt, sum_by, ◌+◌}
use Rattle.std.specs.List.{list_all, list_any}
use Rattle.loc_spec_plane.specs.Lists.{is_in, is_rising, numbers}
use Rattle.loc_rings.specs.Values.{Feature}
use Rattle.loc_edges.specs.Layers.{layer_rings}
use Rattle.loc_sweep.specs.Swept.{IsSwept}
use Rattle.loc_treeidx.specs.Meaning.{meaning_of}
use Rattle.loc_maps.specs.Maps.{IsMapOf}
use Rattle.loc_spans.specs.Boxes.{IsBoxed}
use Rattle.loc_parts.specs.{declared.parts.Left.Left, declared.parts.Part.Part, declared.parts.Parted.Parted}

-- a feature without an id that has no rings
abbrev pub no_rings : Feature
no_rings = record { id = []; polygons = [] }

-- the features of a layer with these numbers, in the order of the numbers
abbrev pub features_with : List ℕ → List Feature → List Feature
features_with ns layer = map (λ n. get_or layer n no_rings) ns

-- the numbers rise, and are of features of the layer
pub record AreNumbersOf (layer : List Feature) (ns : List ℕ) : Type 0 where
  pub rise : IsTrue (is_rising nat_lt ns)
  pub of_layer : IsTrue (list_all (λ n. nat_lt n (length layer)) ns)

-- a part has numbers of the layer, and the plane of the features with these numbers, which is swept
pub record IsPartOf (layer : List Feature) (part : Part) : Type 0 where
  pub numbers : AreNumbersOf layer part.numbers.items
  pub map : IsMapOf (features_with part.numbers.items layer) part.plane.table part.plane.legend
  pub swept : IsSwept part.plane.table (meaning_of part.plane.tree)

-- what is left has numbers of the layer, and boxes about the features with these numbers
pub record IsLeftOf (layer : List Feature) (left : Left) : Type 0 where
  pub numbers : AreNumbersOf layer left.numbers.items
  pub boxed : IsBoxed (layer_rings (features_with left.numbers.items layer)) left.boxed

-- the numbers of each part
abbrev pub part_numbers : List Part → List (List ℕ)
part_numbers parts = map (λ (part : Part). part.numbers.items) parts

-- the numbers of each list that is left
abbrev pub left_numbers : List Left → List (List ℕ)
left_numbers left = map (λ (rest : Left). rest.numbers.items) left

-- all of them
abbrev pub numbers_in : List Part → List Left → List (List ℕ)
numbers_in parts left = part_numbers parts ++ left_numbers left

-- what is in no part yet has numbers of the layer, and the features with these numbers
pub record IsRestOf (layer : List Feature) (ns : List ℕ) (features : List Feature) : Type 0 where
  pub numbers : AreNumbersOf layer ns
  pub are : features ≡ features_with ns layer

-- every feature of the layer is in a part, left, or has a number of these lists, and there are no others; each stands in one list, once, so that whatever is summed over
-- the numbers of all lists is what the layer has
pub record IsPartedBut (layer : List Feature) (rests : List (List ℕ)) (parts : List Part) (left : List Left) : Type 0 where
  pub parts_are : All (IsPartOf layer) parts
  pub left_are : All (IsLeftOf layer) left
  pub all : (n : ℕ) → (list_any (is_in n) (numbers_in parts left) || list_any (is_in n) rests) ≡ nat_lt n (length layer)
  pub once : (f : ℕ → ℕ) → sum_by (sum_by f) (numbers_in parts left) + sum_by (sum_by f) rests ≡ sum_by f (numbers (length layer))

-- at most 2^18 features, and at most sixteen parts; every feature of the layer is in a part or left, and these have no others; each stands in one list, once
pub record IsParted (layer : List Feature) (parted : Parted) : Type 0 where
  pub few_features : length layer ≤ 2 ^ 18
  pub few : length parted.parts.items ≤ 16
  pub parts : All (IsPartOf layer) parted.parts.items
  pub left : All (IsLeftOf layer) parted.left.items
  pub all : (n : ℕ) → list_any (is_in n) (numbers_in parted.parts.items parted.left.items) ≡ nat_lt n (length layer)
  pub once : (f : ℕ → ℕ) → sum_by (sum_by f) (numbers_in parted.parts.items parted.left.items) ≡ sum_by f (numbers (length layer))
