-- The features of a layer and its limits. The words: `point_count`, `layer_points`, `IsLayer`.
use Rattle.std.specs.Prelude.{ℕ, ◌≤◌, List, length, sum_by}
use Rattle.loc_spec_text.specs.Limits.{most_features, most_points}
use Rattle.loc_rings.specs.Values.{Feature, rings_of}

-- the written ring points of a feature: the points of each of its rings, together
abbrev pub point_count : Feature → ℕ
point_count feature = sum_by length (rings_of feature)

-- the written ring points of all features
abbrev pub layer_points : List Feature → ℕ
layer_points features = sum_by point_count features

-- a layer has at most 2^18 features, which have at most 2^20 written ring points together
pub record IsLayer (features : List Feature) : Type 0 where
  pub few_features : length features ≤ most_features
  pub few_points : layer_points features ≤ most_points
