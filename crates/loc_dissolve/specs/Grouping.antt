-- Groups by number. The words:
--   ids_of                      the ids of a layer's features
--   in_group, AreGroups         a feature has the number of a group; first features and numbers that are those of the ids
--   IsGroupRow, AreMembers      a row of the groups of features, in order; such a row for each list
use Rattle.std.specs.Prelude.{◌≡◌, ℕ, ◌<◌, ◌≤◌, Bool, ◌&&◌, List, [], length, get_or, map, count_by, All, nat_lt, ◌==◌}
use Rattle.std.specs.{List.Sorted.IsSorted, Ordering.nat_cmp}
use Rattle.loc_spec_text.specs.Bytes.{Text}
use Rattle.loc_spec_groups.specs.Groups.{group_names, is_member}
use Rattle.loc_rings.specs.Values.{Feature}

-- the ids of the features, in their order
abbrev pub ids_of : List Feature → List Text
ids_of layer = map (λ (f : Feature). f.id) layer

-- feature f has the number g
abbrev pub in_group : List ℕ → ℕ → ℕ → Bool
in_group groups g f = nat_lt f (length groups) && (get_or groups f 0 == g)

-- the first features have the distinct ids in their order, and each feature has the number of its id
pub record AreGroups (ids : List Text) (firsts groups : List ℕ) : Type 0 where
  pub as_many : length groups ≡ length ids
  pub few : length firsts ≤ length ids
  pub names : map (λ f. get_or ids f []) firsts ≡ group_names ids
  pub firsts_within : All (λ f. f < length ids) firsts
  pub within : All (λ g. g < length firsts) groups
  pub members : (g : ℕ) → g < length firsts → in_group groups g ≡ is_member ids (get_or ids (get_or firsts g 0) [])

-- the row is in order, and each group stands there as often as the features have it
pub record IsGroupRow (groups features row : List ℕ) : Type 0 where
  pub in_order : IsSorted nat_cmp row
  pub counted : (g : ℕ) → count_by (λ h. h == g) row ≡ count_by (λ f. get_or groups f 0 == g) features

-- there is such a row for each list
pub record AreMembers (groups : List ℕ) (lists rows : List (List ℕ)) : Type 0 where
  pub as_many : length rows ≡ length lists
  pub each : (n : ℕ) → n < length lists → IsGroupRow groups (get_or lists n []) (get_or rows n [])
