-- Which groups keep an edge, by counts of members. The words:
--   odd_features       the features of the odd marks
--   changes            a group is covered on exactly one side, by how many members are over the edge, how many have an odd mark, and how many both
--   IsCrossing         the rows of an edge are those of its odd marks
--   keeps, GainsKept   a group keeps the edge, by these rows; such groups get the edge behind them
--   AreKeptTo          the kept edges of each group among the first edges
use Rattle.std.specs.Prelude.{◌≡◌, ℕ, ◌+◌, ◌<◌, Bool, ◌&&◌, List, [], ◌∷◌, ◌++◌, map, filter, count_by, All, nat_lt, ◌==◌, if◌then◌else◌}
use Rattle.loc_spec_plane.specs.{declared.Mark.Mark, Tables.Table}
use Rattle.loc_spec_plane.specs.Lists.{exactly_one, is_in, numbers, IsRisingListOf}
use Rattle.loc_spec_groups.specs.Groups.{is_kept}
use Rattle.loc_edges.specs.Ending.{row_of}
use Rattle.loc_dissolve.specs.{Grouping.IsGroupRow, Grouping.in_group, declared.crossing.Crossing.Crossing}

-- the features of the odd marks, in order
abbrev pub odd_features : List Mark → List ℕ
odd_features marks = map (λ (m : Mark). m.feature) (filter (λ (m : Mark). m.odd) marks)

-- over: how many members are in the list above; odd: how many have an odd mark; inside: how many are in the list and have one. Below are those that are in exactly one
abbrev pub changes : ℕ → ℕ → ℕ → Bool
changes over odd inside = exactly_one (nat_lt 0 over) (nat_lt (inside + inside) (over + odd))

-- the groups of the features with an odd mark, of those of them that are in the list above, and the groups of the first each once
pub record IsCrossing (groups above : List ℕ) (marks : List Mark) (crossing : Crossing) : Type 0 where
  pub odd : IsGroupRow groups (odd_features marks) crossing.odd_groups.items
  pub inside : IsGroupRow groups (filter (λ f. is_in f above) (odd_features marks)) crossing.inside_groups.items
  pub distinct : IsRisingListOf nat_lt (λ g. is_in g crossing.odd_groups.items) crossing.groups.items

-- group g has an odd mark on the edge, and is covered on exactly one side
abbrev pub keeps : Crossing → List ℕ → ℕ → Bool
keeps crossing above g = is_in g crossing.groups.items && changes (count_by (λ h. h == g) above) (count_by (λ h. h == g) crossing.odd_groups.items) (count_by (λ h. h == g) crossing.inside_groups.items)

-- each group that passes gets the edge behind it, and no other gets any
abbrev pub GainsKept : (ℕ → Bool) → ℕ → List (ℕ × ℕ) → List (ℕ × ℕ) → Type 0
GainsKept test edge old new = (g : ℕ) → row_of new g ≡ row_of old g ++ (if test g then edge ∷ [] else [])

-- behind each group stand those of the first n edges that it keeps
pub record AreKeptTo (t : Table) (groups : List ℕ) (count n : ℕ) (pairs : List (ℕ × ℕ)) : Type 0 where
  pub within : All (λ (pair : ℕ × ℕ). pair.0 < count) pairs
  pub rows : (g : ℕ) → row_of pairs g ≡ filter (is_kept t (in_group groups g)) (numbers n)
