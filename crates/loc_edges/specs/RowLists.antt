-- Rows that lie one behind another in one list. The words: `start_of`, `row_at`, `rows_of`, `AreStarts`.
use Rattle.std.specs.Prelude.{ℕ, ◌+◌, ◌≤◌, List, length, map, slice_index_or}
use Rattle.std.specs.List.{between}
use Rattle.loc_spec_plane.specs.Lists.{numbers}

-- where row n starts, and where the row before it ends
abbrev pub start_of : {X : Type 0} → List X → List ℕ → ℕ → ℕ
start_of items starts n = slice_index_or starts n (length items)

-- the items of row n
abbrev pub row_at : {X : Type 0} → List X → List ℕ → ℕ → List X
row_at items starts n = between (start_of items starts n) (start_of items starts (n + 1)) items

-- all rows
abbrev pub rows_of : {X : Type 0} → List X → List ℕ → List (List X)
rows_of items starts = map (row_at items starts) (numbers (length starts))

-- no row ends before it starts, and none starts behind the list
pub record AreStarts {X : Type 0} (items : List X) (starts : List ℕ) : Type 0 where
  pub in_order : (n : ℕ) → start_of items starts n ≤ start_of items starts (n + 1)
  pub within : (n : ℕ) → start_of items starts n ≤ length items
