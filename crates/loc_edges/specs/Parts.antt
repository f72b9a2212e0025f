-- A table by the lists that it is made of: `table_with` rows of marks and sources, and `table_of_parts`, where each mark stands behind the number of its edge.
use Rattle.std.specs.Prelude.{ℕ, ◌<◌, ◌==◌, ◌&&◌, ◌||◌, Bool, pos, slice_index_or, List, length, map, nat_lt}
use Rattle.loc_spec_plane.specs.{declared.Mark.Mark, Points.Point, Points.Edge, Points.point_at, Lists.numbers}
use Rattle.loc_spec_plane.specs.Tables.{Table}
use Rattle.loc_edges.specs.Ending.{row_of}

-- the table with these corners, these pairs of ends, these rows of marks and these sources
abbrev pub table_with : List Point → List (ℕ × ℕ) → List (List Mark) → List (ℕ × ℕ) → Table
table_with corners ends marks sources = record { corners = corners; ends = ends; marks = marks; sources = sources }

-- the edge between two of these corners, by their numbers
abbrev pub edge_of_pair : List Point → ℕ × ℕ → Edge
edge_of_pair corners pair = record { lo = slice_index_or corners pair.0 (point_at (pos 0) (pos 0)); hi = slice_index_or corners pair.1 (point_at (pos 0) (pos 0)) }

-- the pair goes from a lesser number to a greater one, which is below the count
abbrev pub GoesUpBelow : ℕ → ℕ × ℕ → Type 0
GoesUpBelow count pair = (pair.0 < pair.1) × (pair.1 < count)

-- marks behind the numbers of their edges are ordered by the edge, then by the feature
abbrev pub edge_mark_before : ℕ × Mark → ℕ × Mark → Bool
edge_mark_before a b = nat_lt a.0 b.0 || ((a.0 == b.0) && nat_lt a.1.feature b.1.feature)

-- the table with these corners, these pairs of ends and these sources, in which an edge has the marks that stand behind its number
abbrev pub table_of_parts : List Point → List (ℕ × ℕ) → List (ℕ × Mark) → List (ℕ × ℕ) → Table
table_of_parts corners ends marks sources = table_with corners ends (map (row_of marks) (numbers (length ends))) sources
