-- Edges between points of a list. The words: `has_ends`, `ends_by_number`.
use Rattle.std.specs.Prelude.{ℕ, Bool, ◌&&◌, List}
use Rattle.std.specs.List.{list_any}
use Rattle.loc_spec_plane.specs.{Points.Point, Points.Edge, Points.same_point, Tables.number_of}

-- both ends of the edge are among the points
abbrev pub has_ends : List Point → Edge → Bool
has_ends points e = list_any (same_point e.lo) points && list_any (same_point e.hi) points

-- the numbers of its ends there
abbrev pub ends_by_number : List Point → Edge → ℕ × ℕ
ends_by_number points e = (number_of points e.lo, number_of points e.hi)
