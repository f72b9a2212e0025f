-- The corners along a way. The words: `WayOrder`, `way_before`, `points_along`, `IsWayOrder`.
use Rattle.std.specs.Prelude.{◌≡◌, ℤ, int_lt, Bool, ◌&&◌, ◌||◌, List, map, All, IsTrue}
use Rattle.std.specs.{Ordering.int_eq, List.Sorted.IsSortedBy}
use Rattle.loc_spec_plane.specs.Points.{Point, Edge, before}
use Rattle.loc_laws_noding.specs.Search.{number_along}

-- an edge, and points behind their numbers along its way
pub record WayOrder : Type 0 where
  pub edge : Edge
  pub order : List (ℤ × Point)

-- points behind numbers are ordered by the number, then by the point
abbrev pub way_before : ℤ × Point → ℤ × Point → Bool
way_before a b = int_lt a.0 b.0 || (int_eq a.0 b.0 && before a.1 b.1)

-- the points alone
abbrev pub points_along : List (ℤ × Point) → List Point
points_along order = map (λ (k : ℤ × Point). k.1) order

-- the edge goes up, and the points stand in order behind their numbers
pub record IsWayOrder (way : WayOrder) : Type 0 where
  pub goes_up : IsTrue (before way.edge.lo way.edge.hi)
  pub numbers : All (λ (k : ℤ × Point). k.0 ≡ number_along way.edge k.1) way.order
  pub sorted : IsSortedBy way_before way.order
