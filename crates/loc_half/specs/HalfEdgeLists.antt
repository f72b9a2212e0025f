-- The half-edges of a table, as lists. The words:
--   HalfEdgeLists, next_in, leader_in  for each half-edge its next, its leader and its origin
--   AreHalfEdges                       they are those of a table
use Rattle.std.specs.Prelude.{◌≡◌, ℕ, ◌<◌, List, length, get_or}
use Rattle.loc_spec_plane.specs.Tables.{Table}
use Rattle.loc_spec_plane.specs.HalfEdges.{half_edge_count, origin, leader, IsNextOfAll}

-- for each half-edge its next, its leader and the corner that it leaves
pub record HalfEdgeLists : Type 0 where
  pub nexts : List ℕ
  pub leaders : List ℕ
  pub origins : List ℕ

-- the next of a half-edge
abbrev pub next_in : HalfEdgeLists → ℕ → ℕ
next_in half h = get_or half.nexts h 0

-- the leader of its cycle
abbrev pub leader_in : HalfEdgeLists → ℕ → ℕ
leader_in half h = get_or half.leaders h 0

-- each half-edge of the table has its next, its leader and its origin in the lists
pub record AreHalfEdges (t : Table) (half : HalfEdgeLists) : Type 0 where
  pub as_many_nexts : length half.nexts ≡ half_edge_count t
  pub as_many_leaders : length half.leaders ≡ half_edge_count t
  pub as_many_origins : length half.origins ≡ half_edge_count t
  pub nexts : IsNextOfAll t (next_in half)
  pub leaders : (h : ℕ) → h < half_edge_count t → get_or half.leaders h 0 ≡ leader t (next_in half) h
  pub origins : (h : ℕ) → h < half_edge_count t → get_or half.origins h 0 ≡ origin t h
