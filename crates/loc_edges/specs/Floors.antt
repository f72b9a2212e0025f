-- The floors that a sweep leaves: `FloorLists` and `AreFloors`.
use Rattle.std.specs.Prelude.{◌≡◌, ℕ, ◌<◌, List, length, get_or, Option, None}
use Rattle.loc_spec_plane.specs.{Tables.Table, Tables.corner, Places.IsFloor, Places.IsJustBelow}

-- for each corner its floor, and for each edge the edge just below it at its lower end, or none
pub record FloorLists : Type 0 where
  pub of_corner : List (Option ℕ)
  pub of_edge : List (Option ℕ)

-- the floor of each corner, and the edge just below each edge
pub record AreFloors (t : Table) (floors : FloorLists) : Type 0 where
  pub as_many_corners : length floors.of_corner ≡ length t.corners
  pub as_many_edges : length floors.of_edge ≡ length t.ends
  pub of_corner : (c : ℕ) → c < length t.corners → IsFloor t (corner t c) (get_or floors.of_corner c None)
  pub of_edge : (e : ℕ) → e < length t.ends → IsJustBelow t e (get_or floors.of_edge e None)
