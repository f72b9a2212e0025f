-- The versions of a table: `AreVersions`.
use Rattle.std.specs.Prelude.{◌≡◌, ℕ, ◌<◌, List, [], length, get_or}
use Rattle.loc_spec_plane.specs.{Tables.Table, Places.IsVersion}

-- a list for each corner, in order: the version there (Sarnak and Tarjan 1986)
pub record AreVersions (t : Table) (lists : List (List ℕ)) : Type 0 where
  pub as_many : length lists ≡ length t.corners
  pub are : (i : ℕ) → i < length t.corners → IsVersion t i (get_or lists i [])
