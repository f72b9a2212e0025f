-- How large a table may be: `IsSmallTable`.
use Rattle.std.specs.Prelude.{◌≤◌, length}
use Rattle.loc_spec_text.specs.Limits.{most_pieces, most_points}
use Rattle.loc_spec_plane.specs.Tables.{Table}

-- at most 2^20 corners and 2^21 edges
pub record IsSmallTable (t : Table) : Type 0 where
  pub few_corners : length t.corners ≤ most_points
  pub few_edges : length t.ends ≤ most_pieces
