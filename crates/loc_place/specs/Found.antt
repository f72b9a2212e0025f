-- The place of a point, found by a look at every corner and every edge of a table. The words: `is_under`, `higher_of`, `with_edge`, `first_place`,
-- `place_at`.
use Rattle.std.specs.Prelude.{ℕ, Bool, ◌&&◌, Option, Some, None, if◌then◌else◌, find, fold}
use Rattle.loc_spec_plane.specs.declared.Place.{Place}
use Rattle.loc_spec_plane.specs.declared.Place.TheVariants.{Corner, Border, Area}
use Rattle.loc_spec_plane.specs.Points.{Point, is_above}
use Rattle.loc_spec_plane.specs.Tables.{Table, edge, corner_numbers, edge_numbers}
use Rattle.loc_spec_plane.specs.Places.{alive_at, lower_of, is_corner_of, is_border_of}

-- edge e is alive at p and has p above it
abbrev pub is_under : Table → Point → ℕ → Bool
is_under t p e = alive_at t p e && is_above (edge t e) p

-- the higher of two edges, or the second where there is no first
abbrev pub higher_of : Table → Option ℕ → ℕ → ℕ
higher_of t None e = e
higher_of t (Some highest) e = if lower_of t highest e then e else highest

-- the highest so far, with one more edge where it is under p
abbrev pub with_edge : Table → Point → Option ℕ → ℕ → Option ℕ
with_edge t p highest e = if is_under t p e then Some (higher_of t highest e) else highest

-- the corner, else the border, else the area with its floor
abbrev pub first_place : Option ℕ → Option ℕ → Option ℕ → Place
first_place (Some n) border floor = Corner n
first_place None (Some e) floor = Border e
first_place None None floor = Area floor

-- the first corner that p is, else the first edge on which it lies, else the highest of the edges under it
unfoldable pub place_at : Table → Point → Place
place_at t p = first_place (find (is_corner_of t p) (corner_numbers t)) (find (is_border_of t p) (edge_numbers t)) (fold (with_edge t p) None (edge_numbers t))
