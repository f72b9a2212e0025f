-- Where a point stands among the corners of a table: `IsStanding`.
use Rattle.std.specs.Prelude.{◌≡◌, ℕ, ◌<◌, ◌≤◌, length, IsTrue, nat_lt}
use Rattle.loc_spec_plane.specs.{Points.Point, Points.before, Tables.Table, Tables.corner}
use Rattle.loc_spec_plane.specs.Places.{is_corner_of, IsCornerless}
use Rattle.loc_place.specs.declared.corners.Standing.{Standing}
use Rattle.loc_place.specs.declared.corners.Standing.TheVariants.{OnCorner, Behind}

-- p is no corner, and exactly the first n corners come before it
pub record IsBehind (t : Table) (p : Point) (n : ℕ) : Type 0 where
  pub cornerless : IsCornerless t p
  pub within : n ≤ length t.corners
  pub passed : (c : ℕ) → c < length t.corners → before (corner t c) p ≡ nat_lt c n

-- p is a corner, or stands behind the first n corners and before the others
abbrev pub IsStanding : Table → Point → Standing → Type 0
IsStanding t p (OnCorner n) = IsTrue (is_corner_of t p n)
IsStanding t p (Behind n) = IsBehind t p n
