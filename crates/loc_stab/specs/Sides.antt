-- The sides of an edge as tests. The words: `is_at`.
use Rattle.std.specs.Prelude.{Bool}
use Rattle.loc_geom.specs.declared.kinds.Side.{Side}
use Rattle.loc_geom.specs.declared.kinds.Side.TheVariants.{Below, On, Above}
use Rattle.loc_spec_plane.specs.Points.{Point, Edge, is_above, is_on, is_below}

-- the point is on this side of the edge
abbrev pub is_at : Side → Edge → Point → Bool
is_at Below = is_below
is_at On = is_on
is_at Above = is_above
