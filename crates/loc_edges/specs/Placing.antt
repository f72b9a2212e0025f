-- How an edge b stands to an edge a that the sweep line at b's lower end meets. The words: `hits`, `deciding_end`, `IsPlacing`, `OnHits`.
use Rattle.std.specs.Prelude.{Bool, not, ◌&&◌, ◌||◌, if◌then◌else◌, IsTrue}
use Rattle.loc_spec_plane.specs.Points.{Point, Edge, same_point, is_above, is_on, is_below, inside}
use Rattle.loc_edges.specs.declared.ranks.Placing.{Placing}
use Rattle.loc_edges.specs.declared.ranks.Placing.TheVariants.{Below, Above, Hits}

-- b begins on a and not at an end of it, or both begin at one point in one direction
abbrev pub hits : Edge → Edge → Bool
hits a b = inside a b.lo || (same_point a.lo b.lo && is_on a b.hi)

-- the end of b whose side decides: its lower end, or its upper end where both begin at one point
abbrev pub deciding_end : Edge → Edge → Point
deciding_end a b = if same_point a.lo b.lo then b.hi else b.lo

-- b hits a, or else stands below or above it by the side of the deciding end
abbrev pub IsPlacing : Edge → Edge → Placing → Type 0
IsPlacing a b Below = IsTrue (not (hits a b)) × IsTrue (is_below a (deciding_end a b))
IsPlacing a b Above = IsTrue (not (hits a b)) × IsTrue (is_above a (deciding_end a b))
IsPlacing a b Hits = IsTrue (hits a b)

-- what is so where one edge hits the other
abbrev pub OnHits : Placing → Type 0 → Type 0
OnHits Below fact = Unit {0}
OnHits Above fact = Unit {0}
OnHits Hits fact = fact
