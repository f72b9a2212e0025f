-- What is looked for in a list of edges, and where a search ends. The words: `IsTarget`, `begins_above`, `is_passed`, `IsSearchEnd`.
use Rattle.std.specs.Prelude.{◌≡◌, ℕ, ◌-◌, ◌<◌, ◌≤◌, Bool, true, false, List, length, if◌then◌else◌, ◌==◌, slice_index}
use Rattle.loc_spec_plane.specs.{Points.Edge, Points.is_above, Places.lower_of}
use Rattle.loc_spec_plane.specs.Tables.{Table, corner, edge, hi_of}
use Rattle.loc_edges.specs.Placing.{deciding_end}
use Rattle.loc_status.specs.declared.targets.Target.{Target}
use Rattle.loc_status.specs.declared.targets.Target.TheVariants.{Begin, End, Corner}

-- the target is an edge or a corner of the table
abbrev pub IsTarget : Table → Target → Type 0
IsTarget t (Begin e) = e < length t.ends
IsTarget t (End e) = e < length t.ends
IsTarget t (Corner c) = c < length t.corners

-- edge b begins above edge a, by the side of the end that decides
abbrev pub begins_above : Edge → Edge → Bool
begins_above a b = is_above a (deciding_end a b)

-- edge a stands before the target: by the side of the end that decides, by the side of the upper end or among the edges that end there by their order, or by the side of the corner
abbrev pub is_passed : Table → Target → ℕ → Bool
is_passed t (Begin e) a = begins_above (edge t a) (edge t e)
is_passed t (End e) a = if hi_of t a == hi_of t e then lower_of t a e else is_above (edge t a) (edge t e).hi
is_passed t (Corner c) a = is_above (edge t a) (corner t c)

-- the edge before the place passes the test, and the edge at the place does not
pub record IsSearchEnd (passes : ℕ → Bool) (es : List ℕ) (place : ℕ) : Type 0 where
  pub within : place ≤ length es
  pub passed : 0 < place → passes (slice_index es (place - 1)) ≡ true
  pub reached : place < length es → passes (slice_index es place) ≡ false
