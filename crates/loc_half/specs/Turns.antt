-- The edges at a corner, and the order in which they are sorted. The words:
--   stands_at      an edge of the table ends at a corner
--   AreEdgesAt     the edges at a corner, each once
--   stands_before  the order round a corner, in which what is no edge there comes last
--   arriving       the half-edge that arrives at a corner by an edge
use Rattle.std.specs.Prelude.{◌≡◌, ◌≢◌, ℕ, ◌+◌, ◌*◌, ◌<◌, Bool, not, ◌&&◌, ◌||◌, List, length, get_or, if◌then◌else◌, ◌==◌}
use Rattle.loc_spec_plane.specs.{Lists.is_in, Tables.Table, Tables.hi_of, Tables.ends_at, Places.is_edge}
use Rattle.loc_spec_plane.specs.HalfEdges.{comes_round}

-- e is the number of an edge that has an end at corner c
abbrev pub stands_at : Table → ℕ → ℕ → Bool
stands_at t c e = is_edge t e && ends_at t c e

-- the edges at corner c, each once
pub record AreEdgesAt (t : Table) (c : ℕ) (es : List ℕ) : Type 0 where
  pub exact : (e : ℕ) → is_in e es ≡ stands_at t c e
  pub apart : (i j : ℕ) → i < j → j < length es → get_or es i 0 ≢ get_or es j 0

-- round corner c edge a comes before edge b; a number of no edge there comes behind all edges
abbrev pub stands_before : Table → ℕ → ℕ → ℕ → Bool
stands_before t c a b = stands_at t c a && (not (stands_at t c b) || comes_round t c a b)

-- the half-edge that arrives at corner c by edge e
abbrev pub arriving : Table → ℕ → ℕ → ℕ
arriving t c e = if hi_of t e == c then 2 * e else 2 * e + 1
