-- What a map of trapezoids is seen as, and when it is the one of a table's edges. The words:
--   MapMeaning                    trapezoids by number, which of them are live, the edges added, and the names of two at each corner
--   row_of, live_of, named_of     a row, whether it is live, and the name at a corner, each by number
--   among                         the set of the edges added
--   IsMapOf                       the live rows are the trapezoids of the edges added, and each end has its two names
use Rattle.std.specs.Prelude.{◌≡◌, ℕ, ◌+◌, ◌*◌, ◌≤◌, Bool, false, List, length, get_or, Option, None, count_by}
use Rattle.loc_spec_plane.specs.{declared.Trap.Trap, Lists.is_in, Tables.Table}
use Rattle.loc_laws_traps.specs.{Sets.IsCalmSet, Sets.is_lowest_at, Sets.is_highest_at, Maps.IsMap, Maps.Names}

-- trapezoids by number, cut ones among them; which are live; the edges added; and for each corner the number of the lowest and of the highest trapezoid that begins there
pub record MapMeaning : Type 0 where
  pub rows : List Trap
  pub is_live : List Bool
  pub added : List ℕ
  pub lowest : List (Option ℕ)
  pub highest : List (Option ℕ)

-- the trapezoid without bounds
abbrev pub no_bounds : Trap
no_bounds = record { bottom = None; top = None; left = None; right = None }

-- the row of a number
abbrev pub row_of : List Trap → ℕ → Trap
row_of rows n = get_or rows n no_bounds

-- the row of a number is live
abbrev pub live_of : List Bool → ℕ → Bool
live_of is_live n = get_or is_live n false

-- the name at a corner
abbrev pub named_of : List (Option ℕ) → ℕ → Option ℕ
named_of names c = get_or names c None

-- the edge is one of those added
abbrev pub among : List ℕ → ℕ → Bool
among added d = is_in d added

-- how many rows are live
abbrev pub live_count : List Bool → ℕ
live_count is_live = count_by (λ b. b) is_live

-- the live rows are exactly the trapezoids of the edges added, each once; no two of these edges conflict; and the lowest and the highest trapezoid that begin at each end are named
pub record IsMapOf (t : Table) (m : MapMeaning) : Type 0 where
  pub calm : IsCalmSet t (among m.added)
  pub flags : length m.is_live ≡ length m.rows
  pub map : IsMap t (among m.added) (length m.rows) (row_of m.rows) (live_of m.is_live)
  pub lowest : Names t (among m.added) (length m.rows) (row_of m.rows) (live_of m.is_live) (is_lowest_at t) (named_of m.lowest)
  pub highest : Names t (among m.added) (length m.rows) (row_of m.rows) (live_of m.is_live) (is_highest_at t) (named_of m.highest)
  pub few : live_count m.is_live ≤ 3 * length m.added + 1
