-- What an edge makes of the trapezoids that it cuts. The word:
--   ArePieces              the new rows and the splits of a walk
use Rattle.std.specs.Prelude.{◌≡◌, ℕ, ◌-◌, List, length}
use Rattle.loc_spec_plane.specs.{declared.Trap.Trap, Tables.Table, Tables.lo_of, Tables.hi_of}
use Rattle.loc_laws_traps.specs.Sets.{behind_left}
use Rattle.loc_traps.specs.{declared.walk.Start.Start, declared.walk.Cut.Cut, declared.map.Split.Split}
use Rattle.loc_traps.specs.{Meaning.MapMeaning, Meaning.row_of, Walks.fresh_rows, Walks.IsWalk, Walks.IsNumbered}

-- there is a walk of edge e from a row, of which these are the new rows and the splits
pub record ArePieces (t : Table) (m : MapMeaning) (e from : ℕ) (fresh : List Trap) (splits : List Split) : Type 0 where
  pub last : ℕ
  pub overs : List Start
  pub unders : List Start
  pub cuts : List Cut
  pub walk : IsWalk t m.added m.rows m.is_live e from last overs unders cuts
  pub rows : fresh ≡ fresh_rows e (lo_of t e) (hi_of t e) overs unders (row_of m.rows from) (row_of m.rows last)
  pub numbers : IsNumbered m.rows (lo_of t e) (hi_of t e) (length overs - 1) (length unders - 1) (behind_left (row_of m.rows from).left (lo_of t e)) cuts splits
