-- What a walk along a new edge collects: where the pieces over and under the edge begin, and the rows that it cuts. The words:
--   start_of, cut_of               a start, a cut row, by number
--   over_row, under_row            a piece over the edge, or under it: from one start to the next
--   over_rows, under_rows, before_rows, behind_rows, fresh_rows  the pieces, the part before the edge, the one behind it, and all of them
--   IsPassed                       the right of a trapezoid that the edge passes
--   IsStrip, IsWalk                what the walk gives
--   IsNumberedAt, IsNumbered       the splits of the cut rows
use Rattle.std.specs.Prelude.{◌≡◌, ℕ, suc, ◌+◌, ◌-◌, ◌<◌, ◌≤◌, Bool, true, List, [], ◌∷◌, ◌++◌, length, get_or, map, Option, Some, None, if◌then◌else◌}
use Rattle.std.specs.Bool.{then_some}
use Rattle.loc_spec_plane.specs.{declared.Trap.Trap, Lists.numbers, Tables.Table, Tables.lo_of, Tables.hi_of}
use Rattle.loc_spec_plane.specs.Traps.{is_trap}
use Rattle.loc_laws_traps.specs.Sets.{with_edge, behind_left, before_right, is_cut, part_before, part_behind, is_over_piece, is_under_piece}
use Rattle.loc_traps.specs.{declared.walk.Start.Start, declared.walk.Cut.Cut, declared.map.Split.Split}
use Rattle.loc_traps.specs.{Meaning.row_of, Meaning.live_of, Meaning.among, Splits.split_of}

-- start number i
abbrev pub start_of : List Start → ℕ → Start
start_of starts i = get_or starts i (record { bound = None; left = 0 })

-- cut row number j
abbrev pub cut_of : List Cut → ℕ → Cut
cut_of cuts j = get_or cuts j (record { row = 0; over = 0; under = 0 })

-- piece i over edge e goes from its start to the next one, and piece i under it
abbrev pub over_row : ℕ → List Start → ℕ → Trap
over_row e starts i = record { bottom = Some e; top = (start_of starts i).bound; left = Some (start_of starts i).left; right = Some (start_of starts (suc i)).left }

abbrev pub under_row : ℕ → List Start → ℕ → Trap
under_row e starts i = record { bottom = (start_of starts i).bound; top = Some e; left = Some (start_of starts i).left; right = Some (start_of starts (suc i)).left }

-- the last start is the end of the last piece
abbrev pub over_rows : ℕ → List Start → List Trap
over_rows e starts = map (over_row e starts) (numbers (length starts - 1))

abbrev pub under_rows : ℕ → List Start → List Trap
under_rows e starts = map (under_row e starts) (numbers (length starts - 1))

-- the part of a trapezoid before a corner, and the one behind, where it is there
abbrev pub before_rows : Trap → ℕ → List Trap
before_rows trap lo = if behind_left trap.left lo then part_before trap lo ∷ [] else []

abbrev pub behind_rows : Trap → ℕ → List Trap
behind_rows trap hi = if before_right trap.right hi then part_behind trap hi ∷ [] else []

-- all pieces: over the edge, under it, before it and behind it
abbrev pub fresh_rows : ℕ → ℕ → ℕ → List Start → List Start → Trap → Trap → List Trap
fresh_rows e lo hi overs unders first last = ((over_rows e overs ++ under_rows e unders) ++ before_rows first lo) ++ behind_rows last hi

-- the right, where it comes before the edge's upper end
abbrev pub IsPassed : Option ℕ → ℕ → Option ℕ → Type 0
IsPassed right hi None = (r : ℕ) → right ≡ Some r → hi ≤ r
IsPassed right hi (Some r) = (right ≡ Some r) × (r < hi)

-- pieces that are trapezoids with edge e, no two of them equal, of which each cut trapezoid has one
pub record IsStrip (t : Table) (added : List ℕ) (e many : ℕ) (piece : ℕ → Trap) (is_piece : Trap → Trap → Bool) : Type 0 where
  pub sound : (i : ℕ) → i < many → is_trap t (with_edge (among added) e) (piece i) ≡ true
  pub single : (i j : ℕ) → i < many → j < many → piece i ≡ piece j → i ≡ j
  pub complete : (trap : Trap) → is_trap t (among added) trap ≡ true → is_cut t e trap ≡ true → (i : ℕ) × (i < many) × (is_piece trap (piece i) ≡ true)

-- the walk from one row to another: the pieces, and each live row that edge e cuts once, with its pieces
pub record IsWalk (t : Table) (added : List ℕ) (rows : List Trap) (is_live : List Bool) (e from last : ℕ) (overs unders : List Start) (cuts : List Cut) : Type 0 where
  pub over_strip : IsStrip t added e (length overs - 1) (over_row e overs) (is_over_piece t e)
  pub under_strip : IsStrip t added e (length unders - 1) (under_row e unders) (is_under_piece t e)
  pub counted : length overs + length unders ≡ length cuts + 3
  pub some_over : 0 < length overs
  pub some_under : 0 < length unders
  pub live : (j : ℕ) → j < length cuts → ((cut_of cuts j).row < length rows) × (live_of is_live (cut_of cuts j).row ≡ true) × (is_cut t e (row_of rows (cut_of cuts j).row) ≡ true)
  pub over : (j : ℕ) → j < length cuts → ((cut_of cuts j).over + 1 < length overs) × (is_over_piece t e (row_of rows (cut_of cuts j).row) (over_row e overs (cut_of cuts j).over) ≡ true)
  pub under : (j : ℕ) → j < length cuts → ((cut_of cuts j).under + 1 < length unders) × (is_under_piece t e (row_of rows (cut_of cuts j).row) (under_row e unders (cut_of cuts j).under) ≡ true)
  pub complete : (i : ℕ) → i < length rows → live_of is_live i ≡ true → is_cut t e (row_of rows i) ≡ true → (j : ℕ) × (j < length cuts) × ((cut_of cuts j).row ≡ i)
  pub single : (i j : ℕ) → i < length cuts → j < length cuts → (cut_of cuts i).row ≡ (cut_of cuts j).row → i ≡ j
  pub first_live : (from < length rows) × (live_of is_live from ≡ true)
  pub is_first : (trap : Trap) → is_trap t (among added) trap ≡ true → is_cut t e trap ≡ true → behind_left trap.left (lo_of t e) ≡ true → trap ≡ row_of rows from
  pub first_cut : is_cut t e (row_of rows from) ≡ true
  pub last_live : (last < length rows) × (live_of is_live last ≡ true)
  pub is_last : (trap : Trap) → is_trap t (among added) trap ≡ true → is_cut t e trap ≡ true → before_right trap.right (hi_of t e) ≡ true → trap ≡ row_of rows last
  pub last_cut : is_cut t e (row_of rows last) ≡ true

-- the split of a cut row, where the pieces are rows that follow the old ones: so many over the edge, so many under it, the part before it and the one behind
pub record IsNumberedAt (rows : List Trap) (lo hi overs unders : ℕ) (has_before : Bool) (cut : Cut) (split : Split) : Type 0 where
  pub row : split.cut ≡ cut.row
  pub before : split.before ≡ then_some (behind_left (row_of rows cut.row).left lo) (length rows + overs + unders)
  pub above : split.above ≡ length rows + cut.over
  pub below : split.below ≡ length rows + overs + cut.under
  pub behind : split.behind ≡ then_some (before_right (row_of rows cut.row).right hi) (length rows + overs + unders + (if has_before then 1 else 0))

-- each cut row has its split, in the same place
pub record IsNumbered (rows : List Trap) (lo hi overs unders : ℕ) (has_before : Bool) (cuts : List Cut) (splits : List Split) : Type 0 where
  pub many : length splits ≡ length cuts
  pub each : (j : ℕ) → j < length cuts → IsNumberedAt rows lo hi overs unders has_before (cut_of cuts j) (split_of splits j)
