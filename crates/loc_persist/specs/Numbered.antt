-- A node's row with its pointers by number: `IsNodeRow`; and the bounds of its fields: `IsWithin`.
use Rattle.std.specs.Prelude.{◌≡◌, ◌<◌, ◌≤◌, ℕ, Bool, false, Option, None, Some}
use Rattle.loc_pool.specs.{declared.Link.Link, declared.Extra.Extra, declared.Turn.Turn}
use Rattle.loc_pool.specs.{declared.Turn.TheVariants.Left, declared.Turn.TheVariants.Right, Maps.Map, Maps.links}
use Rattle.loc_pool.specs.Rows.{Row, IsPlace}
use Rattle.loc_spec_index.specs.declared.NodeRow.{NodeRow}

-- the number of the node to which a pointer leads, or 0 where it leads to none
abbrev pub IsNumber : Map Row → Option Link → ℕ → Type 0
IsNumber rows None number = number ≡ 0
IsNumber rows (Some link) number = IsPlace (links rows) link number

-- the number of a side
abbrev pub turn_number : Turn → ℕ
turn_number Left = 1
turn_number Right = 2

-- the number of the side of an extra, 0 where there is none
abbrev pub side_of : Option Extra → ℕ
side_of None = 0
side_of (Some extra) = turn_number extra.turn

-- the version of an extra, 0 where there is none
abbrev pub stamp_of : Option Extra → ℕ
stamp_of None = 0
stamp_of (Some extra) = extra.version

-- where an extra leads
abbrev pub to_of : Option Extra → Option Link
to_of None = None
to_of (Some extra) = extra.to

-- the row with its pointers by number
pub record IsNodeRow (rows : Map Row) (row : Row) (numbered : NodeRow) : Type 0 where
  pub item : numbered.item ≡ row.item
  pub left : IsNumber rows row.left numbered.left
  pub right : IsNumber rows row.right numbered.right
  pub side : numbered.side ≡ side_of row.extra
  pub stamp : numbered.stamp ≡ stamp_of row.extra
  pub extra : IsNumber rows (to_of row.extra) numbered.extra

-- the bounds of a row, where there are so many sealed versions and nodes: what is said of an extra is 0 where there is none, and an extra is of a sealed version where nothing changed since the last seal
pub record IsWithin (past_greatest versions nodes : ℕ) (is_changed : Bool) (numbered : NodeRow) : Type 0 where
  pub item : numbered.item < past_greatest
  pub left : numbered.left ≤ nodes
  pub right : numbered.right ≤ nodes
  pub side : numbered.side ≤ 2
  pub stamp : numbered.stamp ≤ versions
  pub extra : numbered.extra ≤ nodes
  pub settled : is_changed ≡ false → 0 < numbered.side → numbered.stamp < versions
  pub no_stamp : numbered.side ≡ 0 → numbered.stamp ≡ 0
  pub no_extra : numbered.side ≡ 0 → numbered.extra ≡ 0
