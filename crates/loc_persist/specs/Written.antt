-- Where a pointer can be written into a node, in place or as a stamp, `HasRoom`, and what that does to the rows, `IsWritten`.
use Rattle.std.specs.Prelude.{◌≡◌, ◌⊎◌, ℕ, ◌+◌, ◌≤◌, false, List, length, take, Option}
use Rattle.loc_pool.specs.{declared.Link.Link, declared.Turn.Turn, Maps.Map, Maps.has, Rows.Row, Rows.row, Rows.IsFree}
use Rattle.loc_rb.specs.Exchanges.{InPlace}
use Rattle.loc_persist.specs.{Keeping.KeepsBefore, Present.nodes_at, Present.IsPresent, Present.IsFreshAfter}
use Rattle.loc_persist.specs.Use.{in_use}

-- the node has room for a pointer on this side: it comes after the first nodes, or its extra fits
abbrev pub HasRoom : ℕ → ℕ → Map Row → Link → Turn → Type 0
HasRoom version nodes rows at turn = (has (take nodes rows) at ≡ false) ⊎ IsFree version turn (row rows at)

-- in this version the node has the other child; the first nodes read as before in the versions before, and at most one extra more is in use
pub record IsWritten (version nodes : ℕ) (old now : Map Row) (at : Link) (turn : Turn) (to : Option Link) : Type 0 where
  pub in_place : (root : Option Link) (copied : List Link) → InPlace (nodes_at version old root copied) (nodes_at version now root copied) at turn to
  pub keeps : KeepsBefore version (take nodes old) (take nodes now)
  pub present : (root : Option Link) (copied : List Link) → IsPresent version old root copied → IsPresent version now root copied
  pub fresh : IsFreshAfter nodes now
  pub paid : (copied : List Link) → length now + in_use copied now ≤ length old + in_use copied old + 1
  pub as_many : length now ≡ length old
