-- The slabs in memory by their addresses, the nodes in them, and the rows that these stand for. The words: `Cell`, `addresses`, `nodes_of`, `IsFull`,
-- `if_there`, `mark_of`, `extra_of`, `row_of`, `rows_from`, `IsPool`.
use Rattle.std.specs.Prelude.{◌≡◌, ℕ, ◌+◌, ◌^◌, ◌<◌, ◌≤◌, Bool, true, false, List, [], ◌∷◌, ◌++◌, length, Option, None, Some}
use Rattle.loc_pool.specs.{declared.Link.Link, declared.Extra.Extra, declared.Turn.Turn}
use Rattle.loc_pool.specs.declared.Turn.TheVariants.{Left, Right}
use Rattle.loc_pool.specs.{declared.heap.Address.Address, declared.node.Node.Node, declared.node.Slab.Slab}
use Rattle.loc_pool.specs.{declared.node.Mark.Mark, Maps.Map, Rows.Row}
use Rattle.loc_pool.specs.declared.node.Mark.TheVariants.{Free, LeftEnd, LeftTo, RightEnd, RightTo}

-- a slab and where it lies
abbrev pub Cell : Type 0
Cell = Address × Slab

-- where the slabs lie
unfoldable pub addresses : List Cell → List Address
addresses [] = []
addresses (c ∷ cs) = c.0 ∷ addresses cs

-- the nodes of all slabs
unfoldable pub nodes_of : List Cell → List Node
nodes_of [] = []
nodes_of (c ∷ cs) = c.1.nodes ++ nodes_of cs

-- each slab has 1024 nodes
abbrev pub IsFull : List Cell → Type 0
IsFull [] = Unit {0}
IsFull (c ∷ cs) = (length c.1.nodes ≡ 1024) × IsFull cs

-- a link that is there, or none
abbrev pub if_there : Bool → Link → Option Link
if_there false at = None
if_there true at = Some at

-- what there is of an extra on a side that leads to a node or ends
abbrev pub mark_of : Turn → Bool → Mark
mark_of Left false = LeftEnd
mark_of Left true = LeftTo
mark_of Right false = RightEnd
mark_of Right true = RightTo

-- an extra of its parts
abbrev pub extra_of : ℕ → Link → Mark → Option Extra
extra_of version to Free = None
extra_of version to LeftEnd = Some (record { turn = Left; version = version; to = None })
extra_of version to LeftTo = Some (record { turn = Left; version = version; to = Some to })
extra_of version to RightEnd = Some (record { turn = Right; version = version; to = None })
extra_of version to RightTo = Some (record { turn = Right; version = version; to = Some to })

-- the row of a node
abbrev pub row_of : Node → Row
row_of n = record { item = n.item; left = if_there n.has_left n.left; right = if_there n.has_right n.right; extra = extra_of n.version n.to n.mark; colour = n.colour }

-- the rows of nodes whose links are numbered from n on
unfoldable pub rows_from : ℕ → List Node → Map Row
rows_from n [] = []
rows_from n (x ∷ xs) = (record { number = n }, row_of x) ∷ rows_from (n + 1) xs

-- what holds of a pool: of all nodes in memory, how many were made, how many places are free, and how many of them count as room
pub record IsPool (slabs : List Node) (len free ready : ℕ) : Type 0 where
  pub places : len + free ≡ length slabs
  pub room : ready ≤ free
  pub few : len < 2 ^ 32
