-- How the reading of a node follows a list, and which nodes are reached by so many turns. The words:
--   IsReadFrom   a node reads as what stands in a list from one position on and before another
--   StaysWithin  no path from a node has more nodes than there is room
--   HasLongPath  a path from a node has one node more
--   PartsAt, PartsFrom  whatever a node reads as, it goes with a list from one position up to another, and has another item there
--   IsFollowed   what following a list tells
--   IsReached    a node is reached by so many turns
--   AreReached   the flags of the nodes that are
--   HasNode      the flag of some node is set
--   IsChildOf, IsNextLevel  a node is a child of one whose flag is set; the flags of the children
use Rattle.std.specs.Prelude.{◌≡◌, ◌≢◌, ℕ, ◌+◌, ◌<◌, ◌≤◌, Bool, false, List, ◌∷◌, ◌++◌, length, drop, get_or, slice_get, Some, IsTrue, ◌↔◌}
use Rattle.loc_spec_index.specs.declared.NodeRow.{NodeRow}
use Rattle.loc_spec_index.specs.Nodes.{Side, Reads, child_of, led_to}
use Rattle.loc_verify.specs.declared.reading.Followed.{Followed}
use Rattle.loc_verify.specs.declared.reading.Followed.TheVariants.{Past, Differs, TooDeep}

-- the items go with the list from position `read` on, and at position `next` they have an item that the list has not
pub record PartsAt (items list : List ℕ) (read next : ℕ) : Type 0 where
  pub before : List ℕ
  pub item : ℕ
  pub after : List ℕ
  pub whole : items ≡ before ++ (item ∷ after)
  pub count : next ≡ read + length before
  pub goes_with : drop read list ≡ before ++ drop next list
  pub differs : slice_get list next ≢ Some item

-- the flag of some node is set
abbrev pub HasNode : List Bool → Type 0
HasNode flags = (m : ℕ) × (m ≢ 0) × IsTrue (get_or flags m false)

module _ (rows : List NodeRow) (version : ℕ) where
  -- no path from node n has more nodes than there is room
  abbrev pub StaysWithin : ℕ → ℕ → Type 0
  StaysWithin n room = (sides : List Side) → led_to rows version n sides ≢ 0 → length sides < room

  -- a path from node n has one node more than there is room
  abbrev pub HasLongPath : ℕ → ℕ → Type 0
  HasLongPath n room = (sides : List Side) × (led_to rows version n sides ≢ 0) × (length sides ≡ room)

  -- node n reads as what stands in the list from position `read` on and before position `next`
  pub record IsReadFrom (n : ℕ) (list : List ℕ) (read next : ℕ) : Type 0 where
    pub items : List ℕ
    pub reads : Reads rows version n items
    pub within : next ≤ length list
    pub count : next ≡ read + length items
    pub goes_with : drop read list ≡ items ++ drop next list

  -- whatever node n reads as, it goes with the list from position `read` on, and has another item at position `next`
  abbrev pub PartsFrom : ℕ → List ℕ → ℕ → ℕ → Type 0
  PartsFrom n list read next = (next ≤ length list) × ((items : List ℕ) → Reads rows version n items → PartsAt items list read next)

  -- how far the reading of node n follows the list from position `read` on, with room for so many nodes on a path
  abbrev pub IsFollowed : ℕ → ℕ → List ℕ → ℕ → Followed → Type 0
  IsFollowed n room list read (Past next) = IsReadFrom n list read next × StaysWithin n room
  IsFollowed n room list read (Differs next) = PartsFrom n list read next
  IsFollowed n room list read TooDeep = HasLongPath n room

  -- node m is reached from node n by so many turns
  abbrev pub IsReached : ℕ → ℕ → ℕ → Type 0
  IsReached n turns m = (sides : List Side) × (length sides ≡ turns) × (led_to rows version n sides ≡ m)

  -- the flags of the nodes, by number, that are reached by so many turns; the flag of 0 says nothing
  pub record AreReached (n turns : ℕ) (flags : List Bool) : Type 0 where
    pub as_many : length flags ≡ length rows + 1
    pub exact : (m : ℕ) → m ≢ 0 → IsTrue (get_or flags m false) ↔ IsReached n turns m

  -- node m is a child of a node whose flag is set
  abbrev pub IsChildOf : List Bool → ℕ → Type 0
  IsChildOf flags m = (n : ℕ) × (side : Side) × (n ≢ 0) × IsTrue (get_or flags n false) × (child_of rows version n side ≡ m)

  -- the flags of the children of the nodes whose flags are set; the flag of 0 says nothing
  pub record IsNextLevel (flags next : List Bool) : Type 0 where
    pub as_many : length next ≡ length flags
    pub exact : (m : ℕ) → m ≢ 0 → IsTrue (get_or next m false) ↔ IsChildOf flags m
