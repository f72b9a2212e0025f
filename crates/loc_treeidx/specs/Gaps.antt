-- Where a walk down the present tree has come, and where it ends: `IsDescent`, `HangsBetween`, `IsWay`, `IsEnd`, `IsPlaceFor` and `IsNode`.
use Rattle.std.specs.Prelude.{◌≡◌, ◌≢◌, ℕ, Bool, true, false, List, ◌∷◌, ◌++◌, Option, Some, IfSome, slice_get}
use Rattle.loc_pool.specs.{declared.Link.Link, declared.Turn.Turn}
use Rattle.loc_rb.specs.{Trees.before, Trees.after, Nodes.Nodes, Places.LeadsToGap, Places.LeadsTo, Places.Walk}
use Rattle.loc_persist.specs.Meaning.{VersionsMeaning, present_nodes}
use Rattle.loc_spec_plane.specs.Tables.{Table}
use Rattle.loc_status.specs.{declared.status.Beside.Beside, Lists.GoesAbove, Lists.GoesBelow, Lists.IsLast}
use Rattle.loc_treeidx.specs.declared.walk.Way.{Way}

-- a walk down the tree that has these items, with the items just below and just above what hangs at its end
pub record IsDescent (nodes : Nodes) (content : List ℕ) (path : List (Link × Turn)) (next : Option Link) (lower upper : Option ℕ) : Type 0 where
  pub walk : Walk nodes path next content
  pub below : IsLast (before walk.frames) lower
  pub above : upper ≡ slice_get (after walk.frames) 0

-- what hangs at the end of some path in the present tree stands between these items
abbrev pub HangsBetween : VersionsMeaning → Option Link → Option ℕ → Option ℕ → Type 0
HangsBetween m next lower upper = (path : List (Link × Turn)) × IsDescent (present_nodes m) m.list path next lower upper

-- a way down the present tree between items that pass the test and items that do not; it did not turn left at the item where it is told to stop
pub record IsWay (passes : ℕ → Bool) (stop : Option ℕ) (m : VersionsMeaning) (path : List (Link × Turn)) (way : Way) : Type 0 where
  pub descent : IsDescent (present_nodes m) m.list path way.next way.beside.below way.beside.above
  pub passed : IfSome way.beside.below (λ item. passes item ≡ true)
  pub reached : IfSome way.beside.above (λ item. passes item ≡ false)
  pub apart : (item : ℕ) → stop ≡ Some item → way.beside.above ≢ Some item

-- the path leads to a missing child, which parts the list between these items
pub record IsEnd (nodes : Nodes) (content : List ℕ) (path : List (Link × Turn)) (lower upper : Option ℕ) : Type 0 where
  pub front : List ℕ
  pub back : List ℕ
  pub leads : LeadsToGap nodes path front back
  pub whole : front ++ back ≡ content
  pub below : IsLast front lower
  pub above : upper ≡ slice_get back 0

-- the path leads to a missing child of the present tree, between the edges that edge e is above and those that it is below
pub record IsPlaceFor (t : Table) (e : ℕ) (m : VersionsMeaning) (path : List (Link × Turn)) (beside : Beside) : Type 0 where
  pub end : IsEnd (present_nodes m) m.list path beside.below beside.above
  pub behind : GoesAbove t e end.front
  pub ahead : GoesBelow t e end.back

-- the path leads to the node of an edge
pub record IsNode (edge : ℕ) (m : VersionsMeaning) (path : List (Link × Turn)) (at : Link) : Type 0 where
  pub front : List ℕ
  pub back : List ℕ
  pub leads : LeadsTo (present_nodes m) path at front edge back
  pub whole : front ++ edge ∷ back ≡ m.list
