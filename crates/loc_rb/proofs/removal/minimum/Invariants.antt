-- The path goes down left sides; it and the tree at its end have at most 43 nodes.
use Rattle.std.proofs.Common.{◌≡◌, List, length, ◌≤◌, ◌+◌, ◌-◌, ◌++◌, Some}
use Rattle.loc_pool.specs.{declared.Link.Link, declared.Turn.Turn}
use Rattle.loc_rb.specs.{Trees.Frame, Trees.Tree, Trees.top, Balance.depth, Places.Spot, Steps.LeftmostPath}
use Rattle.loc_rb.proofs.removal.minimum.Given as goal

abbrev pub invariant-down : goal.invariant-down
invariant-down g l = record {
  some : (C : List Frame) × (t : Tree) × (d : LeftmostPath (g.K.Links.nodes l.links) l.path.items C t l.at) × (length l.path.items + depth d.tree ≤ 43);
  all : (C : List Frame) (t : Tree) → Spot (g.K.Links.nodes l.links) l.initial.path.items C t → top t ≡ Some l.initial.at → LeftmostPath (g.K.Links.nodes l.links) l.path.items C t l.at;
  longer : (remaining : List (Link × Turn)) × (l.path.items ≡ l.initial.path.items ++ remaining);
}

abbrev pub decreases-down : goal.decreases-down
decreases-down g l = 44 - length l.path.items
