use Rattle.std.specs.{Prelude.All, List.Sorted.IsPermutation}
use Rattle.loc_node.specs.Ways.{WayOrder, points_along}
use Rattle.loc_node.proofs.ways.ways_of.Given as goal

-- the ways of the edges before hold the points
abbrev pub invariant-loop-guide : goal.invariant-loop-guide
invariant-loop-guide l = All (λ (way : WayOrder). IsPermutation l.points (points_along way.order)) l.ways.items
