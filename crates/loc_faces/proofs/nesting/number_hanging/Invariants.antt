use Rattle.loc_faces.proofs.Nested.{IsNestedSoFar}
use Rattle.loc_faces.proofs.nesting.number_hanging.Given as goal

-- the hanging cycles that the edges before come to
abbrev pub invariant-loop-edge : goal.invariant-loop-edge
invariant-loop-edge l = IsNestedSoFar l.table l.half l.floors l.initial.of_cycle.items l.of_cycle.items l.edge
