use Rattle.loc_faces.specs.Cycles.{AreNumbered}
use Rattle.loc_faces.proofs.cycles.number_outer.Given as goal

-- the outer cycles of the half-edges before
abbrev pub invariant-loop-h : goal.invariant-loop-h
invariant-loop-h l = AreNumbered l.table l.half l.outers.items l.of_cycle.items l.h
