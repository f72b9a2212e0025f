use Rattle.loc_faces.proofs.Hanging.{IsHangingSoFar}
use Rattle.loc_faces.proofs.cycles.hanging_cycles.Given as goal

-- the cycles of the half-edges before that hang
abbrev pub invariant-loop-h : goal.invariant-loop-h
invariant-loop-h l = IsHangingSoFar l.table l.half l.least l.hanging.items l.h
