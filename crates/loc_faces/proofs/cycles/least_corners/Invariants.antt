use Rattle.loc_faces.proofs.Least.{IsLeastSoFar}
use Rattle.loc_faces.proofs.cycles.least_corners.Given as goal

-- the least corners of the half-edges before
abbrev pub invariant-loop-h : goal.invariant-loop-h
invariant-loop-h l = IsLeastSoFar l.table l.half l.least.items l.h
