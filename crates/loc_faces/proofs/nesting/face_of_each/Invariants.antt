use Rattle.std.proofs.Common.{◌≡◌, ℕ, ◌<◌, get_or, length}
use Rattle.loc_faces.specs.Cycles.{face_by}
use Rattle.loc_faces.proofs.nesting.face_of_each.Given as goal

-- the faces of the half-edges before
abbrev pub invariant-loop-h : goal.invariant-loop-h
invariant-loop-h l = (length l.faces.items ≡ l.h) × ((g : ℕ) → g < l.h → get_or l.faces.items g 0 ≡ face_by l.half l.of_cycle g)
