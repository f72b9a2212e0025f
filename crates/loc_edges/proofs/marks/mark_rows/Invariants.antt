use Rattle.std.proofs.Common.{◌≡◌, take, map}
use Rattle.loc_edges.specs.Tagged.{marks_of}
use Rattle.loc_edges.proofs.marks.mark_rows.Given as goal

-- the edges before have their marks
abbrev pub invariant-loop-n : goal.invariant-loop-n
invariant-loop-n l = l.rows ≡ map marks_of (take l.n l.features)
