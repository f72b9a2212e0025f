use Rattle.loc_spec_index.specs.IndexFile.{mark_row}
use Rattle.loc_file.proofs.Loops.{AreKept}
use Rattle.loc_file.proofs.marks.read_marks.Given as goal

abbrev pub invariant-loop-row : goal.invariant-loop-row
invariant-loop-row l = AreKept (mark_row l.edges l.features) l.marks.items l.row l.last l.initial.cursor l.cursor
