use Rattle.loc_spec_index.specs.IndexFile.{corner_row}
use Rattle.loc_file.proofs.Loops.{AreKept}
use Rattle.loc_file.proofs.corners.read_corners.Given as goal

abbrev pub invariant-loop-row : goal.invariant-loop-row
invariant-loop-row l = AreKept (corner_row) l.corners.items l.row l.last l.initial.cursor l.cursor
