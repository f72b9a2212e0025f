use Rattle.loc_file.specs.Told.{told_row}
use Rattle.loc_file.proofs.Loops.{AreKept}
use Rattle.loc_file.proofs.edges.read_edges.Given as goal

abbrev pub invariant-loop-row : goal.invariant-loop-row
invariant-loop-row l = AreKept (told_row l.version l.corners l.covers) l.edges.items l.row l.last l.initial.cursor l.cursor
