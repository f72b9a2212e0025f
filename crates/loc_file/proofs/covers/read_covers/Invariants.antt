use Rattle.std.proofs.Common.{map}
use Rattle.loc_file.proofs.CoverRows.{AreCovers}
use Rattle.loc_file.proofs.covers.read_covers.Given as goal

abbrev pub invariant-loop-row : goal.invariant-loop-row
invariant-loop-row l = AreCovers l.features (map (λ list. list.items) l.lists.items) l.row l.members l.initial.cursor l.cursor
