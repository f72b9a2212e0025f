use Rattle.loc_course.specs.Following.{lacks}
use Rattle.loc_maps.proofs.Judged.{on_many_pieces}
use Rattle.loc_maps.proofs.sweeping.layer_table.Goals as goal

pub returns-in-Err-ManyPieces-clause-goes_on : goal.returns-in-Err-ManyPieces-clause-goes_on
returns-in-Err-ManyPieces-clause-goes_on c next m = rw c.pieces_line.ensures (on_many_pieces c.args.layer.now next m (rw c.in-Err-ManyPieces.field-0-is at c.in-Err-ManyPieces.ensures.refused))

pub returns-in-Err-NoMemory-clause-goes_on : goal.returns-in-Err-NoMemory-clause-goes_on
returns-in-Err-NoMemory-clause-goes_on c next m = lacks
