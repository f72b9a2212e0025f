use Rattle.loc_course.specs.Following.{lacks}
use Rattle.loc_maps.proofs.Judged.{on_many_covers}
use Rattle.loc_maps.proofs.plane.legend_of.Goals as goal

pub returns-in-Err-ManyCovers-clause-goes_on : goal.returns-in-Err-ManyCovers-clause-goes_on
returns-in-Err-ManyCovers-clause-goes_on c next m = rw c.covers_line.ensures (on_many_covers c.args.table.now next m (rw c.in-Err-ManyCovers.field-0-is at c.in-Err-ManyCovers.ensures.refused))

pub returns-in-Err-NoMemory-clause-goes_on : goal.returns-in-Err-NoMemory-clause-goes_on
returns-in-Err-NoMemory-clause-goes_on c next m = lacks
