use Rattle.std.proofs.Common.{sym, subst}
use Rattle.loc_edges.specs.Conflicts.{table_edges}
use Rattle.loc_edges.proofs.EdgeLists.{edges_apart}
use Rattle.loc_course.specs.{Courses.Course, Following.Follows, Following.lacks}
use Rattle.loc_maps.proofs.{Judged.on_apart, Judged.on_conflict, Shown.shown}
use Rattle.loc_maps.proofs.sweeping.sweep_table.Goals as goal

pub returns-in-Ok-clause-goes_on : goal.returns-in-Ok-clause-goes_on
returns-in-Ok-clause-goes_on g c next m last end follows =
    subst (λ (course : Course). Follows course m last end) (sym (on_apart c.args.scale (table_edges c.args.table) next (edges_apart c.args.table c.in-Ok.ensures.apart))) follows

pub returns-in-Err-Conflict-clause-goes_on : goal.returns-in-Err-Conflict-clause-goes_on
returns-in-Err-Conflict-clause-goes_on g c next m =
    let here = rw c.in-Err-Conflict.field-0-is at c.in-Err-Conflict.ensures.shown in
    rw (c.conflict_line.ensures, c.edge.ensures, c.edge-in-Err-Conflict.ensures)
    (on_conflict c.args.scale (table_edges c.args.table) next _ _ c.in-Err-Conflict.meeting m (shown c.args.table c.in-Err-Conflict.a c.in-Err-Conflict.b c.in-Err-Conflict.meeting c.law.ensures.in_order here))

pub returns-in-Err-NoMemory-clause-goes_on : goal.returns-in-Err-NoMemory-clause-goes_on
returns-in-Err-NoMemory-clause-goes_on g c next m = lacks
