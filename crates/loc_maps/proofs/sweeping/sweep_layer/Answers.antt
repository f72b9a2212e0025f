use Rattle.std.proofs.{Common.Some, Common.sym, Common.subst, lemmas.Result.err_from_is_err_and}
use Rattle.loc_course.specs.{Following.Follows, Following.lacks, Stops.stopped, declared.stop.Stop.Stop}
use Rattle.loc_maps.specs.{Located.edges_of, MapCourses.apart_course, MapCourses.pieces_course}
use Rattle.loc_maps.proofs.Judged.{on_made, on_swept}
use Rattle.loc_maps.proofs.sweeping.sweep_layer.Goals as goal

pub returns-in_err-plane-clause-goes_on : goal.returns-in_err-plane-clause-goes_on
returns-in_err-plane-clause-goes_on g c next m =
    let p = err_from_is_err_and c.from_residual.result c.from_residual.ensures.1 in
    rw (p.1, p.2) (subst (λ (e : Stop). Follows (pieces_course c.args.layer.now (apart_course c.args.scale (edges_of c.args.layer.now) next)) m m (Some (stopped e))) (sym c.in_err-plane.ensures.memory) lacks)

pub returns-in-Some-clause-goes_on : goal.returns-in-Some-clause-goes_on
returns-in-Some-clause-goes_on g c next m last end = on_swept c.args.scale c.args.layer.now _ next m last end (rw c.in-Some.is at c.in_ok-plane.ensures.table) (rw c.in-Some.is at c.in_ok-plane.ensures.apart)

pub returns-in_err-table-clause-goes_on : goal.returns-in_err-table-clause-goes_on
returns-in_err-table-clause-goes_on g c next m =
    let p = err_from_is_err_and c.from_residual-in_err-table.result c.from_residual-in_err-table.ensures.1 in
    rw (p.1, p.2) (c.in_err-table.ensures.goes_on (apart_course c.args.scale (edges_of c.args.layer.now) next) m)

pub returns-clause-goes_on : goal.returns-clause-goes_on
returns-clause-goes_on g c next m =
    on_made c.args.scale c.args.layer.now _ next m c.sweep_table.result c.in_ok-table.ensures.table (c.sweep_table.ensures.goes_on next m)
