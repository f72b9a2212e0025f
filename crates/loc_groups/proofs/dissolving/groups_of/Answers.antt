use Rattle.std.proofs.lemmas.Result.{err_from_is_err_and}
use Rattle.loc_course.proofs.Going.{goes_further, lacks_on}
use Rattle.loc_maps.specs.Located.{table_in}
use Rattle.loc_groups.proofs.dissolving.groups_of.Goals as goal

pub returns-in_err-plane-clause-goes_on : goal.returns-in_err-plane-clause-goes_on
returns-in_err-plane-clause-goes_on c next m =
    let p = err_from_is_err_and c.from_residual.result c.from_residual.ensures.1 in
    rw (p.1, p.2) (c.in_err-plane.ensures.goes_on next m)

pub dissolve-groups-requires-clause-table : goal.dissolve-groups-requires-clause-table
unfolding table_in
dissolve-groups-requires-clause-table c = c.in_ok-plane.ensures.map.table

pub returns-in_err-groups-clause-goes_on : goal.returns-in_err-groups-clause-goes_on
returns-in_err-groups-clause-goes_on c next m =
    goes_further _ m m m (λ _. next) c.in_ok-plane.plane (λ _. next) c.from_residual-in_err-groups.result (c.in_ok-plane.ensures.goes_on next m)
    (lacks_on next m (λ _. next) c.from_residual-in_err-groups.result c.from_residual-in_err-groups.ensures.1)
