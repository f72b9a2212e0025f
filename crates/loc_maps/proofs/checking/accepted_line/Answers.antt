use Rattle.std.proofs.lemmas.Result.{err_from_is_err_and}
use Rattle.loc_course.proofs.Going.{goes_further, lacks_on}
use Rattle.loc_maps.proofs.checking.accepted_line.Goals as goal

pub returns-in_err-plane-clause-goes_on : goal.returns-in_err-plane-clause-goes_on
returns-in_err-plane-clause-goes_on c next m =
    let p = err_from_is_err_and c.from_residual.result c.from_residual.ensures.1 in
    rw (p.1, p.2) (c.in_err-plane.ensures.goes_on next m)

pub returns-in_err-plane_line-clause-goes_on : goal.returns-in_err-plane_line-clause-goes_on
returns-in_err-plane_line-clause-goes_on c next m =
    goes_further _ m m m (λ _. next) c.in_ok-plane.plane (λ _. next) c.from_residual-in_err-plane_line.result (c.in_ok-plane.ensures.goes_on next m)
    (lacks_on next m (λ _. next) c.from_residual-in_err-plane_line.result c.from_residual-in_err-plane_line.ensures.1)
