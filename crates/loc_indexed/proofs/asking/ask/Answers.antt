use Rattle.std.proofs.lemmas.Result.{err_from_is_err_and}
use Rattle.loc_indexed.specs.IndexedCourses.{asked_course}
use Rattle.loc_indexed.proofs.asking.ask.Goals as goal

pub returns-in_err-held : goal.returns-in_err-held
returns-in_err-held g c =
    let p = err_from_is_err_and c.from_residual.result c.from_residual.ensures.1 in
    rw (p.1, p.2) (c.in_err-held.ensures.goes_on (asked_course c.args.points_name.now) _ _)

pub returns : goal.returns
returns g c = c.in_ok-held.ensures.goes_on (asked_course c.args.points_name.now) _ _ _ _ c.answer_points-outcome.ensures
