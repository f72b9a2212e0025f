use Rattle.std.proofs.{Common.ap, lemmas.Result.err_from_is_err_and}
use Rattle.loc_spec_valid.specs.BreachTexts.{breach_line}
use Rattle.loc_valid.specs.Judged.{told}
use Rattle.loc_course.specs.Courses.{writes}
use Rattle.loc_course.proofs.Going.{lacks_on}
use Rattle.loc_breaches.specs.BreachCourses.{are_lines, judged_course}
use Rattle.loc_breaches.proofs.{Courses.refused_at, LineLists.line_at, Refusals.refused_none}
use Rattle.loc_breaches.proofs.judging.judged_lines.Goals as goal

pub returns-in_err-breach-clause-goes_on : goal.returns-in_err-breach-clause-goes_on
returns-in_err-breach-clause-goes_on c m =
    let p = err_from_is_err_and c.from_residual.result c.from_residual.ensures.1 in
    rw (p.1, p.2) (refused_at c.args.scale c.args.layer.now c.features-feature-items.result.now c.loop-feature.feature-index c.feature-item.result _ m c.features-feature-items.ensures.value c.loop-feature-test.true c.feature-item.is c.loop-feature.invariant.1 c.in_err-breach.ensures.refused)

pub returns-in_err-push_line-clause-goes_on : goal.returns-in_err-push_line-clause-goes_on
returns-in_err-push_line-clause-goes_on c m =
    lacks_on (judged_course c.args.scale c.args.layer.now) m (λ _. writes (are_lines c.args.scale c.args.layer.now)) c.from_residual-in_err-push_line.result c.from_residual-in_err-push_line.ensures.1

pub loop-feature-preserved : goal.loop-feature-preserved
loop-feature-preserved c =
    let items = c.features-feature-items.result.now in
    let i = c.loop-feature.feature-index in
    let breach = told c.in_ok-breach.breach in (
      line_at c.args.scale items i c.feature-item.result breach c.loop-feature.text.items c.push_line.new.text.items (breach_line c.args.scale c.id.result.now breach) c.loop-feature-test.true c.feature-item.is c.in_ok-push_line.ensures
          (ap (λ id. breach_line c.args.scale id breach) c.id.ensures.value)
          c.in_ok-breach.ensures.breach c.loop-feature.invariant.0,
      refused_none items i c.feature-item.result c.loop-feature-test.true c.feature-item.is c.in_ok-breach.ensures.judged c.loop-feature.invariant.1,
    )
