use Rattle.loc_course.specs.Following.{answers_by}
use Rattle.loc_course.proofs.Going.{lacks_end}
use Rattle.loc_query.proofs.answering.answer_points.Goals as goal

pub returns-in_err-batch : goal.returns-in_err-batch
returns-in_err-batch g c = lacks_end c.from_residual.result c.from_residual.ensures.1

pub returns : goal.returns
returns g c = answers_by (rw (c.in_ok-batch.ensures.limit, c.in_ok-batch.ensures.scale, c.decimals.ensures.value) at c.answer_source.ensures)
