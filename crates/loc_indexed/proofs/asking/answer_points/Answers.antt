use Rattle.loc_course.specs.Following.{answers_by}
use Rattle.loc_course.proofs.Going.{lacks_end}
use Rattle.loc_indexed.proofs.OwnRows.{rows_are}
use Rattle.loc_indexed.proofs.asking.answer_points.Goals as goal

pub returns-in_err-batch : goal.returns-in_err-batch
returns-in_err-batch g c = lacks_end c.from_residual.result c.from_residual.ensures.1

pub returns : goal.returns
returns g c =
    let l = c.legend.ensures in
    let rows = rows_are c.args.held.now.content c.legend.result.now l.ids l.covers l.cover_of l.floors l.fits in
    answers_by (rw (c.in_ok-batch.ensures.limit, c.in_ok-batch.ensures.scale, c.scale.ensures.value, c.table.ensures, rows) at c.answer_source.ensures)
