use Rattle.loc_course.specs.Following.{answers_by}
use Rattle.loc_course.proofs.Going.{lacks_end}
use Rattle.loc_features.proofs.Answered.{told_lines}
use Rattle.loc_features.proofs.asking.answer_by.Goals as goal

pub returns-in_err-batch : goal.returns-in_err-batch
returns-in_err-batch g c = lacks_end c.from_residual.result c.from_residual.ensures.1

pub returns : goal.returns
returns g c = answers_by (rw (told_lines g.row.N c.args.scale c.args.layer.now c.args.parted.now.parts.items) at (rw (c.in_ok-batch.ensures.limit, c.in_ok-batch.ensures.scale, c.decimals.ensures.value) at c.answer_lines.ensures))
