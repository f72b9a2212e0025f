use Rattle.loc_course.proofs.Going.{lacks_end}
use Rattle.loc_features.proofs.asking.answer_points.Goals as goal

pub returns-in_err-parted : goal.returns-in_err-parted
returns-in_err-parted g c = lacks_end c.from_residual.result c.from_residual.ensures.1
