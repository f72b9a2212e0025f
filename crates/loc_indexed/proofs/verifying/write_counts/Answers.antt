use Rattle.std.proofs.Common.{◌∙◌}
use Rattle.loc_course.proofs.{Going.lacks_end, Told.exactly_it}
use Rattle.loc_indexed.proofs.verifying.write_counts.Goals as goal

pub returns-in_err-line : goal.returns-in_err-line
returns-in_err-line g c shelf k = lacks_end c.from_residual.result c.from_residual.ensures.1

pub returns : goal.returns
returns g c shelf k = c.write_out.ensures _ (exactly_it _ _ (c.deref.ensures.value ∙ c.in_ok-line.ensures)) shelf k
