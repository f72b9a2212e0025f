use Rattle.std.specs.Prelude.{None}
use Rattle.loc_file.specs.Readings.{stop}
use Rattle.loc_file.proofs.Steps.{handed, fault-first}
use Rattle.loc_file.proofs.floors.next_floor.Goals as goal

pub returns-in_err-number-clause-err : goal.returns-in_err-number-clause-err
returns-in_err-number-clause-err c = handed c.from_residual.result _ _ c.from_residual.ensures.1 (stop (None) _ tt (fault-first _ _ (c.in_err-number.ensures.err 0)))
