use Rattle.std.proofs.Common.{pos}
use Rattle.loc_file.specs.Readings.{stop}
use Rattle.loc_file.proofs.Steps.{handed, fault-first, fault-next}
use Rattle.loc_file.proofs.corners.next_point.Goals as goal

pub returns-in_err-x-clause-err : goal.returns-in_err-x-clause-err
returns-in_err-x-clause-err c = handed c.from_residual.result _ _ c.from_residual.ensures.1 (stop (record { x = pos 0; y = pos 0 }) _ tt (fault-first _ _ (c.in_err-x.ensures.err (pos 0))))

pub returns-in_err-y-clause-err : goal.returns-in_err-y-clause-err
returns-in_err-y-clause-err c = handed c.from_residual-in_err-y.result _ _ c.from_residual-in_err-y.ensures.1 (stop (record { x = c.in_ok-x.x; y = pos 0 }) _ tt (fault-next _ _ (c.in_ok-x.ensures.ok) (fault-first _ _ (c.in_err-y.ensures.err (pos 0)))))
