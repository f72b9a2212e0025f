use Rattle.loc_file.specs.Readings.{stop}
use Rattle.loc_file.proofs.Steps.{handed, fault-first, fault-next}
use Rattle.loc_file.proofs.cursor.Cursor.two_numbers.Goals as goal

pub returns-in_err-former-clause-err : goal.returns-in_err-former-clause-err
returns-in_err-former-clause-err c = handed c.from_residual.result _ _ c.from_residual.ensures.1 (stop (0, 0) _ tt (fault-first _ _ (c.in_err-former.ensures.err 0)))

pub returns-in_err-latter-clause-err : goal.returns-in_err-latter-clause-err
returns-in_err-latter-clause-err c = handed c.from_residual-in_err-latter.result _ _ c.from_residual-in_err-latter.ensures.1 (stop (c.in_ok-former.former, 0) _ tt (fault-next _ _ c.in_ok-former.ensures.ok (fault-first _ _ (c.in_err-latter.ensures.err 0))))
