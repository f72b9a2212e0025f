use Rattle.std.proofs.Common.{refl, sym}
use Rattle.loc_file.proofs.{Steps.handed, Fields.short-at, Fields.magic-wrong}
use Rattle.loc_file.proofs.header.read_magic.Goals as goal

pub returns-in_err-held-clause-err : goal.returns-in_err-held-clause-err
returns-in_err-held-clause-err c = handed c.from_residual.result _ _ c.from_residual.ensures.1 (short-at _ 8 refl c.in_err-held.ensures.err)

pub returns-else-eq-clause-err : goal.returns-else-eq-clause-err
returns-else-eq-clause-err c = magic-wrong c.in_ok-held.held.now c.in_ok-held.ensures.ok (sym c.if-eq.ensures)
