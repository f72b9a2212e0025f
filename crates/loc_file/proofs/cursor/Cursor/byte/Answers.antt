use Rattle.std.proofs.Common.{refl}
use Rattle.loc_file.proofs.{Steps.handed, Fields.byte-short, Fields.byte-wrong}
use Rattle.loc_file.proofs.cursor.Cursor.byte.Goals as goal

pub returns-in_err-held-clause-err : goal.returns-in_err-held-clause-err
returns-in_err-held-clause-err c = handed c.from_residual.result _ _ c.from_residual.ensures.1 (λ n. byte-short c.args.bound n c.in_err-held.ensures.err)

pub returns-then-value-bound-clause-err : goal.returns-then-value-bound-clause-err
returns-then-value-bound-clause-err c = λ n. byte-wrong c.args.bound _ n _ c.in_ok-held.held.now c.offset-offset.ensures c.in_ok-held.ensures.ok refl c.if-value-bound.true
