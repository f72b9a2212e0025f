use Rattle.std.proofs.Common.{rules, ◌∙◌}
use Rattle.loc_file.proofs.Steps.{handed}
use Rattle.loc_file.proofs.Fields.{number-short, number-wrong, number-read, word_is}
use Rattle.loc_file.proofs.cursor.Cursor.number.Goals as goal

pub returns-in_err-held-clause-err : goal.returns-in_err-held-clause-err
returns-in_err-held-clause-err c = handed c.from_residual.result _ _ c.from_residual.ensures.1 (λ n. number-short c.args.bound n c.in_err-held.ensures.err)

pub returns-then-value-bound-clause-err : goal.returns-then-value-bound-clause-err
returns-then-value-bound-clause-err c = λ n. number-wrong c.args.bound _ n _ c.in_ok-held.held.now c.offset-offset.ensures c.in_ok-held.ensures.ok (c.read_u32-value.ensures ∙ word_is c.in_ok-held.held.now) c.if-value-bound.true

pub returns-clause-ok : goal.returns-clause-ok
returns-clause-ok c = number-read c.args.bound _ c.in_ok-held.held.now c.in_ok-held.ensures.ok (search rules) (c.read_u32-value.ensures ∙ word_is c.in_ok-held.held.now) c.if-value-bound.false
