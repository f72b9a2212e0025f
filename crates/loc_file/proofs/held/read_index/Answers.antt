use Rattle.std.proofs.Common.{sym, subst, arith}
use Rattle.loc_spec_index.specs.declared.IndexFault.TheVariants as fault
use Rattle.loc_spec_index.specs.IndexFile.{IsFileOf}
use Rattle.loc_file.specs.{Keeping.FileOf, Refused.IsRefused, Refused.unheld}
use Rattle.loc_file.proofs.{Steps.handed, Refusals.refused, Refusals.refused-long, Refusals.file-whole}
use Rattle.loc_file.proofs.held.read_index.Goals as goal

pub returns-in_err-parts-clause-err : goal.returns-in_err-parts-clause-err
returns-in_err-parts-clause-err c = handed c.from_residual.result _ _ c.from_residual.ensures.1 (refused c.args.bytes.now c.new-cursor.result c.new-cursor.ensures.rest c.new-cursor.ensures.offset c.in_err-parts.ensures.err.0 c.in_err-parts.ensures.err.1)

pub returns-then-rest-gt-MOST_LEFT-clause-err : goal.returns-then-rest-gt-MOST_LEFT-clause-err
returns-then-rest-gt-MOST_LEFT-clause-err c =
    subst (λ n. IsRefused c.args.bytes.now (fault.Long n)) (sym c.len-rest.ensures)
    (refused-long c.args.bytes.now c.new-cursor.result c.new-cursor.ensures.rest c.new-cursor.ensures.offset c.in_ok-parts.parts.version _ _ c.in_ok-parts.ensures.shaped c.in_ok-parts.ensures.ok (omega (arith, c.len-rest.ensures, c.if-rest-gt-MOST_LEFT.true)))

pub returns-in-Ok-clause-ok : goal.returns-in-Ok-clause-ok
returns-in-Ok-clause-ok c =
    subst (λ (k : FileOf). IsFileOf k.version k.content c.args.bytes.now) (sym c.in-Ok.ensures)
    (file-whole c.args.bytes.now c.new-cursor.result c.new-cursor.ensures.rest c.new-cursor.ensures.offset c.in_ok-parts.parts.version _ _ c.in_ok-parts.ensures.shaped c.in_ok-parts.ensures.ok (omega (arith, c.len-rest.ensures, c.if-rest-gt-MOST_LEFT.false)))

pub returns-in-Err-clause-err : goal.returns-in-Err-clause-err
returns-in-Err-clause-err c = unheld
