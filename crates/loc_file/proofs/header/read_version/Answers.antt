use Rattle.std.proofs.Common.{refl, ◌∙◌}
use Rattle.loc_spec_index.specs.IndexFile.{version}
use Rattle.loc_file.proofs.{Steps.handed, Fields.short-at, Fields.version-wrong, Fields.word_is}
use Rattle.loc_file.proofs.header.read_version.Goals as goal

pub returns-in_err-held-clause-err : goal.returns-in_err-held-clause-err
returns-in_err-held-clause-err c = handed c.from_residual.result _ _ c.from_residual.ensures.1 (λ v. short-at (version v) 4 refl c.in_err-held.ensures.err)

pub returns-clause-err : goal.returns-clause-err
returns-clause-err c = λ v. version-wrong v _ c.in_ok-held.held.now c.in_ok-held.ensures.ok (c.read_u32-found.ensures ∙ word_is c.in_ok-held.held.now) c.if-found-eq1.false c.if-found-eq2.false
