use Rattle.std.proofs.Common.{map, ap, ◌∙◌}
use Rattle.loc_spec_index.specs.IndexFile.{id_fields}
use Rattle.loc_file.proofs.{Steps.handed, Steps.unheld, Loops.alone-more, Loops.alone-stop}
use Rattle.std.proofs.lemmas.List.{map-append}
use Rattle.loc_file.proofs.ids.read_ids.Goals as goal

pub returns-in_err-id-clause-err : goal.returns-in_err-id-clause-err
returns-in_err-id-clause-err c = handed c.from_residual.result _ _ c.from_residual.ensures.1 (alone-stop (id_fields) _ _ _ c.loop-row.invariant c.loop-row-test.true (c.in_err-id.ensures.err))

pub returns-in_err-keep-clause-err : goal.returns-in_err-keep-clause-err
returns-in_err-keep-clause-err c = unheld _ _ _ c.from_residual-in_err-keep.result _ c.from_residual-in_err-keep.ensures.1 c.in_err-keep.ensures.err

pub loop-row-preserved : goal.loop-row-preserved
loop-row-preserved c = alone-more (id_fields) _ _ _ _ c.loop-row.invariant c.in_ok-id.ensures.ok (ap (map (λ v. v.items)) c.in_ok-keep.ensures.ok ∙ map-append _ _ _)
