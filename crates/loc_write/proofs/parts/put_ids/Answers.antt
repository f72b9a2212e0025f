use Rattle.std.proofs.Common.{◌∙◌, arith}
use Rattle.std.proofs.lemmas.Result.{err_from_is_err_and}
use Rattle.loc_page.proofs.Growing.{goes-more, goes-stop, goes-end}
use Rattle.loc_write.specs.Bytes.{id_bytes}
use Rattle.loc_write.proofs.Lists.{cut-row, cut-end}
use Rattle.loc_write.proofs.parts.put_ids.Goals as goal

pub returns-in_err-put-clause-put : goal.returns-in_err-put-clause-put
returns-in_err-put-clause-put g c =
    goes-stop _ _ _ _ _ c.in_err-put.was (err_from_is_err_and _ c.from_residual.ensures.1).1 (cut-row id_bytes c.args.legend.now.ids c.loop-feature.feature c.id.result.now _ (omega arith) c.id.ensures (c.as_slice.ensures.value ∙ c.id_row-row.ensures))
    c.loop-feature.invariant.goes c.put.ensures.put

pub loop-feature-preserved : goal.loop-feature-preserved
loop-feature-preserved g c = record {
  making = c.in_ok-put.ensures.making;
  goes = goes-more _ _ _ _ _ c.in_ok-put.was (cut-row id_bytes c.args.legend.now.ids c.loop-feature.feature c.id.result.now _ (omega arith) c.id.ensures (c.as_slice.ensures.value ∙ c.id_row-row.ensures)) c.loop-feature.invariant.goes c.put.ensures.put;
}

pub returns-clause-put : goal.returns-clause-put
returns-clause-put g c = goes-end _ _ _ _ c.loop-feature.invariant.making (cut-end id_bytes c.args.legend.now.ids c.loop-feature.feature (omega arith)) c.loop-feature.invariant.goes
