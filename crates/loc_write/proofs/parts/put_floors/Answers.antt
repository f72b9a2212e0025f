use Rattle.std.proofs.Common.{◌∙◌, ap, arith}
use Rattle.std.proofs.lemmas.Result.{err_from_is_err_and}
use Rattle.loc_spec_index.specs.IndexFile.{none_or_next}
use Rattle.loc_page.proofs.Growing.{goes-more, goes-stop, goes-end}
use Rattle.loc_write.specs.Bytes.{number_bytes}
use Rattle.loc_write.proofs.Lists.{cut-row, cut-end}
use Rattle.loc_write.proofs.parts.put_floors.Goals as goal

pub returns-in_err-put-clause-put : goal.returns-in_err-put-clause-put
returns-in_err-put-clause-put g c =
    goes-stop _ _ _ _ _ c.in_err-put.was (err_from_is_err_and _ c.from_residual.ensures.1).1 (cut-row (λ floor. number_bytes (none_or_next floor)) c.args.legend.now.floors c.loop-corner.corner c.floor.result _ (omega arith) c.floor.ensures (c.as_slice.ensures.value ∙ (c.number_row-row.ensures ∙ ap number_bytes c.floor_number.ensures)))
    c.loop-corner.invariant.goes c.put.ensures.put

pub loop-corner-preserved : goal.loop-corner-preserved
loop-corner-preserved g c = record {
  making = c.in_ok-put.ensures.making;
  goes = goes-more _ _ _ _ _ c.in_ok-put.was (cut-row (λ floor. number_bytes (none_or_next floor)) c.args.legend.now.floors c.loop-corner.corner c.floor.result _ (omega arith) c.floor.ensures (c.as_slice.ensures.value ∙ (c.number_row-row.ensures ∙ ap number_bytes c.floor_number.ensures))) c.loop-corner.invariant.goes c.put.ensures.put;
}

pub returns-clause-put : goal.returns-clause-put
returns-clause-put g c = goes-end _ _ _ _ c.loop-corner.invariant.making (cut-end (λ floor. number_bytes (none_or_next floor)) c.args.legend.now.floors c.loop-corner.corner (omega arith)) c.loop-corner.invariant.goes
