use Rattle.std.proofs.Common.{◌∙◌, ap, arith}
use Rattle.std.proofs.lemmas.Result.{err_from_is_err_and}
use Rattle.loc_page.proofs.Growing.{goes-more, goes-stop, goes-end}
use Rattle.loc_write.specs.Bytes.{corner_bytes}
use Rattle.loc_write.proofs.Lists.{cut-at, cut-end}
use Rattle.loc_write.proofs.parts.put_corners.Goals as goal

pub returns-in_err-put-clause-put : goal.returns-in_err-put-clause-put
returns-in_err-put-clause-put g c =
    goes-stop _ _ _ _ _ c.in_err-put.was (err_from_is_err_and _ c.from_residual.ensures.1).1 (cut-at corner_bytes c.args.table.now.corners c.loop-corner.corner _ _ (omega arith) (c.as_slice.ensures.value ∙ (c.corner_row-row.ensures ∙ ap corner_bytes c.corner.ensures)))
    c.loop-corner.invariant.goes c.put.ensures.put

pub loop-corner-preserved : goal.loop-corner-preserved
loop-corner-preserved g c = record {
  making = c.in_ok-put.ensures.making;
  goes = goes-more _ _ _ _ _ c.in_ok-put.was (cut-at corner_bytes c.args.table.now.corners c.loop-corner.corner _ _ (omega arith) (c.as_slice.ensures.value ∙ (c.corner_row-row.ensures ∙ ap corner_bytes c.corner.ensures))) c.loop-corner.invariant.goes c.put.ensures.put;
}

pub returns-clause-put : goal.returns-clause-put
returns-clause-put g c = goes-end _ _ _ _ c.loop-corner.invariant.making (cut-end corner_bytes c.args.table.now.corners c.loop-corner.corner (omega arith)) c.loop-corner.invariant.goes
