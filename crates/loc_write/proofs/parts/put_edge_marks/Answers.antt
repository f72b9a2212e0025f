use Rattle.std.proofs.Common.{◌∙◌, arith}
use Rattle.std.proofs.lemmas.Result.{err_from_is_err_and}
use Rattle.loc_page.proofs.Growing.{goes-more, goes-stop, goes-end}
use Rattle.loc_write.proofs.Lists.{cut-mark, cut-mark-end}
use Rattle.loc_write.proofs.parts.put_edge_marks.Goals as goal

pub returns-in_err-put-clause-put : goal.returns-in_err-put-clause-put
returns-in_err-put-clause-put g c =
    goes-stop _ _ _ _ _ c.in_err-put.was (err_from_is_err_and _ c.from_residual.ensures.1).1 (cut-mark c.args.edge c.args.marks.now c.loop-mark.mark-index _ _ (omega arith) (c.as_slice.ensures.value ∙ c.mark_row-row.ensures))
    c.loop-mark.invariant.goes c.put.ensures.put

pub loop-mark-preserved : goal.loop-mark-preserved
loop-mark-preserved g c = record {
  making = c.in_ok-put.ensures.making;
  goes = goes-more _ _ _ _ _ c.in_ok-put.was (cut-mark c.args.edge c.args.marks.now c.loop-mark.mark-index _ _ (omega arith) (c.as_slice.ensures.value ∙ c.mark_row-row.ensures)) c.loop-mark.invariant.goes c.put.ensures.put;
}

pub returns-clause-put : goal.returns-clause-put
returns-clause-put g c = goes-end _ _ _ _ c.loop-mark.invariant.making (cut-mark-end c.args.edge c.args.marks.now c.loop-mark.mark-index (omega arith)) c.loop-mark.invariant.goes
