use Rattle.std.proofs.{Common.arith, lemmas.Result.err_from_is_err_and}
use Rattle.loc_page.proofs.Growing.{goes-more, goes-stop, goes-end}
use Rattle.loc_write.proofs.Lists.{cut-marks, cut-marks-end}
use Rattle.loc_write.proofs.parts.put_marks.Goals as goal

pub returns-in_err-put_edge_marks-clause-put : goal.returns-in_err-put_edge_marks-clause-put
returns-in_err-put_edge_marks-clause-put g c =
    goes-stop _ _ _ _ _ c.in_err-put_edge_marks.was (err_from_is_err_and _ c.from_residual.ensures.1).1 (cut-marks c.args.table.now.marks c.loop-edge.edge c.marks.result.now (omega arith) c.marks.ensures.value)
    c.loop-edge.invariant.goes c.put_edge_marks.ensures.put

pub loop-edge-preserved : goal.loop-edge-preserved
loop-edge-preserved g c = record {
  making = c.in_ok-put_edge_marks.ensures.making;
  goes = goes-more _ _ _ _ _ c.in_ok-put_edge_marks.was (cut-marks c.args.table.now.marks c.loop-edge.edge c.marks.result.now (omega arith) c.marks.ensures.value) c.loop-edge.invariant.goes c.put_edge_marks.ensures.put;
}

pub returns-clause-put : goal.returns-clause-put
returns-clause-put g c = goes-end _ _ _ _ c.loop-edge.invariant.making (cut-marks-end c.args.table.now.marks c.loop-edge.edge (omega arith)) c.loop-edge.invariant.goes
