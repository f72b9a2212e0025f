use Rattle.std.proofs.Common.{◌∙◌, ap, arith}
use Rattle.std.proofs.lemmas.Result.{err_from_is_err_and}
use Rattle.loc_page.proofs.Growing.{goes-more, goes-stop, goes-end}
use Rattle.loc_write.specs.Bytes.{node_bytes}
use Rattle.loc_write.proofs.{Lists.cut-at, Lists.cut-end, Numbering.row-is}
use Rattle.loc_write.proofs.parts.put_nodes.Goals as goal

pub returns-in_err-put-clause-put : goal.returns-in_err-put-clause-put
returns-in_err-put-clause-put g c rows are =
    goes-stop _ _ _ _ _ c.in_err-put.was (err_from_is_err_and _ c.from_residual.ensures.1).1 (cut-at node_bytes rows c.loop-before.before _ _ (let many = are.as_many in omega (arith, many)) (c.as_slice.ensures.value ∙ (c.node_row-row.ensures ∙ ap node_bytes (row-is c.args.versions.now.rows rows c.loop-before.before c.row.result c.nodes-before-end.ensures.names are (omega arith) c.row.ensures.row))))
    (c.loop-before.invariant.goes rows are) c.put.ensures.put

pub loop-before-preserved : goal.loop-before-preserved
loop-before-preserved g c = record {
  making = c.in_ok-put.ensures.making;
  goes = λ rows are. goes-more _ _ _ _ _ c.in_ok-put.was (cut-at node_bytes rows c.loop-before.before _ _ (let many = are.as_many in omega (arith, many)) (c.as_slice.ensures.value ∙ (c.node_row-row.ensures ∙ ap node_bytes (row-is c.args.versions.now.rows rows c.loop-before.before c.row.result c.nodes-before-end.ensures.names are (omega arith) c.row.ensures.row)))) (c.loop-before.invariant.goes rows are) c.put.ensures.put;
}

pub returns-clause-put : goal.returns-clause-put
returns-clause-put g c rows are = goes-end _ _ _ _ c.loop-before.invariant.making (cut-end node_bytes rows c.loop-before.before (let many = are.as_many in omega (arith, many))) (c.loop-before.invariant.goes rows are)
