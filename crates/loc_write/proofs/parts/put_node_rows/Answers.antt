use Rattle.std.proofs.Common.{◌∙◌, arith}
use Rattle.std.proofs.lemmas.Result.{err_from_is_err_and}
use Rattle.loc_page.proofs.Growing.{goes-more, goes-stop, goes-end}
use Rattle.loc_write.specs.Bytes.{node_bytes}
use Rattle.loc_write.proofs.Lists.{cut-at, cut-end}
use Rattle.loc_write.proofs.parts.put_node_rows.Goals as goal

pub returns-in_err-put-clause-put : goal.returns-in_err-put-clause-put
returns-in_err-put-clause-put g c =
    goes-stop _ _ _ _ _ c.in_err-put.was (err_from_is_err_and _ c.from_residual.ensures.1).1 (cut-at node_bytes c.args.nodes.now c.loop-node.node-index _ _ (omega arith) (c.as_slice.ensures.value ∙ c.node_row.ensures))
    c.loop-node.invariant.goes c.put.ensures.put

pub loop-node-preserved : goal.loop-node-preserved
loop-node-preserved g c = record {
  making = c.in_ok-put.ensures.making;
  goes = goes-more _ _ _ _ _ c.in_ok-put.was (cut-at node_bytes c.args.nodes.now c.loop-node.node-index _ _ (omega arith) (c.as_slice.ensures.value ∙ c.node_row.ensures)) c.loop-node.invariant.goes c.put.ensures.put;
}

pub returns-clause-put : goal.returns-clause-put
returns-clause-put g c = goes-end _ _ _ _ c.loop-node.invariant.making (cut-end node_bytes c.args.nodes.now c.loop-node.node-index (omega arith)) c.loop-node.invariant.goes
