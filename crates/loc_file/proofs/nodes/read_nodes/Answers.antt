use Rattle.loc_spec_index.specs.IndexFile.{node_fields}
use Rattle.loc_file.proofs.{Steps.handed, Steps.unheld, Loops.alone-more, Loops.alone-stop}
use Rattle.loc_file.proofs.nodes.read_nodes.Goals as goal

pub returns-in_err-node-clause-err : goal.returns-in_err-node-clause-err
returns-in_err-node-clause-err c = handed c.from_residual.result _ _ c.from_residual.ensures.1 (alone-stop (node_fields c.args.edges c.args.corners c.args.count) _ _ _ c.loop-row.invariant c.loop-row-test.true (c.in_err-node.ensures.err))

pub returns-in_err-keep-clause-err : goal.returns-in_err-keep-clause-err
returns-in_err-keep-clause-err c = unheld _ _ _ c.from_residual-in_err-keep.result _ c.from_residual-in_err-keep.ensures.1 c.in_err-keep.ensures.err

pub loop-row-preserved : goal.loop-row-preserved
loop-row-preserved c = alone-more (node_fields c.args.edges c.args.corners c.args.count) _ _ _ _ c.loop-row.invariant c.in_ok-node.ensures.ok (c.in_ok-keep.ensures.ok)
