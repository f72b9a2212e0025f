use Rattle.loc_file.specs.Told.{told_row}
use Rattle.loc_file.proofs.{Steps.handed, Steps.unheld, Loops.kept-more, Loops.kept-stop}
use Rattle.loc_file.proofs.edges.read_edges.Goals as goal

pub returns-in_err-edge-clause-err : goal.returns-in_err-edge-clause-err
returns-in_err-edge-clause-err c = handed c.from_residual.result _ _ c.from_residual.ensures.1 (kept-stop (told_row c.args.version c.args.corners c.args.covers) _ _ _ _ c.loop-row.invariant c.loop-row-test.true c.in_err-edge.ensures.err)

pub returns-in_err-keep-clause-err : goal.returns-in_err-keep-clause-err
returns-in_err-keep-clause-err c = unheld _ _ _ c.from_residual-in_err-keep.result _ c.from_residual-in_err-keep.ensures.1 c.in_err-keep.ensures.err

pub loop-row-preserved : goal.loop-row-preserved
loop-row-preserved c = kept-more (told_row c.args.version c.args.corners c.args.covers) _ _ _ _ _ c.loop-row.invariant c.in_ok-edge.ensures.ok c.in_ok-keep.ensures.ok
