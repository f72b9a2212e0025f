use Rattle.loc_spec_index.specs.IndexFile.{corner_row}
use Rattle.loc_file.proofs.{Steps.handed, Steps.unheld, Loops.kept-more, Loops.kept-stop}
use Rattle.loc_file.proofs.corners.read_corners.Goals as goal

pub returns-in_err-corner-clause-err : goal.returns-in_err-corner-clause-err
returns-in_err-corner-clause-err c = handed c.from_residual.result _ _ c.from_residual.ensures.1 (kept-stop (corner_row) _ _ _ _ c.loop-row.invariant c.loop-row-test.true c.in_err-corner.ensures.err)

pub returns-in_err-keep-clause-err : goal.returns-in_err-keep-clause-err
returns-in_err-keep-clause-err c = unheld _ _ _ c.from_residual-in_err-keep.result _ c.from_residual-in_err-keep.ensures.1 c.in_err-keep.ensures.err

pub loop-row-preserved : goal.loop-row-preserved
loop-row-preserved c = kept-more (corner_row) _ _ _ _ _ c.loop-row.invariant c.in_ok-corner.ensures.ok c.in_ok-keep.ensures.ok
