use Rattle.loc_spec_index.specs.IndexFile.{mark_row}
use Rattle.loc_file.proofs.{Steps.handed, Steps.unheld, Loops.kept-more, Loops.kept-stop}
use Rattle.loc_file.proofs.marks.read_marks.Goals as goal

pub returns-in_err-mark-clause-err : goal.returns-in_err-mark-clause-err
returns-in_err-mark-clause-err c = handed c.from_residual.result _ _ c.from_residual.ensures.1 (kept-stop (mark_row c.args.edges c.args.features) _ _ _ _ c.loop-row.invariant c.loop-row-test.true c.in_err-mark.ensures.err)

pub returns-in_err-keep-clause-err : goal.returns-in_err-keep-clause-err
returns-in_err-keep-clause-err c = unheld _ _ _ c.from_residual-in_err-keep.result _ c.from_residual-in_err-keep.ensures.1 c.in_err-keep.ensures.err

pub loop-row-preserved : goal.loop-row-preserved
loop-row-preserved c = kept-more (mark_row c.args.edges c.args.features) _ _ _ _ _ c.loop-row.invariant c.in_ok-mark.ensures.ok c.in_ok-keep.ensures.ok
