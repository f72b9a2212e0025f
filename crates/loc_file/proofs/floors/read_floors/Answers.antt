use Rattle.loc_spec_index.specs.IndexFile.{floor_field}
use Rattle.loc_file.specs.Readings.{one}
use Rattle.loc_file.proofs.{Steps.handed, Steps.unheld, Loops.alone-more, Loops.alone-stop}
use Rattle.loc_file.proofs.floors.read_floors.Goals as goal

pub returns-in_err-floor-clause-err : goal.returns-in_err-floor-clause-err
returns-in_err-floor-clause-err c = handed c.from_residual.result _ _ c.from_residual.ensures.1 (alone-stop (one (floor_field c.args.edges)) _ _ _ c.loop-row.invariant c.loop-row-test.true (c.in_err-floor.ensures.err))

pub returns-in_err-keep-clause-err : goal.returns-in_err-keep-clause-err
returns-in_err-keep-clause-err c = unheld _ _ _ c.from_residual-in_err-keep.result _ c.from_residual-in_err-keep.ensures.1 c.in_err-keep.ensures.err

pub loop-row-preserved : goal.loop-row-preserved
loop-row-preserved c = alone-more (one (floor_field c.args.edges)) _ _ _ _ c.loop-row.invariant c.in_ok-floor.ensures.ok (c.in_ok-keep.ensures.ok)
