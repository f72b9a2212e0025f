use Rattle.std.proofs.Common.{ap, ◌∙◌}
use Rattle.std.specs.{Prelude.None, Int.w32, List.last_or}
use Rattle.loc_spec_index.specs.IndexFile.{number}
use Rattle.loc_file.specs.Readings.{stop, one}
use Rattle.loc_file.proofs.{Steps.handed, Steps.unheld, Steps.fault-first, Loops.alone-more, Loops.alone-stop}
use Rattle.loc_laws_index.proofs.RightRows.{last-is}
use Rattle.loc_file.proofs.Orders.{rising-more}
use Rattle.loc_file.proofs.covers.read_numbers.Goals as goal

pub returns-in_err-number-clause-err : goal.returns-in_err-number-clause-err
returns-in_err-number-clause-err c = handed c.from_residual.result _ _ c.from_residual.ensures.1 (alone-stop (one (number w32 c.args.bound)) _ _ _ c.loop-row.invariant.rows c.loop-row-test.true (stop 0 _ tt (fault-first _ _ (c.in_err-number.ensures.err 0))))

pub returns-in_err-keep-clause-err : goal.returns-in_err-keep-clause-err
returns-in_err-keep-clause-err c = unheld _ _ _ c.from_residual-in_err-keep.result _ c.from_residual-in_err-keep.ensures.1 c.in_err-keep.ensures.err

pub loop-row-preserved : goal.loop-row-preserved
loop-row-preserved c = record {
  rows = alone-more (one (number w32 c.args.bound)) _ _ _ _ c.loop-row.invariant.rows c.in_ok-number.ensures.ok c.in_ok-keep.ensures.ok;
  last_is = ap (last_or None) c.in_ok-keep.ensures.ok ∙ last-is None c.loop-row.numbers.items c.in_ok-number.number;
  rising = rising-more c.in_ok-number.number c.loop-row.numbers.items _ _ _ _ c.loop-row.invariant.last_is c.loop-row.invariant.rising c.is_still-rises.ensures c.in_ok-keep.ensures.ok;
}
