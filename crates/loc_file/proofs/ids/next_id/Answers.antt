use Rattle.std.proofs.Common.{[]}
use Rattle.loc_file.specs.Readings.{stop, no_memory}
use Rattle.loc_file.proofs.{Steps.handed, Steps.fault-first, Texts.at_id}
use Rattle.loc_file.proofs.ids.next_id.Goals as goal

pub returns-in_err-count-clause-err : goal.returns-in_err-count-clause-err
returns-in_err-count-clause-err c = handed c.from_residual.result _ _ c.from_residual.ensures.1 (stop ([]) _ tt (fault-first _ _ (c.in_err-count.ensures.err 0)))

pub returns-in_err-bytes-clause-err : goal.returns-in_err-bytes-clause-err
returns-in_err-bytes-clause-err c = handed c.from_residual-in_err-bytes.result _ _ c.from_residual-in_err-bytes.ensures.1 (at_id c.in_ok-count.count c.in_ok-count.ensures.ok c.in_err-bytes.ensures.err)

pub returns-in-Err-clause-err : goal.returns-in-Err-clause-err
returns-in-Err-clause-err c = no_memory
