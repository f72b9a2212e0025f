use Rattle.loc_laws_judge.proofs.{First.true_has_none, Readable.files_are_readable, Same.first_is_found}
use Rattle.loc_indexed.proofs.Flawed.{goes_flawed, goes_unflawed}
use Rattle.loc_indexed.proofs.verifying.judge_held.Goals as goal

pub returns-in-Ok-clause-goes_on : goal.returns-in-Ok-clause-goes_on
returns-in-Ok-clause-goes_on c m last end follows =
    let held = c.args.held.now.content in
    goes_unflawed held m last (true_has_none held (files_are_readable _ c.args.held.now.version held c.law.ensures) c.in-Ok.ensures.ok) follows

pub returns-in-Err-clause-goes_on : goal.returns-in-Err-clause-goes_on
returns-in-Err-clause-goes_on c m =
    let held = c.args.held.now.content in
    rw c.flaw_stop_of.ensures (goes_flawed first_is_found held m (files_are_readable _ c.args.held.now.version held c.law.ensures) c.in-Err.fault c.in-Err.ensures.first)

pub returns-in-Err-clause-is_true : goal.returns-in-Err-clause-is_true
returns-in-Err-clause-is_true c = tt
