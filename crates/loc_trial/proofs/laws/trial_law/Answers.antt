use Rattle.loc_trial.proofs.Plain.{trial_past, trial_plain, trial_steps}
use Rattle.loc_trial.proofs.laws.trial_law.Goals as goal

pub returns-clause-past : goal.returns-clause-past
returns-clause-past c = trial_past

pub returns-clause-plain : goal.returns-clause-plain
returns-clause-plain c = trial_plain

pub returns-clause-steps : goal.returns-clause-steps
returns-clause-steps c = trial_steps
