use Rattle.loc_trial.proofs.Plain.{gen_past, gen_plain, gen_searches_nothing, gen_within}
use Rattle.loc_trial.proofs.laws.gen_law.Goals as goal

pub returns-clause-within : goal.returns-clause-within
returns-clause-within c = gen_within

pub returns-clause-past : goal.returns-clause-past
returns-clause-past c = gen_past

pub returns-clause-plain : goal.returns-clause-plain
returns-clause-plain c = gen_plain

pub returns-clause-searches_nothing : goal.returns-clause-searches_nothing
returns-clause-searches_nothing c = gen_searches_nothing
