use Rattle.loc_file.proofs.OneFault.{one_refusal, no_refusal}
use Rattle.loc_file.proofs.laws.one_refusal.Goals as goal

pub returns-clause-one : goal.returns-clause-one
returns-clause-one c = one_refusal

pub returns-clause-apart : goal.returns-clause-apart
returns-clause-apart c = no_refusal
