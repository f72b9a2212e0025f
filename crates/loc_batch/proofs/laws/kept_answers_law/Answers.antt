use Rattle.loc_batch.proofs.Points.{answer_kept, told_kept}
use Rattle.loc_batch.proofs.laws.kept_answers_law.Goals as goal

pub returns-clause-places : goal.returns-clause-places
returns-clause-places g c = answer_kept

pub returns-clause-told : goal.returns-clause-told
returns-clause-told g c scale line = told_kept scale _ _ line
