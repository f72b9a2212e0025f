use Rattle.loc_laws_judge.proofs.First.{found_is_first, none_is_true, true_has_none}
use Rattle.loc_laws_judge.proofs.{Readable.files_are_readable, Same.first_is_found}
use Rattle.loc_laws_judge.proofs.first_flaw_law.Goals as goal

pub returns-clause-file : goal.returns-clause-file
returns-clause-file c = files_are_readable

pub returns-clause-none : goal.returns-clause-none
returns-clause-none c = none_is_true

pub returns-clause-is_true : goal.returns-clause-is_true
returns-clause-is_true c = true_has_none

pub returns-clause-found : goal.returns-clause-found
returns-clause-found c = found_is_first

pub returns-clause-same : goal.returns-clause-same
returns-clause-same c = first_is_found
