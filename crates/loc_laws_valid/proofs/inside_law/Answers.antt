use Rattle.loc_laws_valid.proofs.{ByLists.breaches_by_lists, Inside.inside_by_list}
use Rattle.loc_laws_valid.proofs.inside_law.Goals as goal

pub returns-clause-inside : goal.returns-clause-inside
returns-clause-inside c = inside_by_list

pub returns-clause-breaches : goal.returns-clause-breaches
returns-clause-breaches c = breaches_by_lists
