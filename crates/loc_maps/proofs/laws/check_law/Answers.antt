use Rattle.loc_maps.proofs.Checked.{check_plain, check_searches_nothing}
use Rattle.loc_maps.proofs.laws.check_law.Goals as goal

pub returns-clause-plain : goal.returns-clause-plain
returns-clause-plain c file = check_plain file

pub returns-clause-searches_nothing : goal.returns-clause-searches_nothing
returns-clause-searches_nothing c file = check_searches_nothing file
