use Rattle.loc_upgrade.proofs.{Along.edges_plain, Along.edges_search_nothing, EdgesTold.tells}
use Rattle.loc_upgrade.proofs.laws.edges_law.Goals as goal

pub returns-clause-tells : goal.returns-clause-tells
returns-clause-tells c = tells

pub returns-clause-plain : goal.returns-clause-plain
returns-clause-plain c = edges_plain

pub returns-clause-searches_nothing : goal.returns-clause-searches_nothing
returns-clause-searches_nothing c = edges_search_nothing
