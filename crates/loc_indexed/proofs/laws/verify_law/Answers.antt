use Rattle.loc_indexed.proofs.VerifyRows.{verifies, verify_plain, verify_searches_nothing}
use Rattle.loc_indexed.proofs.laws.verify_law.Goals as goal

pub returns-clause-verifies : goal.returns-clause-verifies
returns-clause-verifies c = verifies

pub returns-clause-plain : goal.returns-clause-plain
returns-clause-plain c = verify_plain

pub returns-clause-searches_nothing : goal.returns-clause-searches_nothing
returns-clause-searches_nothing c = verify_searches_nothing
