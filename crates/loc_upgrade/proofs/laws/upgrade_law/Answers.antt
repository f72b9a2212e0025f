use Rattle.loc_upgrade.proofs.Alikeness.{asked_alike, judged_alike}
use Rattle.loc_upgrade.proofs.Along.{upgrade_at_once, upgrade_makes_one, upgrade_searches_nothing}
use Rattle.loc_upgrade.proofs.Upgraded.{is_upgrade, upgrades}
use Rattle.loc_upgrade.proofs.laws.upgrade_law.Goals as goal

pub returns-clause-is_upgrade : goal.returns-clause-is_upgrade
returns-clause-is_upgrade c = is_upgrade

pub returns-clause-upgrades : goal.returns-clause-upgrades
returns-clause-upgrades c = upgrades

pub returns-clause-asked : goal.returns-clause-asked
returns-clause-asked c = λ bytes made old new points text r s is. asked_alike bytes made is old new points text r s

pub returns-clause-judged : goal.returns-clause-judged
returns-clause-judged c = λ bytes made old new r s is. judged_alike bytes made is old new r s

pub returns-clause-at_once : goal.returns-clause-at_once
returns-clause-at_once c = upgrade_at_once

pub returns-clause-makes_one : goal.returns-clause-makes_one
returns-clause-makes_one c = upgrade_makes_one

pub returns-clause-searches_nothing : goal.returns-clause-searches_nothing
returns-clause-searches_nothing c = upgrade_searches_nothing
