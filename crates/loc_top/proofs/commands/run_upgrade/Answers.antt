use Rattle.loc_top.proofs.commands.run_upgrade.Goals as goal

pub returns-clause-follows : goal.returns-clause-follows
returns-clause-follows g c = c.upgrade.ensures.follows

pub returns-clause-beside : goal.returns-clause-beside
returns-clause-beside g c = c.upgrade.ensures.upgraded
