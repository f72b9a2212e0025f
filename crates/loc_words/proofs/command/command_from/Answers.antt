use Rattle.std.proofs.Common.{rules}
use Rattle.std.specs.Prelude.{codes}
use Rattle.loc_words.specs.Apps.{given_by}
use Rattle.loc_words.proofs.NamedRows.{made_by_name}
use Rattle.loc_words.proofs.command.command_from.Goals as goal

pub returns-in-trial-clause-value : goal.returns-in-trial-clause-value
returns-in-trial-clause-value c = made_by_name c.args.name.now (codes "trial") (given_by c.args.given.now) _ (search rules) c.trial_from.ensures.value

pub returns-in-upgrade-clause-value : goal.returns-in-upgrade-clause-value
returns-in-upgrade-clause-value c = made_by_name c.args.name.now (codes "upgrade") (given_by c.args.given.now) _ (search rules) c.upgrade_from.ensures.value

pub returns-in-edges-clause-value : goal.returns-in-edges-clause-value
returns-in-edges-clause-value c = made_by_name c.args.name.now (codes "edges") (given_by c.args.given.now) _ (search rules) c.edges_from.ensures.value

pub returns-in-stab-clause-value : goal.returns-in-stab-clause-value
returns-in-stab-clause-value c = made_by_name c.args.name.now (codes "stab") (given_by c.args.given.now) _ (search rules) c.stab_from.ensures.value

pub returns-in-valid-clause-value : goal.returns-in-valid-clause-value
returns-in-valid-clause-value c = made_by_name c.args.name.now (codes "valid") (given_by c.args.given.now) _ (search rules) c.valid_from.ensures.value

pub returns-in-dissolve-clause-value : goal.returns-in-dissolve-clause-value
returns-in-dissolve-clause-value c = made_by_name c.args.name.now (codes "dissolve") (given_by c.args.given.now) _ (search rules) c.dissolve_from.ensures.value
