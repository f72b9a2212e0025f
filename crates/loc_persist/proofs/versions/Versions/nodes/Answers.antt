-- The names of the store are the names of the list.
use Rattle.std.proofs.Common.{subst}
use Rattle.loc_pool.specs.{Maps.links, Rows.AreNames}
use Rattle.loc_persist.specs.Meaning.{VersionsMeaning}
use Rattle.loc_persist.proofs.versions.Versions.nodes.Goals as goal

pub returns-clause-names : goal.returns-clause-names
returns-clause-names c = subst (λ (m : VersionsMeaning). AreNames (links m.rows)) c.self.view_is c.nodes.ensures.names
