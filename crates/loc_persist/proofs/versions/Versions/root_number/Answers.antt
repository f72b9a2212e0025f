use Rattle.std.proofs.Common.{◌≤◌, length, subst}
use Rattle.loc_persist.specs.Meaning.{VersionsMeaning}
use Rattle.loc_persist.proofs.Bounds.{number-within}
use Rattle.loc_persist.proofs.versions.Versions.root_number.Goals as goal

pub returns-clause-bound : goal.returns-clause-bound
returns-clause-bound c = subst (λ (m : VersionsMeaning). c.root_number.result ≤ length m.rows) c.self.view_is (number-within _ _ _ c.root_number.ensures.2)
