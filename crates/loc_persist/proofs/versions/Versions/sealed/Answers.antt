-- What the store tells, and what is kept beside it.
use Rattle.std.proofs.Common.{subst}
use Rattle.loc_persist.specs.Meaning.{VersionsMeaning, IsMeaning}
use Rattle.loc_persist.proofs.Meanings.{facts-of}
use Rattle.loc_persist.proofs.versions.Versions.sealed.Goals as goal

pub returns-clause-facts : goal.returns-clause-facts
returns-clause-facts c =
    let i = c.self.inside in let f = c.sealed.ensures.facts in
    subst (λ (m : VersionsMeaning). IsMeaning m) c.self.view_is (facts-of i.store f.0 i.inserted i.removed i.past_greatest i.is_changed f.1 c.self.invariant)
