-- The sealed version has the present list.
use Rattle.std.proofs.Common.{false, sym, subst}
use Rattle.loc_persist.specs.Stored.{Stored}
use Rattle.loc_persist.specs.Meaning.{VersionsMeaning, Seals, meaning, IsKept}
use Rattle.loc_persist.proofs.Meanings.{kept-seal, seals-of}
use Rattle.loc_persist.proofs.versions.Versions.seal.Goals as goal

pub invariant_of-self-2 : goal.invariant_of-self-2
invariant_of-self-2 c =
    let i = c.self.inside in
    subst (λ (s : Stored). IsKept s i.inserted i.removed i.past_greatest false) (sym c.in_ok-seal.ensures.sealed) (kept-seal i.store i.inserted i.removed i.past_greatest i.is_changed c.in_ok-seal.ensures.present c.self.invariant)

pub returns-clause-seals : goal.returns-clause-seals
returns-clause-seals c =
    let i = c.self.inside in
    subst (λ (m : VersionsMeaning). Seals m (meaning c.seal.new.self i.inserted i.removed i.past_greatest false)) c.self.view_is
    (subst (λ (s : Stored). Seals (meaning i.store i.inserted i.removed i.past_greatest i.is_changed) (meaning s i.inserted i.removed i.past_greatest false)) (sym c.in_ok-seal.ensures.sealed)
    (seals-of i.store i.inserted i.removed i.past_greatest i.is_changed c.in_ok-seal.ensures.present c.self.invariant))
