-- What holds of the rows by their links holds of the rows by number.
use Rattle.std.proofs.Common.{◌-◌, length, subst}
use Rattle.loc_pool.proofs.Maps.{has-place}
use Rattle.loc_persist.specs.{Meaning.VersionsMeaning, Numbered.IsWithin}
use Rattle.loc_persist.proofs.{Bounds.row-within, Meanings.facts-of}
use Rattle.loc_persist.proofs.versions.Versions.row.Goals as goal

pub returns-clause-bounds : goal.returns-clause-bounds
returns-clause-bounds c =
    let i = c.self.inside in let f = c.sealed-sealed.ensures.facts in let r = c.row.ensures in
    subst (λ (m : VersionsMeaning). IsWithin m.past_greatest (length m.roots) (length m.rows) m.is_changed c.row.result) c.self.view_is
    (row-within _ (facts-of i.store f.0 i.inserted i.removed i.past_greatest i.is_changed f.1 c.self.invariant) r.0 (has-place i.store.rows r.0 (c.args.number - 1) r.1.1) _ r.2)
