-- The steps of an insertion in the store that has room.
use Rattle.std.proofs.Common.{ℕ, ◌+◌, true, sym, ap, subst, arith, length}
use Rattle.loc_persist.specs.Meaning.{VersionsMeaning, Inserts, meaning, IsKept}
use Rattle.loc_persist.proofs.Meanings.{reserved, gap-in, kept-insert, inserts-of}
use Rattle.loc_persist.proofs.versions.Versions.insert_at.Goals as goal

pub insert-requires-clause-place : goal.insert-requires-clause-place
insert-requires-clause-place c = let k = reserved _ _ _ _ _ _ _ c.in_ok-reserve.ensures.room c.self.invariant c.self.view_is in (_, _, (gap-in _ _ _ _ _ _ _ _ _ k.0 k.1 c.requires.place.2).0)

pub invariant_of-self-2 : goal.invariant_of-self-2
invariant_of-self-2 c =
    let i = c.self.inside in let n = c.insert.ensures in let k = reserved _ _ _ _ _ _ _ c.in_ok-reserve.ensures.room c.self.invariant c.self.view_is in let q = gap-in _ _ _ _ _ _ _ _ _ k.0 k.1 c.requires.place.2 in
    let l = ap (λ (m : VersionsMeaning). length m.list) k.1 in let a = c.requires.small in let e = ap (λ (m : VersionsMeaning). m.inserted) k.1 in let f = c.requires.few in
    subst (λ (p : ℕ). IsKept c.insert.new.links (i.inserted + 1) i.removed p true) (sym c.max-self-inside.ensures)
    (kept-insert _ _ _ _ _ _ _ _ c.args.item k.0 q.1 (omega (arith, l, a)) (omega (arith, e, f)) (n.tree _ _ q.0) n.made n.changed n.items)

pub returns-clause-inserts : goal.returns-clause-inserts
returns-clause-inserts c =
    let i = c.self.inside in let t = c.reserve.new.self in let n = c.insert.ensures in
    let k = reserved i.store t i.inserted i.removed i.past_greatest i.is_changed c.args.self.now c.in_ok-reserve.ensures.room c.self.invariant c.self.view_is in
    let l = ap (λ (m : VersionsMeaning). length m.list) k.1 in let a = c.requires.small in
    subst (λ (m : VersionsMeaning). Inserts c.args.path.items c.args.item m (meaning c.insert.new.links (i.inserted + 1) i.removed c.max-self-inside.result true)) k.1
    (subst (λ (p : ℕ). Inserts c.args.path.items c.args.item (meaning t i.inserted i.removed i.past_greatest i.is_changed) (meaning c.insert.new.links (i.inserted + 1) i.removed p true)) (sym c.max-self-inside.ensures)
    (inserts-of t c.insert.new.links i.inserted i.removed i.past_greatest i.is_changed c.args.path.items c.args.item k.0 (omega (arith, l, a)) n.tree n.kept))
