-- The steps of a removal in the store that has room.
use Rattle.std.proofs.Common.{◌+◌, true, subst}
use Rattle.loc_persist.specs.Meaning.{VersionsMeaning, Removes, meaning}
use Rattle.loc_persist.proofs.Meanings.{reserved, node-in, few-left, kept-remove, removes-of}
use Rattle.loc_persist.proofs.versions.Versions.remove_at.Goals as goal

pub remove-requires-clause-place : goal.remove-requires-clause-place
remove-requires-clause-place c =
    let k = reserved _ _ _ _ _ _ _ c.in_ok-reserve.ensures.room c.self.invariant c.self.view_is in let q = node-in _ _ _ _ _ _ _ _ _ _ _ k.0 k.1 c.requires.place.3 in
    (_, _, _, q.0, few-left _ _ _ _ _ _ _ _ k.0 q.1)

pub invariant_of-self-2 : goal.invariant_of-self-2
invariant_of-self-2 c =
    let k = reserved _ _ _ _ _ _ _ c.in_ok-reserve.ensures.room c.self.invariant c.self.view_is in let q = node-in _ _ _ _ _ _ _ _ _ _ _ k.0 k.1 c.requires.place.3 in let n = c.remove.ensures in
    kept-remove _ _ _ _ _ _ _ _ _ k.0 q.1 (n.tree _ _ _ q.0) n.more n.made n.changed n.items

pub returns-clause-removes : goal.returns-clause-removes
returns-clause-removes c =
    let i = c.self.inside in let t = c.reserve.new.self in let n = c.remove.ensures in
    let k = reserved i.store t i.inserted i.removed i.past_greatest i.is_changed c.args.self.now c.in_ok-reserve.ensures.room c.self.invariant c.self.view_is in
    subst (λ (m : VersionsMeaning). Removes c.args.path.items c.args.at m (meaning c.remove.new.links i.inserted (i.removed + 1) i.past_greatest true)) k.1
    (removes-of t c.remove.new.links i.inserted i.removed i.past_greatest i.is_changed c.args.path.items c.args.at k.0 n.tree n.kept)
