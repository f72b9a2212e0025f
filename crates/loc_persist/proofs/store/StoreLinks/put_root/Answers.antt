-- The root alone.
use Rattle.std.proofs.Common.{sym, subst}
use Rattle.loc_rb.specs.Nodes.{IsLiveOrNone, Roots}
use Rattle.loc_persist.specs.{Stored.Stored, Stored.nodes_of, Viewed.stored}
use Rattle.loc_persist.proofs.Stores.{stored-root, live-has, roots-of}
use Rattle.loc_persist.proofs.store.StoreLinks.put_root.Goals as goal

pub invariant_of-self : goal.invariant_of-self
invariant_of-self c =
    let i = c.self.inside in let v = stored i.present i.roots i.sealed_nodes i.made i.changed i.room in
    let k = subst (λ (s : Stored). IsLiveOrNone (nodes_of s) c.args.to) (sym c.self.view_is) c.requires in
    stored-root v i.present.pool.spare c.args.to c.self.invariant (λ l e. live-has v l (k l e))

pub returns : goal.returns
returns c =
    let i = c.self.inside in let v = stored i.present i.roots i.sealed_nodes i.made i.changed i.room in
    subst (λ (s : Stored). Roots (nodes_of s) (nodes_of (record v { root = c.args.to })) c.args.to) c.self.view_is (roots-of v c.args.to)
