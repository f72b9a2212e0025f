-- One row more in the pool.
use Rattle.std.proofs.Common.{◌≤◌, ◌+◌, ◌-◌, sym, ap, subst, arith}
use Rattle.loc_pool.specs.{Maps.Map, Rows.Row}
use Rattle.loc_rb.specs.Nodes.{Makes}
use Rattle.loc_persist.specs.{Stored.Stored, Stored.nodes_of, Stored.IsStored, Viewed.stored}
use Rattle.loc_persist.proofs.Stores.{stored-make, makes-of}
use Rattle.loc_persist.proofs.store.StoreLinks.make.Goals as goal

pub invariant_of-self : goal.invariant_of-self
invariant_of-self c =
    let i = c.self.inside in let v = stored i.present i.roots i.sealed_nodes i.made i.changed i.room in let q = c.requires in let e = ap (λ (s : Stored). s.room) c.self.view_is in let a : 1 ≤ i.room = omega (arith, q, e) in
    subst (λ (R : Map Row). IsStored (record v { rows = R; made = i.made + 1; room = i.room - 1 }) c.make.new.self.spare) (sym c.make.ensures.rows)
    (stored-make v i.present.pool.spare c.make.new.self.spare c.make.result c.args.item c.args.colour c.self.invariant a c.make.ensures.new.0 c.make.ensures.room)

pub returns : goal.returns
returns c =
    let i = c.self.inside in let v = stored i.present i.roots i.sealed_nodes i.made i.changed i.room in let q = c.requires in let e = ap (λ (s : Stored). s.room) c.self.view_is in let a : 1 ≤ i.room = omega (arith, q, e) in
    let d = subst (λ (R : Map Row). Makes (nodes_of v) (nodes_of (record v { rows = R; made = i.made + 1; room = i.room - 1 })) c.args.item c.args.colour c.make.result) (sym c.make.ensures.rows)
    (makes-of v i.present.pool.spare c.make.result c.args.item c.args.colour c.self.invariant a c.make.ensures.new.0) in
    subst (λ (s : Stored). Makes (nodes_of s) (nodes_of (record v { rows = c.make.new.self.rows; made = i.made + 1; room = i.room - 1 })) c.args.item c.args.colour c.make.result) c.self.view_is d
