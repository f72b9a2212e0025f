-- One row of the pool.
use Rattle.std.proofs.Common.{sym, ap, subst}
use Rattle.loc_pool.specs.{Maps.Map, Rows.Row}
use Rattle.loc_pool.specs.Rows as pool
use Rattle.loc_rb.specs.Nodes.{IsLive, Colours}
use Rattle.loc_persist.specs.{Stored.Stored, Stored.nodes_of, Stored.IsStored, Viewed.stored}
use Rattle.loc_persist.proofs.Stores.{live-has, stored-colour, colours-of}
use Rattle.loc_persist.proofs.store.StoreLinks.set_colour.Goals as goal

pub set_colour-requires : goal.set_colour-requires
set_colour-requires c =
    let i = c.self.inside in let v = stored i.present i.roots i.sealed_nodes i.made i.changed i.room in live-has v c.args.at (subst (λ (s : Stored). IsLive (nodes_of s) c.args.at) (sym c.self.view_is) c.requires)

pub invariant_of-self : goal.invariant_of-self
invariant_of-self c =
    let i = c.self.inside in let v = stored i.present i.roots i.sealed_nodes i.made i.changed i.room in
    let h = live-has v c.args.at (subst (λ (s : Stored). IsLive (nodes_of s) c.args.at) (sym c.self.view_is) c.requires) in
    subst (λ (p : pool.Nodes). IsStored (record v { rows = p.rows }) p.spare) (sym c.set_colour.ensures) (stored-colour v i.present.pool.spare c.args.at c.args.colour c.self.invariant h)

pub returns : goal.returns
returns c =
    let i = c.self.inside in let v = stored i.present i.roots i.sealed_nodes i.made i.changed i.room in
    let h = live-has v c.args.at (subst (λ (s : Stored). IsLive (nodes_of s) c.args.at) (sym c.self.view_is) c.requires) in
    let d = subst (λ (R : Map Row). Colours (nodes_of v) (nodes_of (record v { rows = R })) c.args.at c.args.colour) (sym (ap (λ p. p.rows) c.set_colour.ensures)) (colours-of v i.present.pool.spare c.args.at c.args.colour c.self.invariant h) in
    subst (λ (s : Stored). Colours (nodes_of s) (nodes_of (record v { rows = c.set_colour.new.self.rows })) c.args.at c.args.colour) c.self.view_is d
