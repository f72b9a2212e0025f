-- The rows as in `exchange`; of the room 45 is taken, as much as a change may take.
use Rattle.std.proofs.Common.{◌≡◌, ℕ, ◌≤◌, length, take, sym, ap, subst, arith}
use Rattle.loc_rb.specs.{Nodes.CanChange, Nodes.Changes, Exchanges.Exchanges}
use Rattle.loc_persist.specs.{Keeping.KeepsBefore, Present.nodes_at, Present.IsPresent, Stored.Stored, Stored.nodes_of}
use Rattle.loc_persist.specs.Viewed.{stored}
use Rattle.loc_persist.proofs.Stores.{can-of, after_change, stored-change, changes-of}
use Rattle.loc_persist.proofs.store.StoreLinks.change.Goals as goal

pub exchange-requires-clause-place : goal.exchange-requires-clause-place
exchange-requires-clause-place c =
    let i = c.self.inside in let v = stored i.present i.roots i.sealed_nodes i.made i.changed i.room in let n : c.len.result ≡ length i.roots = c.len.ensures in
    let k = can-of v c.args.path.now.items c.args.at c.args.to (subst (λ (s : Stored). CanChange (nodes_of s) c.args.path.now.items c.args.at c.args.to) (sym c.self.view_is) c.requires.place) in
    subst (λ (m : ℕ). CanChange (nodes_at m v.rows v.root v.copied) c.args.path.now.items c.args.at c.args.to) (sym n) k

pub invariant_of-self : goal.invariant_of-self
invariant_of-self c =
    let i = c.self.inside in let v = stored i.present i.roots i.sealed_nodes i.made i.changed i.room in let n : c.len.result ≡ length i.roots = c.len.ensures in
    let q = c.requires.room in let e = ap (λ (s : Stored). s.room) c.self.view_is in let a : 45 ≤ i.room = omega (arith, q, e) in let f = c.len-length.ensures.fits in let l = c.len-length.ensures.value in
    let p = c.exchange.new.self in let x = c.exchange.ensures in
    stored-change v i.present.pool.spare p.pool.spare p.pool.rows p.root p.copied.links (length c.args.path.now.items) c.self.invariant a (omega (arith, f, l))
    (subst (λ (m : ℕ). KeepsBefore m (take i.sealed_nodes v.rows) (take i.sealed_nodes p.pool.rows)) n x.keeps) (subst (λ (m : ℕ). IsPresent m p.pool.rows p.root p.copied.links) n x.present.0) x.present.1 x.paid x.more x.room

pub returns : goal.returns
returns c =
    let i = c.self.inside in let v = stored i.present i.roots i.sealed_nodes i.made i.changed i.room in let n : c.len.result ≡ length i.roots = c.len.ensures in
    let q = c.requires.room in let e = ap (λ (s : Stored). s.room) c.self.view_is in let a : 45 ≤ i.room = omega (arith, q, e) in
    let p = c.exchange.new.self in let x = c.exchange.ensures in let es = c.args.path.now.items in let es' = c.exchange.new.path.items in
    let d = changes-of v i.present.pool.spare p.pool.rows p.root p.copied.links es es' c.args.at c.exchange.result c.args.turn c.args.to c.self.invariant a (subst (λ (m : ℕ). KeepsBefore m (take i.sealed_nodes v.rows) (take i.sealed_nodes p.pool.rows)) n x.keeps)
    (subst (λ (m : ℕ). Exchanges (nodes_at m v.rows v.root v.copied) (nodes_at m p.pool.rows p.root p.copied.links) es es' c.args.at c.exchange.result c.args.turn c.args.to) n x.exchanges) in
    subst (λ (s : Stored). Changes (nodes_of s) (nodes_of (after_change v p.pool.rows p.root p.copied.links)) es es' c.args.at c.exchange.result c.args.turn c.args.to) c.self.view_is d
