-- The newest version becomes a sealed one, with its tree.
use Rattle.std.proofs.Common.{ℕ, ◌^◌, ◌≤◌, List, length, Option, refl, sym, ap, subst, arith}
use Rattle.loc_pool.specs.{declared.Link.Link, Rows.no_link}
use Rattle.loc_rb.specs.Places.{Holds}
use Rattle.loc_persist.specs.{Stored.Stored, Stored.nodes_of, Stored.IsStored, Viewed.stored}
use Rattle.loc_persist.proofs.{Places.named-not-default, Stores.stored-seal}
use Rattle.loc_persist.proofs.store.Store.seal.Goals as goal

pub push-requires : goal.push-requires
push-requires c e = named-not-default c.self.inside.present.pool.rows no_link c.len-nodes.ensures.names (c.self.invariant.present.rooted no_link e) refl

pub invariant_of-self-2 : goal.invariant_of-self-2
invariant_of-self-2 c =
    let i = c.self.inside in let v = stored i.present i.roots i.sealed_nodes i.made i.changed i.room in
    let h = subst (λ (s : Stored). (list : List ℕ) × Holds (nodes_of s) list × (length list ≤ 2 ^ 21)) (sym c.self.view_is) c.requires.list in
    let f = c.requires.few in let e = ap (λ (s : Stored). length s.roots) c.self.view_is in
    subst (λ (q : List (Option Link) × ℕ). IsStored (record v { roots = q.0; sealed_nodes = q.1 }) i.present.pool.spare) (λ j. (sym c.in_ok-push.ensures.pushed j, sym c.len-nodes.ensures.count j)) (stored-seal v i.present.pool.spare h.0 c.self.invariant h.1 h.2 (omega (arith, f, e)))
