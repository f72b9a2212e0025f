-- The row of the pool, in the version that comes after the sealed ones.
use Rattle.std.proofs.Common.{◌≡◌, length, sym, ap, ◌∙◌, subst}
use Rattle.loc_pool.specs.Rows.{row, child_at}
use Rattle.loc_rb.specs.{Trees.child_of, Nodes.HasRow}
use Rattle.loc_persist.specs.Stored.{Stored, nodes_of}
use Rattle.loc_persist.proofs.{NewestRows.row-is, Stores.child-in}
use Rattle.loc_persist.proofs.store.StoreLinks.child.Goals as goal

pub child-requires : goal.child-requires
child-requires c =
    let i = c.self.inside in let k = subst (λ (s : Stored). HasRow (nodes_of s) c.args.at) (sym c.self.view_is) c.requires in (row-is (length i.roots) i.present.pool.rows c.args.at k.0 k.1).0

pub returns : goal.returns
returns c x e =
    let s = c.args.self.now in let i = c.self.inside in let n : c.len.result ≡ length i.roots = c.len.ensures in
    c.child.ensures ∙ ap (λ m. child_at m c.args.turn (row i.present.pool.rows c.args.at)) n ∙ ap (λ (v : Stored). child_at (length v.roots) c.args.turn (row v.rows c.args.at)) c.self.view_is ∙ sym (child-in (length s.roots) c.args.turn (row s.rows c.args.at))
    ∙ sym (ap (child_of c.args.turn) (row-is (length s.roots) s.rows c.args.at x e).1)
