-- The row of the pool.
use Rattle.std.proofs.Common.{length, sym, ap, ◌∙◌, subst}
use Rattle.loc_pool.specs.Rows.{row}
use Rattle.loc_rb.specs.{Trees.Row, Nodes.HasRow}
use Rattle.loc_persist.specs.Stored.{Stored, nodes_of}
use Rattle.loc_persist.proofs.NewestRows.{row-is}
use Rattle.loc_persist.proofs.store.StoreLinks.colour.Goals as goal

pub colour-requires : goal.colour-requires
colour-requires c =
    let i = c.self.inside in let k = subst (λ (s : Stored). HasRow (nodes_of s) c.args.at) (sym c.self.view_is) c.requires in (row-is (length i.roots) i.present.pool.rows c.args.at k.0 k.1).0

pub returns : goal.returns
returns c x e =
    let s = c.args.self.now in c.colour.ensures ∙ ap (λ (v : Stored). (row v.rows c.args.at).colour) c.self.view_is ∙ sym (ap (λ (r : Row). r.colour) (row-is (length s.roots) s.rows c.args.at x e).1)
