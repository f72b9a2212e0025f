use Rattle.std.proofs.Common.{◌≡◌, true, sym, ap, ◌∙◌, arith, take}
use Rattle.loc_pool.specs.{Maps.has, Rows.row, Cells.rows_from}
use Rattle.loc_pool.proofs.Numbered.{made-within, made-row}
use Rattle.loc_pool.proofs.pool.Pool.node.Goals as goal

pub overflow_sub-at : goal.overflow_sub-at
overflow_sub-at c = (made-within _ c.self.inside.len c.args.at (ap (λ v. has v.rows c.args.at) c.self.view_is ∙ c.requires)).0

pub get-requires : goal.get-requires
get-requires c =
    let w = made-within c.self.inside.slabs c.self.inside.len c.args.at (ap (λ v. has v.rows c.args.at) c.self.view_is ∙ c.requires) in let places = c.self.invariant.places in
    omega (arith, w.0, w.1, places)

pub returns : goal.returns
returns c =
    let h : has (rows_from 1 (take c.self.inside.len c.self.inside.slabs)) c.args.at ≡ true = ap (λ v. has v.rows c.args.at) c.self.view_is ∙ c.requires in
    sym (made-row c.self.inside.slabs c.self.inside.len c.args.at _ h c.get.ensures) ∙ ap (λ v. row v.rows c.args.at) c.self.view_is
