use Rattle.std.proofs.Common.{◌≡◌, true, sym, ap, ◌∙◌, arith, length, take}
use Rattle.std.proofs.lemmas.List.{length-set}
use Rattle.loc_pool.specs.{Maps.has, Maps.put, Cells.row_of, Cells.rows_from}
use Rattle.loc_pool.proofs.Numbered.{made-within, made-put}
use Rattle.loc_pool.proofs.pool.Pool.write.Goals as goal

pub overflow_sub-at : goal.overflow_sub-at
overflow_sub-at c = (made-within _ c.self.inside.len c.args.at (ap (λ v. has v.rows c.args.at) c.self.view_is ∙ c.requires)).0

pub set-requires : goal.set-requires
set-requires c =
    let w = made-within c.self.inside.slabs c.self.inside.len c.args.at (ap (λ v. has v.rows c.args.at) c.self.view_is ∙ c.requires) in let places = c.self.invariant.places in
    omega (arith, w.0, w.1, places)

pub invariant_of-self : goal.invariant_of-self
invariant_of-self c = record {
  places = c.self.invariant.places ∙ sym (length-set _ _ _) ∙ ap length (sym c.set.ensures);
  room = c.self.invariant.room;
  few = c.self.invariant.few;
}

pub returns : goal.returns
returns c =
    let h : has (rows_from 1 (take c.self.inside.len c.self.inside.slabs)) c.args.at ≡ true = ap (λ v. has v.rows c.args.at) c.self.view_is ∙ c.requires in
    λ i. record {
      rows = (ap (λ xs. rows_from 1 (take c.self.inside.len xs)) c.set.ensures ∙ made-put c.self.inside.slabs c.self.inside.len c.args.at c.args.node h ∙ ap (λ v. put v.rows c.args.at (row_of c.args.node)) c.self.view_is) i;
      spare = (c.self.view_is i).spare;
    }
