use Rattle.std.proofs.Common.{◌+◌, ◌∷◌, [], ◌++◌, length, sym, ap, ◌∙◌, arith, take}
use Rattle.loc_pool.specs.{declared.Link.Link, Maps.has, Cells.rows_from}
use Rattle.loc_pool.proofs.Numbered.{link_of, length-made, made-new, made-append}
use Rattle.loc_pool.proofs.pool.Pool.make.Goals as goal

pub overflow_add-self : goal.overflow_add-self
overflow_add-self c =
    let places = c.self.invariant.places in let made = length-made c.self.inside.slabs c.self.inside.len (omega (arith, places)) in
    let seen = ap (λ v. length v.rows) c.self.view_is in let few = c.requires.few in record { fits = omega (arith, made, seen, few) }

pub returns-clause-new : goal.returns-clause-new
returns-clause-new c =
    let places = c.self.invariant.places in (
      ap (λ v. has v.rows (link_of (c.self.inside.len + 1))) (sym c.self.view_is) ∙ made-new c.self.inside.slabs c.self.inside.len (omega (arith, places)),
      (λ e. let z = ap (λ (l : Link). l.number) e in omega (arith, z)),
    )

pub returns-clause-rows : goal.returns-clause-rows
returns-clause-rows c =
    let places = c.self.invariant.places in let room = c.self.invariant.room in let asked = c.requires.room in let spare = ap (λ v. v.spare) c.self.view_is in
    ap (λ xs. rows_from 1 (take (c.self.inside.len + 1) xs)) c.set.ensures ∙ made-append c.self.inside.slabs c.self.inside.len _ (omega (arith, places, room, asked, spare))
    ∙ (λ i. (c.self.view_is i).rows ++ (link_of (c.self.inside.len + 1), c.new-node.ensures i) ∷ [])
