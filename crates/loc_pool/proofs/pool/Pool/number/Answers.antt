use Rattle.std.proofs.Common.{ap, subst, ◌∙◌, arith, take}
use Rattle.loc_pool.specs.{Maps.has, Maps.links, Rows.IsPlace}
use Rattle.loc_pool.proofs.Numbered.{number-within, length-rows_from, place-made}
use Rattle.loc_pool.proofs.pool.Pool.number.Goals as goal

pub returns : goal.returns
returns c =
    let xs = take c.self.inside.len c.self.inside.slabs in let k = length-rows_from 1 xs in
    let w = number-within 1 xs c.args.at (ap (λ v. has v.rows c.args.at) c.self.view_is ∙ c.requires) in
    subst (λ ls. IsPlace ls c.args.at c.args.at.number) (ap (λ v. links v.rows) c.self.view_is) (place-made _ c.args.at w.0 (omega (arith, w.1, k)))
