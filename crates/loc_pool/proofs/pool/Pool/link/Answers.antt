use Rattle.std.proofs.Common.{length, ap, subst, arith}
use Rattle.loc_pool.specs.{Maps.links, Rows.IsPlace}
use Rattle.loc_pool.proofs.Numbered.{link_of, place-made}
use Rattle.loc_pool.proofs.pool.Pool.link.Goals as goal

pub returns : goal.returns
returns c =
    let seen = ap (λ v. length v.rows) c.self.view_is in
    subst (λ ls. IsPlace ls (link_of c.args.number) c.args.number) (ap (λ v. links v.rows) c.self.view_is) (place-made _ (link_of c.args.number) c.requires.0 (omega (arith, seen, c.requires.1)))
