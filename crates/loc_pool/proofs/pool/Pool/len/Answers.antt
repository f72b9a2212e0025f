use Rattle.std.proofs.Common.{length, sym, ap, subst, ◌∙◌, arith}
use Rattle.loc_pool.specs.{Maps.links, Rows.AreNames}
use Rattle.loc_pool.proofs.Numbered.{names-from, length-made}
use Rattle.loc_pool.proofs.pool.Pool.len.Goals as goal

pub returns-clause-count : goal.returns-clause-count
returns-clause-count c =
    let places = c.self.invariant.places in sym (length-made c.self.inside.slabs c.self.inside.len (omega (arith, places))) ∙ ap (λ v. length v.rows) c.self.view_is

pub returns-clause-names : goal.returns-clause-names
returns-clause-names c = subst AreNames (ap (λ v. links v.rows) c.self.view_is) (names-from 1 _ (omega arith))
