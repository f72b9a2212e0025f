-- The root of a sealed version has a row.
use Rattle.std.proofs.Common.{ap, subst, ◌∙◌}
use Rattle.std.specs.Prelude.{slice_get}
use Rattle.loc_persist.specs.{Numbered.IsNumber, Stored.Stored}
use Rattle.loc_persist.proofs.{Prefix.versions-whole, Stores.version-root}
use Rattle.loc_persist.proofs.store.Store.root_number.Goals as goal

pub number_of-requires : goal.number_of-requires
number_of-requires c l e =
    let i = c.self.inside in
    version-root i.present.pool.rows i.roots c.args.version c.root_of.result l (versions-whole i.sealed_nodes i.present.pool.rows i.roots c.self.invariant.versions) (ap (λ (s : Stored). slice_get s.roots c.args.version) c.self.view_is ∙ c.root_of.ensures) e

pub returns : goal.returns
returns c = (c.root_of.result, c.root_of.ensures, subst (λ (s : Stored). IsNumber s.rows c.root_of.result c.number_of.result) c.self.view_is c.number_of.ensures)
