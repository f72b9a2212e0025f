use Rattle.std.proofs.Common.{subst, sym}
use Rattle.loc_spec_plane.specs.Tables.{Table}
use Rattle.loc_run_rows.proofs.places.found.Goals as goal

pub locate-requires : goal.locate-requires
locate-requires g c = subst (λ (t : Table). g.I.Locator.fits c.args.index.now t) (sym c.views-views.ensures) (g.met.I.Locator.stands_fits c.args.index.now c.args.table.now c.requires.stands)
