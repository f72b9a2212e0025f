use Rattle.loc_maps.proofs.Judged.{on_made}
use Rattle.loc_maps.proofs.plane.swept_of.Goals as goal

pub returns-in-Some-clause-goes_on : goal.returns-in-Some-clause-goes_on
returns-in-Some-clause-goes_on g c next m = on_made c.args.scale c.args.layer.now _ next m c.sweep_table.result (rw c.in-Some.is at c.requires.table) (c.sweep_table.ensures.goes_on next m)
