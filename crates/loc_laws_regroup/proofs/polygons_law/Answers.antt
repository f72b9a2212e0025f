use Rattle.loc_laws_regroup.proofs.Rings.{groups_open}
use Rattle.loc_laws_regroup.proofs.polygons_law.Goals as goal

pub returns : goal.returns
returns c = groups_open
