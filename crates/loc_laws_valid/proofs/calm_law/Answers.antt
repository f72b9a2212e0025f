use Rattle.loc_laws_valid.proofs.Calm.{conflicts_cross, rings_calm, polygons_calm}
use Rattle.loc_laws_valid.proofs.calm_law.Goals as goal

pub returns-clause-rings : goal.returns-clause-rings
returns-clause-rings c = rings_calm

pub returns-clause-polygons : goal.returns-clause-polygons
returns-clause-polygons c = polygons_calm

pub returns-clause-crossing : goal.returns-clause-crossing
returns-clause-crossing c = conflicts_cross
