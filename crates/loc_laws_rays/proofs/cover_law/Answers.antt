use Rattle.loc_laws_rays.proofs.{Along.parity_along, Covering.cover_law, Covering.touch_law}
use Rattle.loc_laws_rays.proofs.cover_law.Goals as goal

pub returns-clause-parity : goal.returns-clause-parity
returns-clause-parity c = parity_along

pub returns-clause-covers : goal.returns-clause-covers
returns-clause-covers c = cover_law

pub returns-clause-touches : goal.returns-clause-touches
returns-clause-touches c = touch_law
