use Rattle.loc_laws_order.proofs.SweepLaw.{sweep_law}
use Rattle.loc_laws_order.proofs.sweep_law.Goals as goal

pub returns : goal.returns
returns c = sweep_law
