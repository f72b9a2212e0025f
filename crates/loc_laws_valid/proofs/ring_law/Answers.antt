use Rattle.loc_laws_valid.proofs.OneRing.{one_ring}
use Rattle.loc_laws_valid.proofs.ring_law.Goals as goal

pub returns : goal.returns
returns c = one_ring
