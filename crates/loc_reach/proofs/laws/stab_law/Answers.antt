use Rattle.loc_reach.proofs.Plainly.{stab_plain}
use Rattle.loc_reach.proofs.laws.stab_law.Goals as goal

pub returns : goal.returns
returns c = record { plain = stab_plain }
