use Rattle.loc_groups.proofs.Plainly.{dissolve_plain}
use Rattle.loc_groups.proofs.laws.dissolve_law.Goals as goal

pub returns : goal.returns
returns c = record { plain = dissolve_plain }
