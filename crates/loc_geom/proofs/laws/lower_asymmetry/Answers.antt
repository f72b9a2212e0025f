use Rattle.loc_geom.proofs.Symmetry.{not_both_lower}
use Rattle.loc_geom.proofs.laws.lower_asymmetry.Goals as goal

pub returns : goal.returns
returns c = not_both_lower c.args.a c.args.b
