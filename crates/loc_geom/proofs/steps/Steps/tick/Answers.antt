use Rattle.std.proofs.Common.{arith}
use Rattle.loc_geom.proofs.steps.Steps.tick.Goals as goal

pub returns : goal.returns
returns g c = omega arith
