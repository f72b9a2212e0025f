use Rattle.std.proofs.{Common.arith, lemmas.Grind.common_steps}
use Rattle.loc_traps.proofs.walk.passed.Goals as goal

pub returns : goal.returns
returns c = grind (arith, common_steps)
