use Rattle.std.proofs.Common.{refl}
use Rattle.loc_gen.proofs.features.strip.Goals as goal

pub returns : goal.returns
returns c = refl
