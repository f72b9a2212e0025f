use Rattle.std.proofs.Common.{refl}
use Rattle.loc_pool.proofs.node.Node.with_colour.Goals as goal

pub returns : goal.returns
returns c = refl
