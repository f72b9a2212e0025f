use Rattle.std.proofs.Common.{refl}
use Rattle.loc_gen.proofs.kinds.Kind.limit.Goals as goal

pub returns-in-Grid : goal.returns-in-Grid
returns-in-Grid c = rw c.in-Grid.is refl
