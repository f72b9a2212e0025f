use Rattle.std.proofs.Common.{refl}
use Rattle.loc_words.proofs.values.read_order.Goals as goal

pub returns-in-Trap-Some-None : goal.returns-in-Trap-Some-None
returns-in-Trap-Some-None c = rw c.in-Trap-Some-None.is-0 (rw c.in-Trap-Some-None.is-1 (rw c.in-Trap-Some-None.is-2 refl))
