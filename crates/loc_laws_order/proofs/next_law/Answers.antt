use Rattle.loc_laws_order.proofs.Unique.{next-unique}
use Rattle.loc_laws_order.proofs.next_law.Goals as goal

pub returns : goal.returns
returns c = next-unique
