use Rattle.loc_spans.proofs.Ordered.{begin_in_order}
use Rattle.loc_spans.proofs.spans.in_order.Goals as goal

pub returns-clause-in_order : goal.returns-clause-in_order
returns-clause-in_order c = begin_in_order c.sort_unstable.new.self.items c.sort_unstable.ensures.sorted
