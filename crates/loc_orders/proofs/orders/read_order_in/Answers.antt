use Rattle.loc_orders.proofs.Asked.{refuses_order}
use Rattle.loc_orders.proofs.orders.read_order_in.Goals as goal

pub returns-in-Err-clause-goes_on : goal.returns-in-Err-clause-goes_on
returns-in-Err-clause-goes_on c next m = rw c.order_stop_of.ensures (refuses_order _ c.in-Err.fault next m c.in-Err.ensures.err)
