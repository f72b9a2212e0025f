use Rattle.loc_file.proofs.Fields.{order-wrong}
use Rattle.loc_file.proofs.cursor.Cursor.in_order.Goals as goal

pub returns-else-holds-clause-err : goal.returns-else-holds-clause-err
returns-else-holds-clause-err c = order-wrong c.args.part c.args.row c.args.holds c.args.self.now c.if-holds.false
