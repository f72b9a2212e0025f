use Rattle.std.proofs.Common.{ap}
use Rattle.loc_course.specs.Courses.{refused}
use Rattle.loc_orders.proofs.lines.order_stop_of.Goals as goal

pub returns-in-Missing : goal.returns-in-Missing
returns-in-Missing c = rw c.in-Missing.is (ap refused c.missing_line.ensures)
