use Rattle.std.proofs.Common.{ap, refl}
use Rattle.loc_course.specs.Courses.{refused}
use Rattle.loc_answering.proofs.stop_of.Goals as goal

pub returns-in-ReadFault : goal.returns-in-ReadFault
returns-in-ReadFault c = rw c.in-ReadFault.is refl

pub returns-in-Deep : goal.returns-in-Deep
returns-in-Deep c = rw c.in-Deep.is (ap refused c.deep_line.ensures)
