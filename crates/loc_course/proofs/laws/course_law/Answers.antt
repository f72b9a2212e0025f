use Rattle.loc_course.proofs.Statuses.{ended_so}
use Rattle.loc_course.proofs.laws.course_law.Goals as goal

pub returns : goal.returns
returns c course old new n n' status ended = ended_so ended
