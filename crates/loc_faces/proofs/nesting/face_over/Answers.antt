use Rattle.std.proofs.Common.{get_or, ap}
use Rattle.loc_faces.proofs.nesting.face_over.Goals as goal

pub returns-in-Some : goal.returns-in-Some
returns-in-Some c = rw c.in-Some.is (ap (λ l. get_or c.args.of_cycle.now l 0) c.leader.ensures)
