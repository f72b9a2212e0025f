use Rattle.std.proofs.Common.{rules}
use Rattle.loc_course.proofs.notes.write_value.Goals as goal

pub returns-in-Ok : goal.returns-in-Ok
returns-in-Ok g c = let e = c.in-Ok.ensures in record { wrote = (search rules, e.cause.steady); in_time = e.in_time }

pub returns-in-Err : goal.returns-in-Err
returns-in-Err g c = let e = c.in-Err.ensures in record { wrote = (search rules, e.cause.failed); in_time = e.in_time }
