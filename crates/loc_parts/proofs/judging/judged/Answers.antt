use Rattle.std.proofs.Common.{refl}
use Rattle.loc_parts.proofs.judging.judged.Goals as goal

pub returns-in-Err-Conflict-clause-fault : goal.returns-in-Err-Conflict-clause-fault
returns-in-Err-Conflict-clause-fault c =
    let shown = rw c.in-Err-Conflict.field-0-is at c.in-Err-Conflict.ensures.shown in
    (refl, record { first = _; second = _; in_order = shown.in_order; in_range = shown.in_range; conflict = shown.conflict })
