use Rattle.loc_maps.proofs.Plain.{plain_table}
use Rattle.loc_maps.proofs.sweeping.sweep_plain.Goals as goal

pub returns-in-Ok-clause-table : goal.returns-in-Ok-clause-table
returns-in-Ok-clause-table g c =
    let made = c.in_ok-table.ensures in
    plain_table c.args.layer.now _ (rw c.features-few.ensures.value at c.features-few.ensures.within) made.ok made.all_ends made.all_even made.features c.in-Ok.ensures.apart

pub returns-in-Err-Conflict-clause-memory : goal.returns-in-Err-Conflict-clause-memory
returns-in-Err-Conflict-clause-memory g c = tt
