use Rattle.loc_maps.proofs.Plain.{plain_table}
use Rattle.loc_parts.specs.declared.fault.PlaneFault.TheVariants.{Covers}
use Rattle.loc_parts.proofs.Faulted.{by_table}
use Rattle.loc_parts.proofs.judging.judged_layer.Goals as goal

pub judged-requires : goal.judged-requires
judged-requires c =
    let made = c.in_ok-table.ensures in
    λ apart. plain_table c.args.layer.now _ (rw c.features-few.ensures.value at c.features-few.ensures.within) made.ok made.all_ends made.all_even made.features apart

pub returns-in-Err-Covers-clause-fault : goal.returns-in-Err-Covers-clause-fault
returns-in-Err-Covers-clause-fault c =
    let made = c.in_ok-table.ensures in
    let wrong = rw c.in-Err-Covers.field-0-is at c.in-Err-Covers.ensures.fault in
    let of = plain_table c.args.layer.now c.in_ok-table.table (rw c.features-few.ensures.value at c.features-few.ensures.within) made.ok made.all_ends made.all_even made.features wrong.1.0 in
    by_table c.args.layer.now c.in_ok-table.table (Covers c.in-Err-Covers.plain) of.table wrong
