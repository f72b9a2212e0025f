use Rattle.std.proofs.lemmas.Result.{IfErr-weaker}
use Rattle.loc_parts.specs.Faults.{IsFaultOf, IsRefusedBy}
use Rattle.loc_parts.proofs.Faulted.{by_table, noded_is}
use Rattle.loc_parts.proofs.judging.judged_noded.Goals as goal

pub judged-requires : goal.judged-requires
judged-requires c = λ apart. noded_is c.args.layer.now _ c.in-Ok.ensures.ok c.in-Ok.ensures.few c.in-Ok.ensures.all_ends c.in-Ok.ensures.all_even c.in-Ok.ensures.features

pub returns-in-Ok-clause-fault : goal.returns-in-Ok-clause-fault
returns-in-Ok-clause-fault c =
    let of = noded_is c.args.layer.now c.in-Ok.table c.in-Ok.ensures.ok c.in-Ok.ensures.few c.in-Ok.ensures.all_ends c.in-Ok.ensures.all_even c.in-Ok.ensures.features in
    IfErr-weaker c.judged.result (IsFaultOf c.in-Ok.table) (IsRefusedBy c.args.layer.now) (λ fault wrong. by_table c.args.layer.now c.in-Ok.table fault of.table wrong) c.judged.ensures.fault

pub returns-in-Err-NoMemory-clause-fault : goal.returns-in-Err-NoMemory-clause-fault
returns-in-Err-NoMemory-clause-fault c = tt
