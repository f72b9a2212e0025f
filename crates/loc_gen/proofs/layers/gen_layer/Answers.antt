use Rattle.std.proofs.Common.{refl}
use Rattle.loc_gen.proofs.layers.gen_layer.Goals as goal

pub returns-then-n-limit-clause-untouched : goal.returns-then-n-limit-clause-untouched
returns-then-n-limit-clause-untouched g c = λ _. refl

pub returns-in-Err-clause-writes : goal.returns-in-Err-clause-writes
returns-in-Err-clause-writes g c _ =
    let fault = c.in-Err.ensures in
    record { ok = tt; err = fault.err; cause = record { later = fault.cause.later; failed = fault.cause.failed; steady = tt }; in_time = fault.in_time }
