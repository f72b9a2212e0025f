use Rattle.std.proofs.Common.{refl}
use Rattle.loc_io.proofs.mem_sink.MemSinkSink.write.Goals as goal

pub returns-then-next_fails-clause-failing : goal.returns-then-next_fails-clause-failing
returns-then-next_fails-clause-failing c = record { counted = c.next_fails.ensures.calls; fails = λ _. refl }

pub returns-then-next_fails-clause-sink : goal.returns-then-next_fails-clause-sink
returns-then-next_fails-clause-sink c = record {
  count = tt;
  bytes = refl;
  cause = record { later = c.count_one.ensures.later; failed = c.count_one.ensures.rose; steady = tt };
  late = c.note.ensures;
}
