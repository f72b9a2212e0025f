use Rattle.std.proofs.Common.{rules}
use Rattle.loc_indexed.proofs.ReadBack.{goes_on_by, refuses_index}
use Rattle.loc_indexed.proofs.indexes.read_index_in.Goals as goal

pub returns-in-Ok-clause-goes_on : goal.returns-in-Ok-clause-goes_on
returns-in-Ok-clause-goes_on c next m = λ last end follows. goes_on_by c.args.bytes.now c.in-Ok.held.content next m last (search rules) (c.in-Ok.held.version, c.in-Ok.ensures.ok) follows

pub returns-in-Err-clause-goes_on : goal.returns-in-Err-clause-goes_on
returns-in-Err-clause-goes_on c next m = rw c.index_stop_of.ensures (refuses_index c.args.bytes.now c.in-Err.fault next m (search rules) c.in-Err.ensures.err)
