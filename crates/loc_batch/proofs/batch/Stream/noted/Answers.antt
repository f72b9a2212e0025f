use Rattle.std.proofs.Common.{rules}
use Rattle.loc_batch.proofs.batch.Stream.noted.Goals as goal

pub returns-in-Err-clause-noted : goal.returns-in-Err-clause-noted
returns-in-Err-clause-noted g c = rw c.in-Err.is (search rules steps 100000)
