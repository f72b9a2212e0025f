use Rattle.std.proofs.Common.{arith, inr}
use Rattle.loc_batch.proofs.desk.next_line.Goals as goal

pub returns-then-is_full-clause-cuts : goal.returns-then-is_full-clause-cuts
returns-then-is_full-clause-cuts g c = let full = c.is_full.ensures.full c.if-is_full.true in inr (omega (arith, full))
