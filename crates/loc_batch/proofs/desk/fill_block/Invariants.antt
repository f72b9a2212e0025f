use Rattle.std.proofs.Common.{length}
use Rattle.loc_batch.specs.Blocks.{ReadsLines}
use Rattle.loc_batch.proofs.desk.fill_block.Given as goal

abbrev pub invariant-loop-front : goal.invariant-loop-front
invariant-loop-front g l = ReadsLines l.scale l.fn.line.items l.text l.line.items l.rest l.block

abbrev pub decreases-loop-front : goal.decreases-loop-front
decreases-loop-front g l = length l.rest
