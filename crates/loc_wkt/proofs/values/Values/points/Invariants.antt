use Rattle.std.proofs.Common.{length}
use Rattle.loc_wkt.proofs.LoopLemmas.{ArePointsSoFar}
use Rattle.loc_wkt.proofs.values.Values.points.Given as goal

abbrev pub invariant-loop-point : goal.invariant-loop-point
invariant-loop-point l = ArePointsSoFar l.fn.self l.self l.fn.text l.rest l.points.items

abbrev pub decreases-loop-point : goal.decreases-loop-point
decreases-loop-point l = length l.rest
