use Rattle.loc_sweep.proofs.UnderWay.{IsUnderWay}
use Rattle.loc_sweep.proofs.corners.sweep.Given as goal

abbrev pub invariant-loop-corner : goal.invariant-loop-corner
invariant-loop-corner g l = IsUnderWay l.table l.corner (g.S.Status.meaning l.status) l.of_corner.items l.of_edge.items
