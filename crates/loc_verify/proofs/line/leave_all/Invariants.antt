use Rattle.std.proofs.Common.{take}
use Rattle.loc_sweep.proofs.EdgesLeaving.{IsLeaving}
use Rattle.loc_verify.proofs.line.leave_all.Given as goal

abbrev pub invariant-loop-edge : goal.invariant-loop-edge
invariant-loop-edge l = IsLeaving l.table l.corner (take l.edge-index l.edge-items) l.fn.status l.status
