use Rattle.std.proofs.Common.{◌≤◌}
use Rattle.loc_sweep.proofs.EdgesComing.{IsComing}
use Rattle.loc_verify.proofs.line.come_all.Given as goal

abbrev pub invariant-loop-edge : goal.invariant-loop-edge
invariant-loop-edge l = record { behind : l.first ≤ l.edge; coming : IsComing l.table l.corner l.first l.edge l.fn.status l.status }
