use Rattle.std.proofs.Common.{take}
use Rattle.std.specs.Prelude.{IfSome}
use Rattle.loc_sweep.proofs.{BesideCorner.IsLastGone, EdgesLeaving.IsLeaving}
use Rattle.loc_sweep.proofs.leaving.leave_all.Given as goal

abbrev pub invariant-loop-edge : goal.invariant-loop-edge
invariant-loop-edge g l = record {
  leaving : IsLeaving l.table l.corner (take l.edge-index l.edge-items) (g.S.Status.meaning l.fn.status) (g.S.Status.meaning l.status);
  last : IfSome l.between (IsLastGone l.table l.corner (g.S.Status.meaning l.status).list);
}
