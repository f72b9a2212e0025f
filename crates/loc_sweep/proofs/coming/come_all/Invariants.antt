use Rattle.std.proofs.Common.{◌≤◌}
use Rattle.loc_sweep.specs.Course.{LiesAbove}
use Rattle.loc_sweep.proofs.{EdgesComing.IsComing, Noting.AreNoted}
use Rattle.loc_sweep.proofs.coming.come_all.Given as goal

abbrev pub invariant-loop-edge : goal.invariant-loop-edge
invariant-loop-edge g l = record {
  behind : l.first ≤ l.edge;
  coming : IsComing l.table l.corner l.first l.edge (g.S.Status.meaning l.fn.status) (g.S.Status.meaning l.status);
  between : LiesAbove l.table l.corner (g.S.Status.meaning l.status).list l.between;
  noted : AreNoted l.table l.corner l.first l.edge (g.S.Status.meaning l.status).list l.fn.of_edge.items l.of_edge.items;
}
