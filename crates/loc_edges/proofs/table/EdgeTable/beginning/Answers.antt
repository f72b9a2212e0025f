use Rattle.std.proofs.Common.{◌+◌, ◌≤◌, length, ap, subst, arith}
use Rattle.loc_spec_plane.specs.Tables.{Table}
use Rattle.loc_edges.specs.{Ending.IsBeginning, Parts.table_with}
use Rattle.loc_edges.proofs.Firsts.{beginning_is, first_at}
use Rattle.loc_edges.proofs.table.EdgeTable.beginning.Goals as goal

pub returns : goal.returns
returns c =
    let t = c.self.inside in
    let fits : c.args.corner + 1 ≤ length c.self.inside.corners.items = omega (arith, c.requires, ap (λ (s : Table). length s.corners) c.self.view_is) in
    subst (λ s. IsBeginning s c.args.corner c.index.result.now c.index-2.result.now) c.self.view_is
    (beginning_is (table_with t.corners.items t.ends.items t.marks _) c.args.corner c.index.result.now c.index-2.result.now
    (first_at t.ends.items (length t.corners.items) t.firsts.items c.self.invariant.firsts_are c.args.corner c.index.result.now (omega arith) c.index.ensures)
    (first_at t.ends.items (length t.corners.items) t.firsts.items c.self.invariant.firsts_are (c.args.corner + 1) c.index-2.result.now fits c.index-2.ensures))
