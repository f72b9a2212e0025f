use Rattle.std.proofs.Common.{length, ap, arith}
use Rattle.loc_edges.proofs.RowLists.{length-rows_of}
use Rattle.loc_edges.proofs.rows.Rows.len.Goals as goal

pub returns : goal.returns
returns g c = omega (arith, c.len.ensures, length-rows_of c.self.inside.items.items c.self.inside.starts.items, ap length c.self.view_is)
