use Rattle.std.proofs.Common.{◌≡◌, true, drop}
use Rattle.std.specs.List.{flat_map}
use Rattle.loc_page.proofs.Growing.{Goes}
use Rattle.loc_write.specs.{Bytes.edge_bytes, Written.edge_rows}
use Rattle.loc_write.proofs.parts.put_edges.Given as goal

abbrev pub invariant-loop-edge : goal.invariant-loop-edge
invariant-loop-edge g l = record {
  making : (g.F.Shelf.meaning l.shelf).is_making ≡ true;
  goes : Goes (flat_map edge_bytes (edge_rows l.table.ends l.table.sources l.legend.above)) (flat_map edge_bytes (drop l.edge (edge_rows l.table.ends l.table.sources l.legend.above))) (g.F.Shelf.meaning l.fn.shelf) (g.F.Shelf.meaning l.shelf) l.fn.page l.page;
}
