use Rattle.std.proofs.Common.{◌≡◌, true, List, drop}
use Rattle.std.specs.List.{flat_map}
use Rattle.loc_spec_index.specs.declared.NodeRow.{NodeRow}
use Rattle.loc_persist.specs.ByNumber.{AreRowsByNumber}
use Rattle.loc_page.proofs.Growing.{Goes}
use Rattle.loc_write.specs.Bytes.{node_bytes}
use Rattle.loc_write.proofs.parts.put_nodes.Given as goal

abbrev pub invariant-loop-before : goal.invariant-loop-before
invariant-loop-before g l = record {
  making : (g.F.Shelf.meaning l.shelf).is_making ≡ true;
  goes : (rows : List NodeRow) → AreRowsByNumber l.versions.rows rows → Goes (flat_map node_bytes rows) (flat_map node_bytes (drop l.before rows)) (g.F.Shelf.meaning l.fn.shelf) (g.F.Shelf.meaning l.shelf) l.fn.page l.page;
}
