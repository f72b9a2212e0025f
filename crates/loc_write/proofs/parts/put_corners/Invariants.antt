use Rattle.std.proofs.Common.{◌≡◌, true, drop}
use Rattle.std.specs.List.{flat_map}
use Rattle.loc_page.proofs.Growing.{Goes}
use Rattle.loc_write.specs.Bytes.{corner_bytes}
use Rattle.loc_write.proofs.parts.put_corners.Given as goal

abbrev pub invariant-loop-corner : goal.invariant-loop-corner
invariant-loop-corner g l = record {
  making : (g.F.Shelf.meaning l.shelf).is_making ≡ true;
  goes : Goes (flat_map corner_bytes l.table.corners) (flat_map corner_bytes (drop l.corner l.table.corners)) (g.F.Shelf.meaning l.fn.shelf) (g.F.Shelf.meaning l.shelf) l.fn.page l.page;
}
