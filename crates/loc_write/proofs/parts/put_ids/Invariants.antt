use Rattle.std.proofs.Common.{◌≡◌, true, drop}
use Rattle.std.specs.List.{flat_map}
use Rattle.loc_page.proofs.Growing.{Goes}
use Rattle.loc_write.specs.Bytes.{id_bytes}
use Rattle.loc_write.proofs.parts.put_ids.Given as goal

abbrev pub invariant-loop-feature : goal.invariant-loop-feature
invariant-loop-feature g l = record {
  making : (g.F.Shelf.meaning l.shelf).is_making ≡ true;
  goes : Goes (flat_map id_bytes l.legend.ids) (flat_map id_bytes (drop l.feature l.legend.ids)) (g.F.Shelf.meaning l.fn.shelf) (g.F.Shelf.meaning l.shelf) l.fn.page l.page;
}
