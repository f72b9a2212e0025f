use Rattle.std.proofs.Common.{◌≡◌, true, drop}
use Rattle.std.specs.List.{flat_map}
use Rattle.loc_spec_index.specs.IndexFile.{none_or_next}
use Rattle.loc_page.proofs.Growing.{Goes}
use Rattle.loc_write.specs.Bytes.{number_bytes}
use Rattle.loc_write.proofs.parts.put_floors.Given as goal

abbrev pub invariant-loop-corner : goal.invariant-loop-corner
invariant-loop-corner g l = record {
  making : (g.F.Shelf.meaning l.shelf).is_making ≡ true;
  goes : Goes (flat_map (λ floor. number_bytes (none_or_next floor)) l.legend.floors) (flat_map (λ floor. number_bytes (none_or_next floor)) (drop l.corner l.legend.floors)) (g.F.Shelf.meaning l.fn.shelf) (g.F.Shelf.meaning l.shelf) l.fn.page l.page;
}
