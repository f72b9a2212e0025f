use Rattle.std.proofs.Common.{◌≡◌, true, drop}
use Rattle.std.specs.List.{flat_map}
use Rattle.loc_page.proofs.Growing.{Goes}
use Rattle.loc_write.specs.Bytes.{number_bytes}
use Rattle.loc_write.proofs.parts.put_numbers.Given as goal

abbrev pub invariant-loop-number : goal.invariant-loop-number
invariant-loop-number g l = record {
  making : (g.F.Shelf.meaning l.shelf).is_making ≡ true;
  goes : Goes (flat_map number_bytes l.list) (flat_map number_bytes (drop l.number-index l.list)) (g.F.Shelf.meaning l.fn.shelf) (g.F.Shelf.meaning l.shelf) l.fn.page l.page;
}
