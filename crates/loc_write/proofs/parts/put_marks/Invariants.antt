use Rattle.std.proofs.Common.{◌≡◌, true, drop}
use Rattle.std.specs.List.{flat_map}
use Rattle.loc_page.proofs.Growing.{Goes}
use Rattle.loc_write.specs.{Bytes.mark_bytes, Written.marks_from}
use Rattle.loc_write.proofs.parts.put_marks.Given as goal

abbrev pub invariant-loop-edge : goal.invariant-loop-edge
invariant-loop-edge g l = record {
  making : (g.F.Shelf.meaning l.shelf).is_making ≡ true;
  goes : Goes (flat_map mark_bytes (marks_from 0 l.table.marks)) (flat_map mark_bytes (marks_from l.edge (drop l.edge l.table.marks))) (g.F.Shelf.meaning l.fn.shelf) (g.F.Shelf.meaning l.shelf) l.fn.page l.page;
}
