use Rattle.std.proofs.Common.{◌≡◌, true, map, drop}
use Rattle.std.specs.List.{flat_map}
use Rattle.loc_spec_plane.specs.declared.Mark.{Mark}
use Rattle.loc_page.proofs.Growing.{Goes}
use Rattle.loc_write.specs.Bytes.{mark_bytes}
use Rattle.loc_write.proofs.parts.put_edge_marks.Given as goal

abbrev pub invariant-loop-mark : goal.invariant-loop-mark
invariant-loop-mark g l = record {
  making : (g.F.Shelf.meaning l.shelf).is_making ≡ true;
  goes : Goes (flat_map mark_bytes (map (λ (m : Mark). (l.edge, m)) l.marks)) (flat_map mark_bytes (map (λ (m : Mark). (l.edge, m)) (drop l.mark-index l.marks))) (g.F.Shelf.meaning l.fn.shelf) (g.F.Shelf.meaning l.shelf) l.fn.page l.page;
}
