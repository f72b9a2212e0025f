use Rattle.std.proofs.Common.{◌≡◌, true, length}
use Rattle.loc_page.proofs.Growing.{Wrote}
use Rattle.loc_page.proofs.file_page.write_whole.Given as goal

abbrev pub invariant-loop-rest : goal.invariant-loop-rest
invariant-loop-rest g l = record {
  wrote : Wrote l.text l.rest (g.F.Shelf.meaning l.fn.shelf) (g.F.Shelf.meaning l.shelf);
  making : (g.F.Shelf.meaning l.shelf).is_making ≡ true;
}

abbrev pub decreases-loop-rest : goal.decreases-loop-rest
decreases-loop-rest g l = length l.rest
