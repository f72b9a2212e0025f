use Rattle.std.proofs.Common.{◌≡◌, ℕ, true, List, length, drop}
use Rattle.std.specs.List.{flat_map}
use Rattle.loc_persist.specs.ByNumber.{AreRootsByNumber}
use Rattle.loc_page.proofs.Growing.{Goes}
use Rattle.loc_write.specs.Bytes.{number_bytes}
use Rattle.loc_write.proofs.parts.put_roots.Given as goal

abbrev pub invariant-loop-version : goal.invariant-loop-version
invariant-loop-version g l = record {
  making : (g.F.Shelf.meaning l.shelf).is_making ≡ true;
  goes : (roots : List ℕ) → AreRootsByNumber l.versions.rows l.versions.roots roots → length roots ≡ length l.versions.roots → Goes (flat_map number_bytes roots) (flat_map number_bytes (drop l.version roots)) (g.F.Shelf.meaning l.fn.shelf) (g.F.Shelf.meaning l.shelf) l.fn.page l.page;
}
