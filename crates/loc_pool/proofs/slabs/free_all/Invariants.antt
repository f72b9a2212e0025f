use Rattle.std.proofs.Common.{◌≡◌, drop}
use Rattle.loc_pool.specs.Cells.{addresses}
use Rattle.loc_pool.proofs.slabs.free_all.Given as goal

abbrev pub invariant-frees : goal.invariant-frees
invariant-frees l = addresses l.heap.cells ≡ drop l.at-index l.blocks
