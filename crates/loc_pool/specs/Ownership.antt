-- What the slabs own and lend. The words: `cell_own`, `cells_own`, `cells_lent`.
use Rattle.std.specs.Prelude.{List, [], ◌∷◌}
use base.Fml.{Lft, Fml, ftrue, fsep}
use denote.Sharing.{nothing, beside}
use denote.Struct.Lending.{lent_at}
use Rattle.std.specs.{declared.alloc.Global.Global, contracts.impls.GlobalAllocator.TheImpl.ghosts}
use Rattle.std_alloc.specs.Box.Ownership.{box_owns}
use Rattle.loc_pool.specs.{Cells.Cell, contracts.node.Slab.the_row}

-- a slab in its block, and the right to free the block by the handle a
abbrev pub cell_own : Global → Cell → Fml
cell_own a c = box_owns (ghosts.dealloc_token a) the_row c.0.at c.1

-- all slabs in their blocks, each apart from the others
abbrev pub cells_own : Global → List Cell → Fml
cells_own a [] = ftrue
cells_own a (c ∷ cs) = fsep (cell_own a c) (cells_own a cs)

-- a `&` to each slab
abbrev pub cells_lent : List Cell → Lft → Fml
cells_lent [] = nothing
cells_lent (c ∷ cs) = beside (lent_at the_row c.0.at c.1) (cells_lent cs)
