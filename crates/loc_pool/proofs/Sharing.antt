-- A `&` to the heap reaches each slab. Assumes `Logic`.
use mathlib.Core.List.{List, [], ◌∷◌}
use seplogic.Ra.Ura.{Ura}
use base.Fraction.{full_share}
use base.Fml.{Lft, ftrue}
use types.Logic.{Logic}
use denote.Sharing.{ShrLaws}
use denote.SharingLaws.{beside_shr_laws, nothing_shr_laws}
use contract.BorrowLft.{⊑_static}
use denote.RawPtr.{lies_at}
use denote.Shares.{Shares-less}
use denote.Struct.Lending.{Lends, lent_at, lent_at_shr_laws, Lends-lies, Lends-first, Lends-both, Lends-nothing}
use Rattle.loc_pool.specs.{Cells.Cell, Ownership.cells_own, Ownership.cells_lent, Ownership.cell_own}
use Rattle.loc_pool.proofs.Memory.{handle}
use Rattle.loc_pool.specs.contracts.node.Slab.{the_row as R}
use Rattle.loc_pool.proofs.node.Slab.TheLaws.{the_row_laws as L}

pub cells_lent_laws : (cs : List Cell) → ShrLaws (cells_lent cs)
cells_lent_laws [] = nothing_shr_laws
cells_lent_laws (c ∷ cs) = beside_shr_laws _ _ (lent_at_shr_laws R L.shr_laws c.0.at c.1) (cells_lent_laws cs)

pub Lends-cells : {M : Type 1} {𝓤 : Ura M} (𝓛 : Logic 𝓤) (l : Lft) (cs : List Cell) → Lends 𝓛 (cells_own handle cs) (cells_lent cs) l
Lends-cells 𝓛 l [] = Lends-nothing 𝓛 ftrue l
Lends-cells 𝓛 l (c ∷ cs) =
    Lends-both 𝓛 (cell_own handle c) (cells_own handle cs) (lent_at R c.0.at c.1) (cells_lent cs) l
    (Lends-first 𝓛 (lies_at R full_share c.0.at c.1) _ (lent_at R c.0.at c.1) l (Lends-lies 𝓛 R l c.0.at c.1 (Shares-less 𝓛 R [] l (⊑_static l) (L.shares 𝓛) c.1)))
    (Lends-cells 𝓛 l cs)
