-- Three colours, each in one row.
use Rattle.loc_pool.specs.declared.Turn.TheVariants.{Left}
use Rattle.loc_rb.proofs.Recolouring.{colours-live, recolour-spot, recolour-child, recolour-other, within-colours}
use Rattle.loc_rb.proofs.Counts.{within-trans}
use Rattle.loc_rb.proofs.insertion.recolour.Goals as goal

pub set_colour-requires-2 : goal.set_colour-requires-2
set_colour-requires-2 g c = colours-live _ _ _ _ c.set_colour.ensures _ c.requires.2

pub set_colour-requires-3 : goal.set_colour-requires-3
set_colour-requires-3 g c = colours-live _ _ _ _ c.set_colour-2.ensures _ (colours-live _ _ _ _ c.set_colour.ensures _ c.requires.0)

pub returns-clause-tree : goal.returns-clause-tree
returns-clause-tree g c es C side turn t x other y a z b sp = recolour-spot _ _ _ _ _ _ _ _ _ _ _ c.set_colour-3.ensures (recolour-other _ _ _ _ _ _ Left _ _ _ _ _ _ _ _ _ c.set_colour-2.ensures (recolour-child _ _ _ _ _ _ _ _ _ _ _ _ _ _ _ _ c.set_colour.ensures sp))

pub returns-clause-within : goal.returns-clause-within
returns-clause-within g c =
    let kept = colours-live _ _ _ _ c.set_colour.ensures in
    within-trans 0 0 0 0 _ _ _ (within-trans 0 0 0 0 _ _ _ (within-colours _ _ _ _ c.set_colour.ensures c.requires.1) (within-colours _ _ _ _ c.set_colour-2.ensures (kept _ c.requires.2)))
    (within-colours _ _ _ _ c.set_colour-3.ensures (colours-live _ _ _ _ c.set_colour-2.ensures _ (kept _ c.requires.0)))
