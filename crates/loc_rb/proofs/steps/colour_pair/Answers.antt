-- Two colours, each in one row.
use Rattle.loc_rb.proofs.Recolouring.{colours-live, recolour-spot, recolour-child, within-colours}
use Rattle.loc_rb.proofs.Counts.{within-trans}
use Rattle.loc_rb.proofs.steps.colour_pair.Goals as goal

pub set_colour-requires-2 : goal.set_colour-requires-2
set_colour-requires-2 g c = colours-live _ _ _ _ c.set_colour.ensures _ c.requires.1

pub returns-clause-tree : goal.returns-clause-tree
returns-clause-tree g c es C turn x y cx cy a b d sp = recolour-spot _ _ _ _ _ _ _ _ _ _ _ c.set_colour-2.ensures (recolour-child _ _ _ _ _ _ _ _ _ _ _ _ _ _ _ _ c.set_colour.ensures sp)

pub returns-clause-within : goal.returns-clause-within
returns-clause-within g c =
    within-trans 0 0 0 0 _ _ _ (within-colours _ _ _ _ c.set_colour.ensures c.requires.0) (within-colours _ _ _ _ c.set_colour-2.ensures (colours-live _ _ _ _ c.set_colour.ensures _ c.requires.1))
