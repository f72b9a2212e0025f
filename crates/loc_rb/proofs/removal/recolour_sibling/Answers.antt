-- The sibling becomes red; a red node above becomes black.
use Rattle.std.proofs.Common.{true≢false, sym}
use Rattle.loc_rb.proofs.{OneChange.has-row, Recolouring.colours-live, Recolouring.within-colours, Counts.within-trans}
use Rattle.loc_rb.proofs.RemovalSteps.{at-live, sibling-live, sibling-red-under-black, sibling-red-under-red}
use Rattle.loc_rb.proofs.removal.recolour_sibling.Goals as goal

pub set_colour-requires : goal.set_colour-requires
set_colour-requires g c = sibling-live _ _ _ _ _ _ c.requires.3

pub colour-requires : goal.colour-requires
colour-requires g c = has-row (g.K.Links.nodes c.set_colour.new.self) _ (colours-live _ _ _ _ c.set_colour.ensures _ (at-live _ _ _ _ _ _ c.requires.3))

pub set_colour-requires-in-Red : goal.set_colour-requires-in-Red
set_colour-requires-in-Red g c = colours-live _ _ _ _ c.set_colour.ensures _ (at-live _ _ _ _ _ _ c.requires.3)

pub returns-in-Red-clause-tree : goal.returns-in-Red-clause-tree
returns-in-Red-clause-tree g c es turn L s bn bf = ((λ _. sibling-red-under-red _ _ _ _ _ _ _ _ s c.set_colour.ensures c.set_colour-in-Red.ensures bn bf c.in-Red.ensures), λ e. absurd (true≢false (sym e)))

pub returns-in-Black-clause-tree : goal.returns-in-Black-clause-tree
returns-in-Black-clause-tree g c es turn L s bn bf = ((λ e. absurd (true≢false (sym e))), λ _. sibling-red-under-black _ _ _ _ _ _ _ s c.set_colour.ensures bn bf c.in-Black.ensures)

pub returns-in-Red-clause-within : goal.returns-in-Red-clause-within
returns-in-Red-clause-within g c = within-trans 0 0 0 0 _ _ _ (within-colours _ _ _ _ c.set_colour.ensures (sibling-live _ _ _ _ _ _ c.requires.3)) (within-colours _ _ _ _ c.set_colour-in-Red.ensures (colours-live _ _ _ _ c.set_colour.ensures _ (at-live _ _ _ _ _ _ c.requires.3)))

pub returns-in-Black-clause-within : goal.returns-in-Black-clause-within
returns-in-Black-clause-within g c = within-colours _ _ _ _ c.set_colour.ensures (sibling-live _ _ _ _ _ _ c.requires.3)
