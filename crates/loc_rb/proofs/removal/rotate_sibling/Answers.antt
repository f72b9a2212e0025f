-- The sibling rises, and its far child becomes black.
use Rattle.loc_rb.proofs.{OneChange.has-row, ReadCalls.colour-is, Recolouring.within-colours, Counts.within-trans}
use Rattle.loc_rb.proofs.RemovalSteps.{at-live, sibling-fits, sibling-rotation, sibling-rotated, far-risen-live}
use Rattle.loc_rb.proofs.removal.rotate_sibling.Goals as goal

pub colour-colour-requires : goal.colour-colour-requires
colour-colour-requires g c = has-row (g.K.Links.nodes c.args.links.now) _ (at-live _ _ _ _ _ _ c.requires.place.1)

pub rotate-requires-clause-place : goal.rotate-requires-clause-place
rotate-requires-clause-place g c = sibling-rotation _ _ _ _ _ _ _ _ c.requires.place.1 c.other_side.ensures c.push.ensures

pub set_colour-requires : goal.set_colour-requires
set_colour-requires g c = let r = c.requires.place in far-risen-live _ _ _ _ _ _ _ _ _ _ _ _ _ r.1 r.2 c.other_side.ensures (c.rotate.ensures.tree (sibling-rotation _ _ _ _ _ _ _ _ r.1 c.other_side.ensures c.push.ensures))

pub returns-clause-tree : goal.returns-clause-tree
returns-clause-tree g c L s t =
    sibling-rotated _ _ _ _ _ _ _ _ _ _ _ _ _ _ s t c.other_side.ensures (colour-is (g.K.Links.nodes c.args.links.now) _ _ _ _ _ _ _ (sibling-fits _ _ _ _ _ _ s).0 c.colour-colour.ensures) (c.rotate.ensures.tree (sibling-rotation _ _ _ _ _ _ _ _ s c.other_side.ensures c.push.ensures)) c.set_colour.ensures

pub returns-clause-within : goal.returns-clause-within
returns-clause-within g c =
    let r = c.requires.place in let live = far-risen-live _ _ _ _ _ _ _ _ _ _ _ _ _ r.1 r.2 c.other_side.ensures (c.rotate.ensures.tree (sibling-rotation _ _ _ _ _ _ _ _ r.1 c.other_side.ensures c.push.ensures)) in
    within-trans 0 3 0 0 _ _ _ c.rotate.ensures.within (within-colours _ _ _ _ c.set_colour.ensures live)
