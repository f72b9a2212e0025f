-- The near nephew rises twice.
use Rattle.loc_rb.proofs.{OneChange.has-row, ReadCalls.colour-is, Balanced.red-shape, ItemLists.replaced-up}
use Rattle.loc_rb.proofs.Counts.{within-trans}
use Rattle.loc_rb.proofs.RemovalSteps.{at-live, sibling-fits, nephew-rotation, nephew-second, nephew-rotated}
use Rattle.loc_rb.proofs.removal.rotate_near_nephew.Goals as goal

pub colour-colour-requires : goal.colour-colour-requires
colour-colour-requires g c = has-row (g.K.Links.nodes c.args.links.now) _ (at-live _ _ _ _ _ _ c.requires.place.1)

pub rotate-requires-clause-place : goal.rotate-requires-clause-place
rotate-requires-clause-place g c = let p = c.requires.place in nephew-rotation _ _ _ _ _ _ _ _ _ _ p.1 p.2 c.other_side.ensures c.push.ensures c.push-2.ensures

pub rotate-requires-2-clause-place : goal.rotate-requires-2-clause-place
rotate-requires-2-clause-place g c = let p = c.requires.place in nephew-second _ _ _ _ _ _ _ _ _ _ _ _ p.1 p.2 c.other_side.ensures (c.rotate.ensures.tree (nephew-rotation _ _ _ _ _ _ _ _ _ _ p.1 p.2 c.other_side.ensures c.push.ensures c.push-2.ensures))

pub returns-clause-tree : goal.returns-clause-tree
returns-clause-tree g c L s t =
    let mv = c.rotate.ensures.tree (nephew-rotation _ _ _ _ _ _ _ _ _ _ s t c.other_side.ensures c.push.ensures c.push-2.ensures) in
    nephew-rotated _ _ _ _ _ _ _ _ _ _ _ _ _ _ _ _ _ s (red-shape _ _ _ t) c.other_side.ensures (colour-is (g.K.Links.nodes c.args.links.now) _ _ _ _ _ _ _ (sibling-fits _ _ _ _ _ _ s).0 c.colour-colour.ensures) (replaced-up _ _ _ _ _ _ _ _ _ mv)
    (c.rotate-2.ensures.tree (nephew-second _ _ _ _ _ _ _ _ _ _ _ _ s t c.other_side.ensures mv))

pub returns-clause-within : goal.returns-clause-within
returns-clause-within g c = within-trans 0 3 0 3 _ _ _ c.rotate.ensures.within c.rotate-2.ensures.within
