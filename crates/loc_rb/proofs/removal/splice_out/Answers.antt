-- The child is hung in the place; where both were black, a black node is lacking there.
use Rattle.std.proofs.Common.{sym, ◌∙◌, arith}
use Rattle.loc_pool.specs.declared.Turn.TheVariants.{Left}
use Rattle.loc_rb.proofs.{ReadCalls.node-has-row, Recolouring.within-colours, Counts.within-trans, Counts.within-more}
use Rattle.loc_rb.proofs.SplicingOut.{spliced-fits, spliced, can-splice, splice-red, splice-child-live, splice-red-child, splice-lacks}
use Rattle.loc_rb.proofs.removal.splice_out.Goals as goal

pub only_child-child-requires : goal.only_child-child-requires
only_child-child-requires g c = (_, _, _, _, spliced-fits _ _ _ _ c.requires.place.1)

pub colour-colour-requires : goal.colour-colour-requires
colour-colour-requires g c = node-has-row (g.K.Links.nodes c.args.links.now) Left _ _ _ _ _ (spliced-fits _ _ _ _ c.requires.place.1)

pub transplant-requires-clause-place : goal.transplant-requires-clause-place
transplant-requires-clause-place g c =
    let q = c.requires.place.1 in
    (_, _, _, can-splice _ _ _ _ _ q (c.only_child-child.ensures _ _ _ _ (spliced-fits _ _ _ _ q)))

pub returns-in-Red-clause-tree : goal.returns-in-Red-clause-tree
returns-in-Red-clause-tree g c L q = let s = spliced _ _ _ _ _ _ q _ _ c.only_child-child.ensures c.colour-colour.ensures c.transplant.ensures.tree in splice-red _ _ _ _ _ _ q s.replaced (s.colour_is ∙ c.in-Red.is)

pub set_colour-requires : goal.set_colour-requires
set_colour-requires g c = let s = spliced _ _ _ _ _ _ c.requires.place.1 _ _ c.only_child-child.ensures c.colour-colour.ensures c.transplant.ensures.tree in splice-child-live _ _ _ _ _ _ _ c.requires.place.1 s.replaced (s.colour_is ∙ c.in-Black.is) (sym s.child_is ∙ c.in-Some.is)

pub returns-in-Some-clause-tree : goal.returns-in-Some-clause-tree
returns-in-Some-clause-tree g c L q = let s = spliced _ _ _ _ _ _ q _ _ c.only_child-child.ensures c.colour-colour.ensures c.transplant.ensures.tree in splice-red-child _ _ _ _ _ _ _ _ q s.replaced (s.colour_is ∙ c.in-Black.is) (sym s.child_is ∙ c.in-Some.is) c.set_colour.ensures

pub returns-in-Some-clause-within : goal.returns-in-Some-clause-within
returns-in-Some-clause-within g c =
    let s = spliced _ _ _ _ _ _ c.requires.place.1 _ _ c.only_child-child.ensures c.colour-colour.ensures c.transplant.ensures.tree in
    let live = splice-child-live _ _ _ _ _ _ _ c.requires.place.1 s.replaced (s.colour_is ∙ c.in-Black.is) (sym s.child_is ∙ c.in-Some.is) in
    within-more 0 1 10 _ _ (within-trans 0 1 0 0 _ _ _ c.transplant.ensures.within (within-colours _ _ _ _ c.set_colour.ensures live)) (omega arith)

pub fix_removal-requires-clause-place : goal.fix_removal-requires-clause-place
fix_removal-requires-clause-place g c = let s = spliced _ _ _ _ _ _ c.requires.place.1 _ _ c.only_child-child.ensures c.colour-colour.ensures c.transplant.ensures.tree in (_, splice-lacks _ _ _ _ _ _ c.requires.place.1 s.replaced (s.colour_is ∙ c.in-Black.is) (sym s.child_is ∙ c.in-None.is))

pub returns-in-None-clause-tree : goal.returns-in-None-clause-tree
returns-in-None-clause-tree g c L q =
    let s = spliced _ _ _ _ _ _ q _ _ c.only_child-child.ensures c.colour-colour.ensures c.transplant.ensures.tree in
    c.fix_removal.ensures.tree L (splice-lacks _ _ _ _ _ _ q s.replaced (s.colour_is ∙ c.in-Black.is) (sym s.child_is ∙ c.in-None.is))

pub transplant-requires-clause-room : goal.transplant-requires-clause-room
transplant-requires-clause-room g c = omega (arith, c.requires.room)

pub transplant-requires-clause-short : goal.transplant-requires-clause-short
transplant-requires-clause-short g c = omega (arith, c.requires.short)

pub returns-in-Red-clause-within : goal.returns-in-Red-clause-within
returns-in-Red-clause-within g c = within-more 0 1 10 _ _ c.transplant.ensures.within (omega arith)

pub fix_removal-requires-clause-room : goal.fix_removal-requires-clause-room
fix_removal-requires-clause-room g c = omega (arith, c.requires.room, c.transplant.ensures.within.spare)

pub fix_removal-requires-clause-short : goal.fix_removal-requires-clause-short
fix_removal-requires-clause-short g c = omega (arith, c.requires.short, c.transplant.ensures.length)

pub returns-in-None-clause-within : goal.returns-in-None-clause-within
returns-in-None-clause-within g c = within-trans 0 1 0 9 _ _ _ c.transplant.ensures.within c.fix_removal.ensures.within
