-- A rotation is three changes and two colours: the node is lowered, the child raised, and hung in the node's place.
use Rattle.std.proofs.Common.{arith}
use Rattle.loc_rb.proofs.{OneChange.length-carried, ReadCalls.node-has-row, Counts.within-trans, NewNode.within-changes}
use Rattle.loc_rb.proofs.Rotations.{popped-rotation, child-fits, inner-is, can-lower, lowered, can-raise, raised, rotated, turned-live, same-turn}
use Rattle.loc_rb.proofs.steps.rotate.Goals as goal

pub child-inner-requires : goal.child-inner-requires
child-inner-requires g c = node-has-row (g.K.Links.nodes c.args.links.now) _ _ _ _ _ _ (child-fits _ _ _ c.requires.place)

pub change-low-requires-clause-place : goal.change-low-requires-clause-place
change-low-requires-clause-place g c = let r = popped-rotation _ _ _ _ _ c.requires.place c.in-Some.ensures.items in can-lower _ _ _ r _ (inner-is _ _ _ r _ _ c.other_side.ensures c.child-inner.ensures)

pub change-high-requires-clause-place : goal.change-high-requires-clause-place
change-high-requires-clause-place g c = let r = popped-rotation _ _ _ _ _ c.requires.place c.in-Some.ensures.items in can-raise _ _ _ _ _ _ _ r (lowered _ _ _ _ _ _ r _ (inner-is _ _ _ r _ _ c.other_side.ensures c.child-inner.ensures) c.change-low.ensures) c.new-none.ensures

pub transplant-requires-clause-place : goal.transplant-requires-clause-place
transplant-requires-clause-place g c =
    let r = popped-rotation _ _ _ _ _ c.requires.place c.in-Some.ensures.items in let h = lowered _ _ _ _ _ _ r _ (inner-is _ _ _ r _ _ c.other_side.ensures c.child-inner.ensures) c.change-low.ensures in
    (_, _, _, raised _ _ _ _ _ _ _ _ _ _ r h _ c.new-none.ensures c.other_side-in-Some.ensures c.change-high.ensures)

pub transplant-requires-clause-short : goal.transplant-requires-clause-short
transplant-requires-clause-short g c = let q = length-carried _ _ _ _ _ c.change-low.ensures.rows.above in let l = c.in-Some.ensures.len in omega arith

pub colour_pair-requires : goal.colour_pair-requires
colour_pair-requires g c = turned-live _ _ _ _ _ _ _ _ _ _ _ _ _ (rotated _ _ _ _ _ _ _ _ _ _ _ _ _ _ _ _ _ c.requires.place c.in-Some.ensures.items c.other_side.ensures c.child-inner.ensures c.change-low.ensures c.new-none.ensures c.other_side-in-Some.ensures c.change-high.ensures c.transplant.ensures.tree)

pub returns-in-Some-clause-tree : goal.returns-in-Some-clause-tree
returns-in-Some-clause-tree g c r =
    let mv = rotated _ _ _ _ _ _ _ _ _ _ _ _ _ _ _ _ _ r c.in-Some.ensures.items c.other_side.ensures c.child-inner.ensures c.change-low.ensures c.new-none.ensures c.other_side-in-Some.ensures c.change-high.ensures c.transplant.ensures.tree in
    same-turn _ _ _ _ _ _ _ _ _ r _ _ c.in-Some.ensures.items (mv.0, mv.1, c.colour_pair.ensures.tree _ _ _ _ _ _ _ _ _ _ mv.2)

pub returns-in-Some-clause-within : goal.returns-in-Some-clause-within
returns-in-Some-clause-within g c =
    within-trans 0 3 0 0 _ _ _ (within-trans 0 2 0 1 _ _ _ (within-trans 0 1 0 1 _ _ _ (within-changes _ _ _ _ _ _ _ _ c.change-low.ensures) (within-changes _ _ _ _ _ _ _ _ c.change-high.ensures)) c.transplant.ensures.within) c.colour_pair.ensures.within

pub returns-in-Some-clause-length : goal.returns-in-Some-clause-length
returns-in-Some-clause-length g c = let q = length-carried _ _ _ _ _ c.change-low.ensures.rows.above in let l = c.in-Some.ensures.len in let k = c.transplant.ensures.length in omega arith

pub change-low-requires-clause-room : goal.change-low-requires-clause-room
change-low-requires-clause-room g c = omega (arith, c.requires.room)

pub change-high-requires-clause-room : goal.change-high-requires-clause-room
change-high-requires-clause-room g c = omega (arith, c.requires.room, c.change-low.ensures.spare)

pub transplant-requires-clause-room : goal.transplant-requires-clause-room
transplant-requires-clause-room g c = omega (arith, c.requires.room, c.change-low.ensures.spare, c.change-high.ensures.spare)
