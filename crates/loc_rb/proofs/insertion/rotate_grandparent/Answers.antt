-- The pair is made straight, and its upper node rises.
use Rattle.std.proofs.Common.{ap, length, length-append, ◌∷◌, [], arith}
use Rattle.loc_rb.proofs.{InsertionSteps.pair-rotation, InsertionSteps.pair-rotated, Counts.within-trans}
use Rattle.loc_rb.proofs.insertion.rotate_grandparent.Goals as goal

pub straighten-middle-requires-clause-place : goal.straighten-middle-requires-clause-place
straighten-middle-requires-clause-place g c = let p = c.requires.place in (_, _, p.0, c.push.ensures, p.1, p.2)

pub rotate-requires-clause-place : goal.rotate-requires-clause-place
rotate-requires-clause-place g c = let p = c.requires.place in pair-rotation _ _ _ _ (c.straighten-middle.ensures.tree _ _ p.0 c.push.ensures p.1 p.2)

pub returns-clause-tree : goal.returns-clause-tree
returns-clause-tree g c L o b =
    let s = c.straighten-middle.ensures.tree _ _ L c.push.ensures o b in
    pair-rotated _ _ _ _ _ _ _ _ s (c.rotate.ensures.tree (pair-rotation _ _ _ _ s))

pub returns-clause-within : goal.returns-clause-within
returns-clause-within g c = within-trans 0 3 0 3 _ _ _ c.straighten-middle.ensures.within c.rotate.ensures.within

pub straighten-middle-requires-clause-room : goal.straighten-middle-requires-clause-room
straighten-middle-requires-clause-room g c = omega (arith, c.requires.room)

pub straighten-middle-requires-clause-short : goal.straighten-middle-requires-clause-short
straighten-middle-requires-clause-short g c = omega (arith, c.requires.short, ap length c.push.ensures, length-append c.args.path.now.items ((c.args.up, c.args.side) ∷ []))

pub rotate-requires-clause-room : goal.rotate-requires-clause-room
rotate-requires-clause-room g c = omega (arith, c.requires.room, c.straighten-middle.ensures.within.spare)

pub rotate-requires-clause-short : goal.rotate-requires-clause-short
rotate-requires-clause-short g c = omega (arith, c.requires.short, c.straighten-middle.ensures.length, ap length c.push.ensures, length-append c.args.path.now.items ((c.args.up, c.args.side) ∷ []))
