-- A bare node takes the left tree, then the right one, and is hung in the place.
use Rattle.std.proofs.Common.{refl, arith}
use Rattle.loc_pool.specs.declared.Turn.TheVariants.{Left, Right}
use Rattle.loc_rb.specs.Trees.{leaf}
use Rattle.loc_rb.proofs.{ReadCalls.node-has-row, Counts.within-trans}
use Rattle.loc_rb.proofs.NewNode.{side-fits, new-bare, can-take, left-taken, new-placed, within-makes, within-changes}
use Rattle.loc_rb.proofs.removal.replace_node.Goals as goal

pub child-left-requires : goal.child-left-requires
child-left-requires g c = node-has-row (g.K.Links.nodes c.args.links.now) Left _ _ _ _ _ (let p = c.requires.place in side-fits _ _ _ _ p Left p.left p.right refl p.spot)

pub child-right-requires : goal.child-right-requires
child-right-requires g c = node-has-row (g.K.Links.nodes c.args.links.now) Left _ _ _ _ _ (let p = c.requires.place in side-fits _ _ _ _ p Left p.left p.right refl p.spot)

pub colour-colour-requires : goal.colour-colour-requires
colour-colour-requires g c = node-has-row (g.K.Links.nodes c.args.links.now) Left _ _ _ _ _ (let p = c.requires.place in side-fits _ _ _ _ p Left p.left p.right refl p.spot)

pub change-half-requires-clause-place : goal.change-half-requires-clause-place
change-half-requires-clause-place g c =
    let p = c.requires.place in
    can-take _ _ _ _ _ p _ _ Left leaf leaf p.left p.right _ refl (new-bare _ _ _ _ p _ _ _ c.make-bare.ensures c.colour-colour.ensures) c.new-none.ensures c.child-left.ensures

pub change-new-requires-clause-place : goal.change-new-requires-clause-place
change-new-requires-clause-place g c =
    let p = c.requires.place in
    let h = left-taken _ _ _ _ _ _ _ p _ _ _ _ _ c.make-bare.ensures c.colour-colour.ensures c.new-none.ensures c.child-left.ensures c.change-half.ensures in
    can-take _ _ _ _ _ p _ _ Right leaf p.left p.right p.left _ refl h c.new-none-2.ensures c.child-right.ensures

pub transplant-requires-clause-place : goal.transplant-requires-clause-place
transplant-requires-clause-place g c = (_, _, _, new-placed _ _ _ _ _ _ _ _ _ _ c.requires.place _ _ _ _ _ _ _ c.make-bare.ensures c.colour-colour.ensures c.new-none.ensures c.child-left.ensures c.change-half.ensures c.new-none-2.ensures c.child-right.ensures c.change-new.ensures)

pub transplant-requires-clause-room : goal.transplant-requires-clause-room
transplant-requires-clause-room g c = omega (arith, c.requires.room, c.make-bare.ensures.spare, c.change-half.ensures.spare, c.change-new.ensures.spare)

pub returns-clause-tree : goal.returns-clause-tree
returns-clause-tree g c p =
    c.transplant.ensures.tree _ _ _ (new-placed _ _ _ _ _ _ _ _ _ _ p _ _ _ _ _ _ _ c.make-bare.ensures c.colour-colour.ensures c.new-none.ensures c.child-left.ensures c.change-half.ensures c.new-none-2.ensures c.child-right.ensures c.change-new.ensures)

pub returns-clause-within : goal.returns-clause-within
returns-clause-within g c =
    let made = within-trans 1 0 0 1 _ _ _ (within-makes _ _ _ _ _ c.make-bare.ensures c.requires.old) (within-changes _ _ _ _ _ _ _ _ c.change-half.ensures) in
    within-trans 1 2 0 1 _ _ _ (within-trans 1 1 0 1 _ _ _ made (within-changes _ _ _ _ _ _ _ _ c.change-new.ensures)) c.transplant.ensures.within
