-- Two levels up at each red uncle; a black node above, the root or a rotation ends it.
use Rattle.std.proofs.Common.{ℕ, List, arith}
use Rattle.loc_pool.specs.declared.Turn.TheVariants.{Left}
use Rattle.loc_rb.specs.{Balance.IsBlackTop, Steps.RedViolation, Steps.IsRedTop}
use Rattle.loc_rb.proofs.{OneChange.has-row, OneChange.no-entries, Balanced.red-shape, Recolouring.within-colours}
use Rattle.loc_rb.proofs.Counts.{within-trans, within-more, within-none}
use Rattle.loc_rb.proofs.InsertionSteps.{violation-live, violation-under-black, violation-under-root, violation-pair, violation-moved-up, pair-live, pair-uncle-spot, red-live, violation-at-root, uncle-fits, uncle-tested}
use Rattle.loc_rb.proofs.insertion.fix_insertion.Goals as goal

pub colour-requires : goal.colour-requires
colour-requires g c = has-row (g.K.Links.nodes c.up.links) _ (violation-live _ _ _ _ _ _ _ c.up.invariant.some.1 c.in-Some.ensures.items)

pub returns-in-Black-clause-tree : goal.returns-in-Black-clause-tree
returns-in-Black-clause-tree g c L H = violation-under-black _ _ _ _ _ _ _ (c.up.invariant.all L H) c.in-Some.ensures.items c.in-Black.ensures

pub set_colour-requires : goal.set_colour-requires
set_colour-requires g c = violation-live _ _ _ _ _ _ _ c.up.invariant.some.1 c.in-Some.ensures.items

pub returns-in-None-clause-tree : goal.returns-in-None-clause-tree
returns-in-None-clause-tree g c L H = violation-under-root _ _ _ _ _ _ _ _ (c.up.invariant.all L H) c.in-Some.ensures.items (no-entries _ c.in-None.ensures.variant.1) c.set_colour.ensures

pub returns-in-None-clause-within : goal.returns-in-None-clause-within
returns-in-None-clause-within g c =
    let live = violation-live _ _ _ _ _ _ _ c.up.invariant.some.1 c.in-Some.ensures.items in
    within-more 0 0 6 _ _ (within-trans 0 0 0 0 _ _ _ c.up.invariant.within (within-colours _ _ _ _ c.set_colour.ensures live)) (omega arith)

pub red_child-requires : goal.red_child-requires
red_child-requires g c =
    let o = violation-pair _ _ _ _ _ _ _ _ _ _ c.up.invariant.some.1 c.in-Some.ensures.items c.in-Some-pop.ensures.items c.in-Red.ensures in
    (_, _, _, _, uncle-fits _ _ _ _ _ _ _ _ _ o c.other_side.ensures)

pub rotate_grandparent-requires-clause-place : goal.rotate_grandparent-requires-clause-place
rotate_grandparent-requires-clause-place g c = let o = uncle-tested IsBlackTop _ _ _ _ _ _ _ _ _ _ _ c.up.invariant.some.1 c.in-Some.ensures.items c.in-Some-pop.ensures.items c.in-Red.ensures c.other_side.ensures c.in-None-red_child.ensures in (_, o.0, o.1)

pub returns-in-None-red_child-clause-tree : goal.returns-in-None-red_child-clause-tree
returns-in-None-red_child-clause-tree g c L H =
    let o = uncle-tested IsBlackTop _ _ _ _ _ _ _ _ _ _ _ (c.up.invariant.all L H) c.in-Some.ensures.items c.in-Some-pop.ensures.items c.in-Red.ensures c.other_side.ensures c.in-None-red_child.ensures in
    c.rotate_grandparent.ensures.tree L o.0 o.1

pub recolour-requires : goal.recolour-requires
recolour-requires g c =
    let o = uncle-tested (IsRedTop c.in-Some-red_child.uncle) _ _ _ _ _ _ _ _ _ _ _ c.up.invariant.some.1 c.in-Some.ensures.items c.in-Some-pop.ensures.items c.in-Red.ensures c.other_side.ensures c.in-Some-red_child.ensures in
    pair-live _ _ _ _ _ _ _ _ _ o.0 o.1

pub up-preserved : goal.up-preserved
up-preserved g c =
    let i = c.up.invariant in
    let on : (L : List ℕ) → RedViolation (g.K.Links.nodes c.up.links) c.up.path.items c.up.red L → RedViolation (g.K.Links.nodes c.recolour.new.links) c.pop-in-Red.new.self.items c.in-Some-pop.up L = λ L H.
    let o = uncle-tested (IsRedTop c.in-Some-red_child.uncle) _ _ _ _ _ _ _ _ _ _ _ H c.in-Some.ensures.items c.in-Some-pop.ensures.items c.in-Red.ensures c.other_side.ensures c.in-Some-red_child.ensures in
    let r = red-shape Left c.in-Some-red_child.uncle o.0.uncle o.1 in
    violation-moved-up _ _ _ _ _ _ _ _ _ _ o.0 r (c.recolour.ensures.tree _ _ _ _ _ _ _ _ _ _ _ (pair-uncle-spot _ _ _ _ _ _ _ _ _ o.0 r)) in
    record {
      some = (i.some.0, on i.some.0 i.some.1);
      all = λ L H. on L (i.all L H);
      within = within-trans 0 0 0 0 _ _ _ i.within c.recolour.ensures.within;
      short = (let a = c.in-Some.ensures.len in let b = c.in-Some-pop.ensures.len in let s = i.short in omega (arith, a, b, s));
    }

pub set_colour-requires-2 : goal.set_colour-requires-2
set_colour-requires-2 g c = red-live _ _ _ _ c.up.invariant.some.1

pub returns-clause-tree : goal.returns-clause-tree
returns-clause-tree g c L H = violation-at-root _ _ _ _ _ (c.up.invariant.all L H) (no-entries _ c.in_default.ensures.variant.1) c.set_colour-2.ensures

pub returns-clause-within : goal.returns-clause-within
returns-clause-within g c = within-more 0 0 6 _ _ (within-trans 0 0 0 0 _ _ _ c.up.invariant.within (within-colours _ _ _ _ c.set_colour-2.ensures (red-live _ _ _ _ c.up.invariant.some.1))) (omega arith)

pub up-init : goal.up-init
up-init g c = record { some = c.requires.place; all = λ _ H. H; within = within-none _; short = c.requires.short }

pub returns-in-Black-clause-within : goal.returns-in-Black-clause-within
returns-in-Black-clause-within g c = within-more 0 0 6 _ _ c.up.invariant.within (omega arith)

pub rotate_grandparent-requires-clause-room : goal.rotate_grandparent-requires-clause-room
rotate_grandparent-requires-clause-room g c = omega (arith, c.requires.room, c.up.invariant.within.spare)

pub rotate_grandparent-requires-clause-short : goal.rotate_grandparent-requires-clause-short
rotate_grandparent-requires-clause-short g c = omega (arith, c.up.invariant.short, c.in-Some.ensures.len, c.in-Some-pop.ensures.len)

pub returns-in-None-red_child-clause-within : goal.returns-in-None-red_child-clause-within
returns-in-None-red_child-clause-within g c = within-trans 0 0 0 6 _ _ _ c.up.invariant.within c.rotate_grandparent.ensures.within

pub up-smaller : goal.up-smaller
up-smaller g c = omega (arith, c.in-Some.ensures.len, c.in-Some-pop.ensures.len)
