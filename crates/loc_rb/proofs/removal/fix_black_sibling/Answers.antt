-- By the colours of the sibling's children.
use Rattle.std.proofs.Common.{sym, ◌∙◌, true≢false, arith, refl}
use Rattle.loc_rb.proofs.{ReadCalls.child-is, ReadCalls.node-has-row, Counts.within-more, Counts.within-none}
use Rattle.loc_rb.proofs.RemovalSteps.{other-fits, far-fits, sibling-fits, siblings-read, no-sibling}
use Rattle.loc_rb.proofs.removal.fix_black_sibling.Goals as goal

pub child-requires : goal.child-requires
child-requires g c = node-has-row (g.K.Links.nodes c.args.links.now) _ _ _ _ _ _ (other-fits _ _ _ _ _ _ c.requires.place.1 c.other_side.ensures)

pub returns-in-None-clause-tree : goal.returns-in-None-clause-tree
returns-in-None-clause-tree g c L u b = absurd (no-sibling _ _ u.other_balanced (sym (child-is (g.K.Links.nodes c.args.links.now) _ _ _ _ _ _ _ (other-fits _ _ _ _ _ _ u c.other_side.ensures) c.child.ensures) ∙ c.in-None.is))

pub red_child-requires : goal.red_child-requires
red_child-requires g c = (_, _, _, _, far-fits _ _ _ _ _ _ _ (siblings-read _ _ _ _ _ _ _ _ c.requires.place.1 c.requires.place.2 c.other_side.ensures c.child.ensures c.in-Some.is) c.other_side-in-Some.ensures)

pub red_child-requires-in-None-red_child : goal.red_child-requires-in-None-red_child
red_child-requires-in-None-red_child g c = (_, _, _, _, (sibling-fits _ _ _ _ _ _ (siblings-read _ _ _ _ _ _ _ _ c.requires.place.1 c.requires.place.2 c.other_side.ensures c.child.ensures c.in-Some.is)).1)

pub rotate_sibling-requires-clause-place : goal.rotate_sibling-requires-clause-place
rotate_sibling-requires-clause-place g c = let s = siblings-read _ _ _ _ _ _ _ _ c.requires.place.1 c.requires.place.2 c.other_side.ensures c.child.ensures c.in-Some.is in (_, s, c.in-Some-red_child.ensures _ _ _ _ (far-fits _ _ _ _ _ _ _ s c.other_side-in-Some.ensures))

pub rotate_near_nephew-requires-clause-place : goal.rotate_near_nephew-requires-clause-place
rotate_near_nephew-requires-clause-place g c = let s = siblings-read _ _ _ _ _ _ _ _ c.requires.place.1 c.requires.place.2 c.other_side.ensures c.child.ensures c.in-Some.is in (_, s, c.in-Some-red_child-2.ensures _ _ _ _ (sibling-fits _ _ _ _ _ _ s).1)

pub recolour_sibling-requires : goal.recolour_sibling-requires
recolour_sibling-requires g c =
    let s = siblings-read _ _ _ _ _ _ _ _ c.requires.place.1 c.requires.place.2 c.other_side.ensures c.child.ensures c.in-Some.is in
    (_, _, _, s, c.in-None-red_child-2.ensures _ _ _ _ (sibling-fits _ _ _ _ _ _ s).1, c.in-None-red_child.ensures _ _ _ _ (far-fits _ _ _ _ _ _ _ s c.other_side-in-Some.ensures))

pub returns-in-Some-red_child-clause-tree : goal.returns-in-Some-red_child-clause-tree
returns-in-Some-red_child-clause-tree g c L u b =
    let s = siblings-read _ _ _ _ _ _ _ _ u b c.other_side.ensures c.child.ensures c.in-Some.is in
    ((λ _. c.rotate_sibling.ensures.tree L s (c.in-Some-red_child.ensures _ _ _ _ (far-fits _ _ _ _ _ _ _ s c.other_side-in-Some.ensures))), λ q. absurd (true≢false (sym q)))

pub returns-in-Some-red_child-2-clause-tree : goal.returns-in-Some-red_child-2-clause-tree
returns-in-Some-red_child-2-clause-tree g c L u b =
    let s = siblings-read _ _ _ _ _ _ _ _ u b c.other_side.ensures c.child.ensures c.in-Some.is in
    ((λ _. c.rotate_near_nephew.ensures.tree L s (c.in-Some-red_child-2.ensures _ _ _ _ (sibling-fits _ _ _ _ _ _ s).1)), λ q. absurd (true≢false (sym q)))

pub returns-in-None-red_child-2-clause-tree : goal.returns-in-None-red_child-2-clause-tree
returns-in-None-red_child-2-clause-tree g c L u b =
    let s = siblings-read _ _ _ _ _ _ _ _ u b c.other_side.ensures c.child.ensures c.in-Some.is in
    c.recolour_sibling.ensures.tree _ _ L s (c.in-None-red_child-2.ensures _ _ _ _ (sibling-fits _ _ _ _ _ _ s).1) (c.in-None-red_child.ensures _ _ _ _ (far-fits _ _ _ _ _ _ _ s c.other_side-in-Some.ensures))

pub rotate_sibling-requires-clause-room : goal.rotate_sibling-requires-clause-room
rotate_sibling-requires-clause-room g c = omega (arith, c.requires.room)

pub returns-in-None-clause-within : goal.returns-in-None-clause-within
returns-in-None-clause-within g c = within-more 0 0 6 _ _ (within-none _) (omega arith)

pub returns-in-None-clause-still : goal.returns-in-None-clause-still
returns-in-None-clause-still g c = λ q. absurd (true≢false (sym q))

pub returns-in-None-clause-length : goal.returns-in-None-clause-length
returns-in-None-clause-length g c = λ q. absurd (true≢false (sym q))

pub returns-in-Some-red_child-clause-within : goal.returns-in-Some-red_child-clause-within
returns-in-Some-red_child-clause-within g c = within-more 0 3 6 _ _ c.rotate_sibling.ensures.within (omega arith)

pub returns-in-Some-red_child-clause-still : goal.returns-in-Some-red_child-clause-still
returns-in-Some-red_child-clause-still g c = λ q. absurd (true≢false (sym q))

pub returns-in-Some-red_child-clause-length : goal.returns-in-Some-red_child-clause-length
returns-in-Some-red_child-clause-length g c = λ q. absurd (true≢false (sym q))

pub returns-in-Some-red_child-2-clause-within : goal.returns-in-Some-red_child-2-clause-within
returns-in-Some-red_child-2-clause-within g c = c.rotate_near_nephew.ensures.within

pub returns-in-Some-red_child-2-clause-still : goal.returns-in-Some-red_child-2-clause-still
returns-in-Some-red_child-2-clause-still g c = λ q. absurd (true≢false (sym q))

pub returns-in-Some-red_child-2-clause-length : goal.returns-in-Some-red_child-2-clause-length
returns-in-Some-red_child-2-clause-length g c = λ q. absurd (true≢false (sym q))

pub returns-in-None-red_child-2-clause-within : goal.returns-in-None-red_child-2-clause-within
returns-in-None-red_child-2-clause-within g c = within-more 0 0 6 _ _ c.recolour_sibling.ensures.within (omega arith)

pub returns-in-None-red_child-2-clause-still : goal.returns-in-None-red_child-2-clause-still
returns-in-None-red_child-2-clause-still g c = λ _. c.recolour_sibling.ensures.within

pub returns-in-None-red_child-2-clause-length : goal.returns-in-None-red_child-2-clause-length
returns-in-None-red_child-2-clause-length g c = λ _. refl
