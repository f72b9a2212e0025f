-- The new red node hangs at the gap; then the violation is mended.
use Rattle.std.proofs.Common.{arith, ◌∙◌}
use Rattle.loc_rb.proofs.InsertionSteps.{can-insert, inserted}
use Rattle.loc_rb.proofs.insertion.insert.Goals as goal

pub transplant-requires-clause-place : goal.transplant-requires-clause-place
transplant-requires-clause-place g c = (_, _, _, can-insert _ _ _ _ _ _ _ c.make-new.ensures c.requires.place.2)

pub fix_insertion-requires-clause-place : goal.fix_insertion-requires-clause-place
fix_insertion-requires-clause-place g c = let p = c.requires.place.2 in (_, inserted _ _ _ _ _ _ _ _ p (c.transplant.ensures.tree _ _ _ (can-insert _ _ _ _ _ _ _ c.make-new.ensures p)))

pub returns-clause-tree : goal.returns-clause-tree
returns-clause-tree g c L H p = c.fix_insertion.ensures.tree _ (inserted _ _ _ _ _ _ _ _ p (c.transplant.ensures.tree _ _ _ (can-insert _ _ _ _ _ _ _ c.make-new.ensures p)))

pub returns-clause-changed : goal.returns-clause-changed
returns-clause-changed g c = omega (arith, c.make-new.ensures.changed, c.transplant.ensures.within.changed, c.fix_insertion.ensures.within.changed)

pub transplant-requires-clause-room : goal.transplant-requires-clause-room
transplant-requires-clause-room g c = omega (arith, c.requires.room, c.make-new.ensures.spare)

pub fix_insertion-requires-clause-room : goal.fix_insertion-requires-clause-room
fix_insertion-requires-clause-room g c = omega (arith, c.requires.room, c.make-new.ensures.spare, c.transplant.ensures.within.spare)

pub returns-clause-made : goal.returns-clause-made
returns-clause-made g c = omega (arith, c.make-new.ensures.made, c.transplant.ensures.within.made, c.fix_insertion.ensures.within.made)

pub returns-clause-kept : goal.returns-clause-kept
returns-clause-kept g c = c.fix_insertion.ensures.within.kept ∙ c.transplant.ensures.within.kept ∙ c.make-new.ensures.kept
