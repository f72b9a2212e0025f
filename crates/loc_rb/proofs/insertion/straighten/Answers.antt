-- On the outer side nothing is done; on the inner side the lower red node rises.
use Rattle.std.proofs.Common.{refl}
use Rattle.loc_rb.proofs.Balanced.{red-shape}
use Rattle.loc_rb.proofs.InsertionSteps.{pair-outer, pair-inner, inner-rotation}
use Rattle.loc_rb.proofs.insertion.straighten.Goals as goal

pub rotate-requires-clause-place : goal.rotate-requires-clause-place
rotate-requires-clause-place g c = let p = c.requires.place in inner-rotation _ _ _ _ _ _ _ _ _ _ p.3 c.push.ensures p.4

pub returns-then-is_same_side-clause-tree : goal.returns-then-is_same_side-clause-tree
returns-then-is_same_side-clause-tree g c es up L e o b = pair-outer _ _ _ _ _ _ _ _ _ e (c.if-is_same_side.ensures.same refl) o b

pub returns-else-is_same_side-clause-tree : goal.returns-else-is_same_side-clause-tree
returns-else-is_same_side-clause-tree g c es up L e o b =
    pair-inner _ _ _ _ _ _ _ _ _ _ _ _ (c.if-is_same_side.ensures.other refl) o b (red-shape _ _ _ o.red_top) (c.rotate.ensures.tree (inner-rotation _ _ _ _ _ _ _ _ _ _ e c.push.ensures o))
