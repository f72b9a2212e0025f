-- The red sibling rises.
use Rattle.loc_rb.proofs.{Balanced.red-shape, RemovalSteps.red-sibling-rotation, RemovalSteps.red-sibling-rotated}
use Rattle.loc_rb.proofs.removal.rotate_red_sibling.Goals as goal

pub rotate-requires-clause-place : goal.rotate-requires-clause-place
rotate-requires-clause-place g c = let p = c.requires.place in red-sibling-rotation _ _ _ _ _ _ _ _ p.1 p.2 c.other_side.ensures c.push.ensures

pub returns-clause-tree : goal.returns-clause-tree
returns-clause-tree g c L u t =
    red-sibling-rotated _ _ _ _ _ _ _ _ _ _ _ _ u t (red-shape _ _ _ t) c.other_side.ensures (c.rotate.ensures.tree (red-sibling-rotation _ _ _ _ _ _ _ _ u t c.other_side.ensures c.push.ensures)) c.push-2.ensures
