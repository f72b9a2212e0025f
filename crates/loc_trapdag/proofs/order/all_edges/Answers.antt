use Rattle.std.proofs.Common.{◌∙◌, ◌++◌, [], ◌∷◌, List, ℕ, ap, sym}
use Rattle.loc_laws_order.proofs.Kept.{numbers_more}
use Rattle.loc_trapdag.proofs.order.all_edges.Goals as goal

pub loop-edge-preserved : goal.loop-edge-preserved
loop-edge-preserved c = c.in_ok-push.ensures.items ∙ (ap (λ (xs : List ℕ). xs ++ c.loop-edge.edge ∷ []) c.loop-edge.invariant ∙ sym (numbers_more c.loop-edge.edge))
