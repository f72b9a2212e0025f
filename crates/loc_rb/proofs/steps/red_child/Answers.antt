-- The child, where there is one and it is red.
use Rattle.std.proofs.Common.{sym, ◌∙◌}
use Rattle.loc_rb.proofs.Trees.{inner}
use Rattle.loc_rb.proofs.ReadCalls.{child-is, top-has-row, no-top, red-top, black-top}
use Rattle.loc_rb.proofs.steps.red_child.Goals as goal

pub colour-requires : goal.colour-requires
colour-requires g c = let r = c.requires in top-has-row (g.K.Links.nodes c.args.links.now) _ _ (inner _ _ _ _ _ _ _ r.4).0 (sym (child-is (g.K.Links.nodes c.args.links.now) _ _ _ _ _ _ _ r.4 c.child.ensures) ∙ c.in-Some.is)

pub returns-in-None : goal.returns-in-None
returns-in-None g c t x k other p = no-top t (sym (child-is (g.K.Links.nodes c.args.links.now) _ _ _ _ _ _ _ p c.child.ensures) ∙ c.in-None.is)

pub returns-in-Red : goal.returns-in-Red
returns-in-Red g c t x k other p = red-top (g.K.Links.nodes c.args.links.now) t _ (inner _ _ _ _ _ _ _ p).0 (sym (child-is (g.K.Links.nodes c.args.links.now) _ _ _ _ _ _ _ p c.child.ensures) ∙ c.in-Some.is) c.in-Red.ensures

pub returns-in-Black : goal.returns-in-Black
returns-in-Black g c t x k other p = black-top (g.K.Links.nodes c.args.links.now) t _ (inner _ _ _ _ _ _ _ p).0 (sym (child-is (g.K.Links.nodes c.args.links.now) _ _ _ _ _ _ _ p c.child.ensures) ∙ c.in-Some.is) c.in-Black.ensures
