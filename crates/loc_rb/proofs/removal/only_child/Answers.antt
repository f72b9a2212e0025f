-- The left child, or else the right one.
use Rattle.std.proofs.Common.{sym, ◌∙◌}
use Rattle.loc_pool.specs.declared.Turn.TheVariants.{Left, Right}
use Rattle.loc_rb.proofs.{ReadCalls.child-is, ReadCalls.node-has-row, SplicingOut.remaining-none}
use Rattle.loc_rb.proofs.removal.only_child.Goals as goal

pub child-requires : goal.child-requires
child-requires g c = node-has-row (g.K.Links.nodes c.args.links.now) Left _ _ _ _ _ c.requires.4

pub returns-in-None : goal.returns-in-None
returns-in-None g c a x k b p =
    child-is (g.K.Links.nodes c.args.links.now) Right _ _ _ _ _ _ p c.child-in-None.ensures ∙ remaining-none a b (sym (child-is (g.K.Links.nodes c.args.links.now) Left _ _ _ _ _ _ p c.child.ensures) ∙ c.in-None.is)
