use Rattle.std.proofs.Common.{sym, ap, subst, ◌∙◌}
use Rattle.loc_pool.specs.Cells.{addresses, nodes_of, IsFull}
use Rattle.loc_pool.proofs.slabs.Slabs.new.Goals as goal

pub invariant_of-result : goal.invariant_of-result
unfolding addresses
invariant_of-result c = (ap addresses c.new.ensures ∙ sym c.new-2.ensures.items, subst IsFull (sym c.new.ensures) tt)

pub returns : goal.returns
unfolding nodes_of
returns c = ap nodes_of c.new.ensures
