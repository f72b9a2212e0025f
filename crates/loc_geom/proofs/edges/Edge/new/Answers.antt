use Rattle.std.proofs.Common.{◌∙◌, sym, refl}
use Rattle.loc_geom.proofs.edges.Edge.new.Goals as goal

pub invariant_of-result-then-is_before-2 : goal.invariant_of-result-then-is_before-2
invariant_of-result-then-is_before-2 c = sym c.is_before-else-is_before.ensures ∙ c.if-is_before-2.true

pub returns-then-is_before-2-clause-ends : goal.returns-then-is_before-2-clause-ends
returns-then-is_before-2-clause-ends c = rw (sym c.is_before.ensures ∙ c.if-is_before.false) refl

pub returns-then-is_before-2-clause-goes_up : goal.returns-then-is_before-2-clause-goes_up
returns-then-is_before-2-clause-goes_up c = sym c.is_before-else-is_before.ensures ∙ c.if-is_before-2.true
