use Rattle.std.proofs.Common.{◌++◌, sym, ◌∙◌, ap, arith, append-nil}
use Rattle.loc_laws_rays.proofs.RayRings.{no_segment}
use Rattle.loc_spans.proofs.segments.add_ring.Goals as goal

pub returns : goal.returns
returns c = sym (append-nil c.loop-pair.edges.items) ∙ (ap (λ ss. c.loop-pair.edges.items ++ ss) (sym (no_segment c.loop-pair.pair-iterator.rest.now (omega (arith, c.in-None.ensures.steps.1.0)))) ∙ c.loop-pair.invariant.1)
