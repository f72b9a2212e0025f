use Rattle.loc_spec_text.specs.Reading.{all_rings}
use Rattle.loc_rings.proofs.Passes.{rings_more, rings_met}
use Rattle.loc_rings.proofs.containment.parity.Goals as goal

pub returns-in_err-ring_parity : goal.returns-in_err-ring_parity
returns-in_err-ring_parity c = rings_met (all_rings c.args.rings.now) c.loop-n.n c.ring.result.now c.args.p c.loop-n.odd c.ring_parity.result c.from_residual.result c.ring.ensures.value c.loop-n.invariant c.ring_parity.ensures c.in_err-ring_parity.was c.from_residual.ensures

pub loop-n-preserved : goal.loop-n-preserved
loop-n-preserved c = rings_more (all_rings c.args.rings.now) c.loop-n.n c.ring.result.now c.args.p c.loop-n.odd c.in_ok-ring_parity.field-0 c.flipped-odd.result c.ring.ensures.value c.loop-n.invariant c.in_ok-ring_parity.ensures c.flipped-odd.ensures
