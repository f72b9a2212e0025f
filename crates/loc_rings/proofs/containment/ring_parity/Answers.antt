use Rattle.loc_rings.proofs.Passes.{ring_more, ring_met, ring_ended}
use Rattle.loc_rings.proofs.containment.ring_parity.Goals as goal

pub returns-in_err-segment_parity : goal.returns-in_err-segment_parity
returns-in_err-segment_parity c = ring_met c.args.ring.now c.loop-i.i c.index-ring-i.result c.index-ring-i-in-loop-i.result c.args.p c.loop-i.odd c.segment_parity.result c.from_residual.result c.loop-i.auto.i c.loop-i-test.true c.index-ring-i.is c.index-ring-i-in-loop-i.is c.loop-i.invariant c.segment_parity.ensures c.in_err-segment_parity.was c.from_residual.ensures

pub loop-i-preserved : goal.loop-i-preserved
loop-i-preserved c = ring_more c.args.ring.now c.loop-i.i c.index-ring-i.result c.index-ring-i-in-loop-i.result c.args.p c.loop-i.odd c.in_ok-segment_parity.field-0 c.flipped-odd.result c.loop-i.auto.i c.loop-i-test.true c.index-ring-i.is c.index-ring-i-in-loop-i.is c.loop-i.invariant c.in_ok-segment_parity.ensures c.flipped-odd.ensures

pub returns : goal.returns
returns c = ring_ended c.args.ring.now c.loop-i.i c.args.p c.loop-i.odd c.loop-i-test.false c.loop-i.invariant
