use Rattle.std.proofs.Common.{arith}
use Rattle.loc_spec_text.specs.Reading.{all_rings}
use Rattle.loc_rings.proofs.Points.{points_from}
use Rattle.loc_rings.proofs.layers.points_with.Goals as goal

pub returns-then-count-points-clause-count : goal.returns-then-count-points-clause-count
returns-then-count-points-clause-count c = omega (arith, points_from (all_rings c.args.rings.now) c.loop-n.n c.ring-count.result.now c.ring-count.ensures.value, c.loop-n.invariant.0, c.if-count-points.true)

pub loop-n-preserved : goal.loop-n-preserved
loop-n-preserved c = (omega (arith, points_from (all_rings c.args.rings.now) c.loop-n.n c.ring-count.result.now c.ring-count.ensures.value, c.loop-n.invariant.0), omega (arith, c.if-count-points.false, c.loop-n.invariant.1))
