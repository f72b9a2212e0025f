use Rattle.std.proofs.Common.{length, sym, ◌∙◌, arith, below_more}
use Rattle.loc_spec_valid.specs.Breaches.{feature_rings, is_point_ring}
use Rattle.loc_laws_valid.proofs.Least.{first_at, first_none}
use Rattle.loc_valid.proofs.PointRings.{tested}
use Rattle.loc_valid.proofs.points.first_point.Goals as goal

pub returns-then-is_point : goal.returns-then-is_point
returns-then-is_point c = sym (first_at (is_point_ring c.args.rings.now) (length (feature_rings c.args.rings.now)) c.loop-n.n (omega (arith, c.len-n-end.ensures.value, c.loop-n-test.true)) (sym (tested c.args.rings.now c.loop-n.n c.ring.result.now c.is_point.result c.ring.ensures.value c.is_point.ensures) ∙ c.if-is_point.true) c.loop-n.invariant)

pub loop-n-preserved : goal.loop-n-preserved
loop-n-preserved c = below_more _ _ c.loop-n.invariant (sym (tested c.args.rings.now c.loop-n.n c.ring.result.now c.is_point.result c.ring.ensures.value c.is_point.ensures) ∙ c.if-is_point.false)

pub returns : goal.returns
returns c = sym (first_none (is_point_ring c.args.rings.now) (length (feature_rings c.args.rings.now)) (λ k lt. c.loop-n.invariant k (omega (arith, c.len-n-end.ensures.value, c.loop-n-test.false, lt))))
