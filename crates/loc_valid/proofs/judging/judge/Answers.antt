use Rattle.std.proofs.Common.{length, sym, ◌∙◌, arith}
use Rattle.loc_spec_valid.specs.Breaches.{feature_rings, is_point_ring}
use Rattle.loc_valid.proofs.Within.{found_within}
use Rattle.loc_valid.proofs.judging.judge.Goals as goal

pub overflow_add-result : goal.overflow_add-result
overflow_add-result c =
    let rings = c.rings-rings.result.now in
    let within = found_within (is_point_ring rings) (length (feature_rings rings)) c.in-Some.ring (sym c.first_point.ensures ∙ c.in-Some.is) in
    omega (arith, within.0, c.len-count.ensures.value, c.len-count.ensures.within)
