use Rattle.std.proofs.{Common.ap, Common.arith, lemmas.List.Sums.sum_by_more_le}
use Rattle.loc_rings.specs.Layers.{layer_points, point_count}
use Rattle.loc_parts.proofs.copying.copy_layer.Goals as goal

pub add-requires-clause-few_points : goal.add-requires-clause-few_points
add-requires-clause-few_points c =
    let fs = c.features-feature-items.result.now in
    let k = c.loop-feature.feature-index in
    let f = c.feature-item.result in
    omega (arith, ap layer_points c.loop-feature.invariant, ap point_count c.in_ok-copy_feature.ensures, ap point_count c.feature-item.is, sum_by_more_le point_count fs k f c.loop-feature-test.true, c.features-feature-items.ensures.within.few_points)
