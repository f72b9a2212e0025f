use Rattle.std.proofs.Common.{◌∷◌, []}
use Rattle.std.proofs.lemmas.List.{map_more, map-append}
use Rattle.loc_rings.specs.Values.{Feature}
use Rattle.loc_rings.proofs.layers.Layer.ids.Goals as goal

pub loop-feature-preserved : goal.loop-feature-preserved
loop-feature-preserved c = cc (map_more (λ (f : Feature). f.id) c.features-feature-items.result.now c.loop-feature.feature-index c.feature-item.result c.loop-feature-test.true, c.feature-item.is, map-append (λ id. id.items) c.loop-feature.ids.items (c.in_ok-from_slice.field-0 ∷ []), c.id.ensures.value, c.in_ok-from_slice.ensures.items, c.in_ok-push.ensures.items, c.loop-feature.invariant)
