use Rattle.std.proofs.Common.{◌≡◌, map, take}
use Rattle.loc_rings.specs.Values.{Feature}
use Rattle.loc_rings.proofs.layers.Layer.ids.Given as goal

-- the ids of the features before are copied
abbrev pub invariant-loop-feature : goal.invariant-loop-feature
invariant-loop-feature l = map (λ id. id.items) l.ids.items ≡ map (λ (f : Feature). f.id) (take l.feature-index l.feature-items)
