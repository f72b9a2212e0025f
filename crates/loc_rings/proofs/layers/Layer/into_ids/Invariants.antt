use Rattle.std.proofs.Common.{◌≡◌, map}
use Rattle.loc_rings.specs.Values.{Feature}
use Rattle.loc_rings.proofs.layers.Layer.into_ids.Given as goal

-- the ids of the features that came so far
abbrev pub invariant-loop-feature : goal.invariant-loop-feature
invariant-loop-feature l = map (λ id. id.items) l.ids.items ≡ map (λ (f : Feature). f.id) l.yielded
