use Rattle.std.proofs.Common.{◌≡◌, take}
use Rattle.loc_parts.proofs.copying.copy_layer.Given as goal

-- the features so far
abbrev pub invariant-loop-feature : goal.invariant-loop-feature
invariant-loop-feature l = l.copy ≡ take l.feature-index l.feature-items
