use Rattle.std.proofs.Common.{◌≡◌, get_or, map, take}
use Rattle.loc_dissolve.proofs.rows.put_groups.Given as goal

-- the groups of the features before stand there
abbrev pub invariant-loop-feature : goal.invariant-loop-feature
invariant-loop-feature l = l.row.items ≡ map (λ f. get_or l.groups f 0) (take l.feature-index l.features)
