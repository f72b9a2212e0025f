use Rattle.std.proofs.Common.{◌≡◌, filter, take}
use Rattle.loc_spec_plane.specs.Lists.{is_in}
use Rattle.loc_dissolve.proofs.crossing.put_listed.Given as goal

-- those of the features before that are in the list stand there
abbrev pub invariant-loop-feature : goal.invariant-loop-feature
invariant-loop-feature l = l.row.items ≡ filter (λ f. is_in f l.list) (take l.feature-index l.features)
