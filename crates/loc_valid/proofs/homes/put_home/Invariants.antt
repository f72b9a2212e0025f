use Rattle.std.proofs.Common.{◌≡◌, ◌++◌, map}
use Rattle.loc_spec_plane.specs.Lists.{numbers}
use Rattle.loc_valid.proofs.homes.put_home.Given as goal

-- it stands there once for each ring before
abbrev pub invariant-loop-ring : goal.invariant-loop-ring
invariant-loop-ring l = l.homes.items ≡ l.initial.homes.items ++ map (λ _. l.polygon) (numbers l._ring)
