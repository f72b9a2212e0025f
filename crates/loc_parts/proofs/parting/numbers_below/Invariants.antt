use Rattle.std.proofs.Common.{◌≡◌, map}
use Rattle.loc_spec_plane.specs.Lists.{numbers}
use Rattle.loc_parts.proofs.parting.numbers_below.Given as goal

-- the first numbers
abbrev pub invariant-loop-n : goal.invariant-loop-n
invariant-loop-n l = l.made.items ≡ map (λ n. n) (numbers l.n)
