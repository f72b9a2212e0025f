use Rattle.std.proofs.Common.{get_or, take}
use Rattle.std.specs.Prelude.{◌==◌}
use Rattle.loc_spec_plane.specs.Lists.{odd_many}
use Rattle.loc_valid.specs.Hits.{AreLeast}
use Rattle.loc_valid.proofs.least.least_odd.Given as goal

-- they are the two least of the rings before
abbrev pub invariant-loop-ring : goal.invariant-loop-ring
invariant-loop-ring l = AreLeast (λ m. odd_many (λ ring. get_or l.homes ring 0 == m) (take l.ring-index l.list)) l.least
