use Rattle.std.proofs.Common.{◌≡◌, map, get_or}
use Rattle.loc_spec_plane.specs.Lists.{numbers}
use Rattle.loc_edges.proofs.ranges.by_upper_end.Given as goal

-- the edges before stand there
abbrev pub invariant-loop-n : goal.invariant-loop-n
invariant-loop-n l = l.keyed.items ≡ map (λ e. ((get_or l.ends e (0, 0)).1, e)) (numbers l.n)
