use Rattle.std.proofs.Common.{take}
use Rattle.loc_valid.specs.Hits.{AreHomes}
use Rattle.loc_valid.proofs.homes.homes_of.Given as goal

-- the rings of the polygons before have theirs
abbrev pub invariant-loop-n : goal.invariant-loop-n
invariant-loop-n l = AreHomes (take l.n l.rings) l.homes.items
