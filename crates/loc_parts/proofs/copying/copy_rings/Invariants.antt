use Rattle.std.proofs.Common.{◌≡◌, take}
use Rattle.loc_parts.proofs.copying.copy_rings.Given as goal

-- the polygons so far
abbrev pub invariant-loop-n : goal.invariant-loop-n
invariant-loop-n l = l.copy ≡ take l.n l.rings
