use Rattle.std.proofs.Common.{◌≡◌, ℕ, ◌++◌, map, take}
use Rattle.loc_half.specs.HalfEdgeLists.{next_in}
use Rattle.loc_spec_groups.specs.Groups.{ring_from}
use Rattle.loc_dissolve.proofs.polygons.put_rings.Given as goal

-- the rings of the cycles before stand behind
abbrev pub invariant-loop-leader : goal.invariant-loop-leader
invariant-loop-leader l = (face : ℕ → ℕ) → l.rings.items ≡ l.fn.rings.items ++ map (ring_from l.table (next_in l.half) face) (take l.leader-index l.leaders)
