use Rattle.std.proofs.Common.{◌≡◌, ◌-◌, ◌<◌, true, length}
use Rattle.loc_laws_traps.specs.Sets.{begins_in}
use Rattle.loc_traps.specs.Meaning.{row_of}
use Rattle.loc_trapdag.proofs.index.TrapIndex.seek.Given as goal

-- the edge begins in the trapezoid
abbrev pub invariant-down : goal.invariant-down
invariant-down l = record { real : l.n < length l.self.map.rows; begins : begins_in l.ranks l.edge (row_of l.self.map.rows l.n) ≡ true }

-- pieces have greater numbers
abbrev pub decreases-down : goal.decreases-down
decreases-down l = length l.self.map.rows - l.n
