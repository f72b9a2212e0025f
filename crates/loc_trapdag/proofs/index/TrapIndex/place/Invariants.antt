use Rattle.std.proofs.Common.{◌≡◌, ◌-◌, ◌+◌, ◌*◌, ◌<◌, ◌≤◌, true, length}
use Rattle.loc_laws_traps.specs.Sets.{is_inside}
use Rattle.loc_traps.specs.Meaning.{row_of}
use Rattle.loc_trapdag.specs.Graphs.{IsIndexOf}
use Rattle.loc_trapdag.proofs.index.TrapIndex.place.Given as goal

-- the point is in the trapezoid, after at most three steps for each edge that was added before it was made
abbrev pub invariant-down : goal.invariant-down
invariant-down g l = record {
  real : l.n < length l.self.map.rows;
  inside : is_inside l.views (row_of l.self.map.rows l.n) l.p ≡ true;
  counted : l.fn.steps ≤ l.steps;
  few : (stands : IsIndexOf l.views l.self) → l.steps ≤ l.fn.steps + 3 * stands.graph.birth l.n;
}

-- pieces have greater numbers
abbrev pub decreases-down : goal.decreases-down
decreases-down g l = length l.self.map.rows - l.n
