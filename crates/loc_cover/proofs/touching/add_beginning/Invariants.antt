use Rattle.std.proofs.Common.{◌-◌, ◌≤◌}
use Rattle.std.specs.List.{range_with_len}
use Rattle.loc_cover.proofs.Gathered.{Gathers}
use Rattle.loc_cover.proofs.touching.add_beginning.Given as goal

-- the edges before are gathered
abbrev pub invariant-loop-edge : goal.invariant-loop-edge
invariant-loop-edge l = record {
  from : l.first ≤ l.edge;
  gathered : Gathers l.table l.fn.row.items l.row.items (range_with_len l.first (l.edge - l.first));
}
