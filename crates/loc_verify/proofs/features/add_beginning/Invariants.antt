use Rattle.std.proofs.Common.{◌-◌, ◌≤◌}
use Rattle.std.specs.List.{range_with_len}
use Rattle.loc_verify.proofs.Odd.{GathersOdd}
use Rattle.loc_verify.proofs.features.add_beginning.Given as goal

abbrev pub invariant-loop-edge : goal.invariant-loop-edge
invariant-loop-edge l = record {
  from : l.first ≤ l.edge;
  gathered : GathersOdd l.table l.fn.row.items l.row.items (range_with_len l.first (l.edge - l.first));
}
