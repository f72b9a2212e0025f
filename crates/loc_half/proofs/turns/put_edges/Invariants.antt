use Rattle.std.proofs.Common.{◌≡◌, ◌-◌, ◌≤◌}
use Rattle.std.specs.List.{range_with_len}
use Rattle.loc_half.proofs.turns.put_edges.Given as goal

-- the edges before are listed
abbrev pub invariant-loop-edge : goal.invariant-loop-edge
invariant-loop-edge l = record {
  from : l.first ≤ l.edge;
  listed : l.row.items ≡ range_with_len l.first (l.edge - l.first);
}
