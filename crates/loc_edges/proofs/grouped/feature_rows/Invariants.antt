use Rattle.std.proofs.Common.{◌<◌, ◌≤◌, length, take}
use Rattle.loc_edges.proofs.EdgeRows.{IsGrouped}
use Rattle.loc_edges.proofs.grouped.feature_rows.Given as goal

-- the segments before have their rows
abbrev pub invariant-loop-n : goal.invariant-loop-n
invariant-loop-n l = record {
  grouped : IsGrouped (take l.n l.tagged) l.rows;
  few : length l.rows ≤ l.n;
  some : 0 < l.n → 0 < length l.rows;
}
