use Rattle.std.proofs.Common.{◌-◌, ◌+◌, ◌≤◌, length}
use Rattle.loc_spans.proofs.Seen.{IsSeen}
use Rattle.loc_spans.proofs.parities.row_parity.Given as goal

abbrev pub invariant-loop-at : goal.invariant-loop-at
invariant-loop-at g l = record {
  within : l.from ≤ length l.rows;
  seen : IsSeen l.rows l.p l.from l.odd;
  up : l.fn.steps ≤ l.steps;
  few : l.steps ≤ l.fn.steps + l.from;
}

abbrev pub decreases-loop-at : goal.decreases-loop-at
decreases-loop-at g l = length l.rows - l.from
