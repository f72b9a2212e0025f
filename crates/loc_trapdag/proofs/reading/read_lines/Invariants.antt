use Rattle.std.proofs.Common.{◌+◌, ◌≤◌, length}
use Rattle.loc_spec_text.specs.Limits.{most_text}
use Rattle.loc_trapdag.specs.Orders.{rows_from}
use Rattle.loc_trapdag.proofs.Readings.{IsRead}
use Rattle.loc_trapdag.proofs.reading.read_lines.Given as goal

-- the rows so far are read
abbrev pub invariant-loop-line : goal.invariant-loop-line
invariant-loop-line l = record {
  read : IsRead l.edges (rows_from 1 l.text) (rows_from (l.number + 1) l.rest) l.line_of l.order.items;
  lines : l.number + length l.rest ≤ length l.text;
  small : length l.text ≤ most_text;
}

abbrev pub decreases-loop-line : goal.decreases-loop-line
decreases-loop-line l = length l.rest
