use Rattle.std.proofs.Common.{◌≡◌}
use Rattle.std.specs.{Prelude.None, Prelude.nat_lt, List.last_or, Int.w32}
use Rattle.loc_spec_plane.specs.Lists.{is_rising}
use Rattle.loc_spec_index.specs.IndexFile.{number}
use Rattle.loc_file.specs.Readings.{AreRows, alone, one}
use Rattle.loc_file.proofs.covers.read_numbers.Given as goal

abbrev pub invariant-loop-row : goal.invariant-loop-row
invariant-loop-row l = record {
  rows : AreRows (alone (one (number w32 l.bound))) l._row l.numbers.items l.initial.cursor l.cursor;
  last_is : last_or None l.numbers.items ≡ l.last;
  rising : l.rises ≡ is_rising nat_lt l.numbers.items;
}
