use Rattle.loc_spec_index.specs.IndexFile.{floor_field}
use Rattle.loc_file.specs.Readings.{AreRows, alone, one}
use Rattle.loc_file.proofs.floors.read_floors.Given as goal

abbrev pub invariant-loop-row : goal.invariant-loop-row
invariant-loop-row l = AreRows (alone (one (floor_field l.edges))) l._row (l.floors.items) l.initial.cursor l.cursor
