use Rattle.std.proofs.Common.{map}
use Rattle.loc_spec_index.specs.IndexFile.{id_fields}
use Rattle.loc_file.specs.Readings.{AreRows, alone}
use Rattle.loc_file.proofs.ids.read_ids.Given as goal

abbrev pub invariant-loop-row : goal.invariant-loop-row
invariant-loop-row l = AreRows (alone (id_fields)) l._row (map (λ id. id.items) l.ids.items) l.initial.cursor l.cursor
