use Rattle.loc_spec_index.specs.IndexFile.{node_fields}
use Rattle.loc_file.specs.Readings.{AreRows, alone}
use Rattle.loc_file.proofs.nodes.read_nodes.Given as goal

abbrev pub invariant-loop-row : goal.invariant-loop-row
invariant-loop-row l = AreRows (alone (node_fields l.edges l.corners l.count)) l._row (l.nodes.items) l.initial.cursor l.cursor
