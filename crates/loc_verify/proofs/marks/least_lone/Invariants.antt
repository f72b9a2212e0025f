use Rattle.std.proofs.Common.{ℕ, ◌<◌, IsTrue}
use Rattle.std.specs.List.{list_any}
use Rattle.loc_spec_plane.specs.Tables.{edge_numbers, ends_at}
use Rattle.loc_verify.proofs.marks.least_lone.Given as goal

abbrev pub invariant-loop-corner : goal.invariant-loop-corner
invariant-loop-corner l = (n : ℕ) → n < l.corner → IsTrue (list_any (ends_at l.table n) (edge_numbers l.table))
