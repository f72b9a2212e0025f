use Rattle.loc_sweep.specs.Course.{IsBefore}
use Rattle.loc_verify.specs.Least.{AreCoversBefore}
use Rattle.loc_verify.proofs.covers.least_by_sweep.Given as goal

abbrev pub invariant-loop-corner : goal.invariant-loop-corner
invariant-loop-corner l = record { before : IsBefore l.table l.corner l.status; right : AreCoversBefore l.table l.legend l.corner }
