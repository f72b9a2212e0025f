use Rattle.std.proofs.Common.{length, subst}
use Rattle.std.specs.{Prelude.IsTrue, Prelude.Some, List.list_any}
use Rattle.loc_spec_plane.specs.Tables.{Table, edge_numbers, ends_at}
use Rattle.loc_verify.specs.Least.{IsLeastFailing}
use Rattle.loc_verify.proofs.KindLaws.{lone_there}
use Rattle.loc_verify.proofs.kinds.judge_corners.Goals as goal

pub returns-in-Some-clause-fault : goal.returns-in-Some-clause-fault
returns-in-Some-clause-fault c = lone_there c.args.held.now.content c.in-Some.corner (subst (λ (t : Table). IsLeastFailing (length t.corners) (λ n. IsTrue (list_any (ends_at t n) (edge_numbers t))) (Some c.in-Some.corner)) c.table.ensures c.in-Some.ensures)
