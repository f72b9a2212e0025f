use Rattle.std.proofs.Common.{◌≢◌, [], length, get_or, subst}
use Rattle.std.specs.Prelude.{Some, None}
use Rattle.loc_spec_plane.specs.Tables.{Table}
use Rattle.loc_verify.specs.Least.{IsLeastFailing}
use Rattle.loc_verify.proofs.KindLaws.{bare_there, marks_right}
use Rattle.loc_verify.proofs.kinds.judge_edges.Goals as goal

pub returns-in-None-clause-ok : goal.returns-in-None-clause-ok
returns-in-None-clause-ok c = marks_right c.args.held.now.content _ c.law.ensures (subst (λ (t : Table). IsLeastFailing (length t.ends) (λ e. get_or t.marks e [] ≢ []) None) c.table.ensures c.in-None.ensures)

pub returns-in-Some-clause-fault : goal.returns-in-Some-clause-fault
returns-in-Some-clause-fault c = bare_there c.args.held.now.content _ c.law.ensures c.in-Some.edge (subst (λ (t : Table). IsLeastFailing (length t.ends) (λ e. get_or t.marks e [] ≢ []) (Some c.in-Some.edge)) c.table.ensures c.in-Some.ensures)
