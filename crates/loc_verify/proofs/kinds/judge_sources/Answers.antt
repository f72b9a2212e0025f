use Rattle.std.proofs.Common.{length, subst}
use Rattle.std.specs.Prelude.{IsTrue, Some, None}
use Rattle.loc_spec_plane.specs.Tables.{Table, is_on_source}
use Rattle.loc_verify.specs.Least.{IsLeastFailing}
use Rattle.loc_verify.proofs.KindLaws.{source_there, sources_right}
use Rattle.loc_verify.proofs.kinds.judge_sources.Goals as goal

pub returns-in-None-clause-ok : goal.returns-in-None-clause-ok
returns-in-None-clause-ok c = sources_right c.args.held.now.content _ c.law.ensures (subst (λ (t : Table). IsLeastFailing (length t.ends) (λ e. IsTrue (is_on_source t e)) None) c.table.ensures c.in-None.ensures)

pub returns-in-Some-clause-fault : goal.returns-in-Some-clause-fault
returns-in-Some-clause-fault c = source_there c.args.held.now.content _ c.law.ensures c.in-Some.edge (subst (λ (t : Table). IsLeastFailing (length t.ends) (λ e. IsTrue (is_on_source t e)) (Some c.in-Some.edge)) c.table.ensures c.in-Some.ensures)
