use Rattle.std.proofs.Common.{subst}
use Rattle.std.specs.Prelude.{Some}
use Rattle.loc_verify.specs.Least.{IsLeastUneven}
use Rattle.loc_verify.proofs.KindLaws.{uneven_there}
use Rattle.loc_verify.proofs.kinds.judge_marks.Goals as goal

pub returns-in-Some-clause-fault : goal.returns-in-Some-clause-fault
returns-in-Some-clause-fault c = uneven_there c.args.held.now.content c.in-Some.corner c.in-Some.feature (subst (λ t. IsLeastUneven t (Some (c.in-Some.corner, c.in-Some.feature))) c.table.ensures (subst (IsLeastUneven c.table.result.now) c.in-Some.is c.in_ok-least_uneven.ensures))
