use Rattle.std.proofs.Common.{◌≡◌, ◌∙◌, length, get_or, ap, sym, subst}
use Rattle.std.specs.Prelude.{None, Some}
use Rattle.loc_spec_index.specs.Content.{table_in}
use Rattle.loc_verify.specs.Least.{IsLeastFailing}
use Rattle.loc_verify.proofs.KindLaws.{floor_there, floors_right}
use Rattle.loc_verify.proofs.kinds.judge_floors.Goals as goal

pub least_other_floor-requires-clause-as_many : goal.least_other_floor-requires-clause-as_many
unfolding table_in
least_other_floor-requires-clause-as_many c = ap length c.of_corner.ensures ∙ (c.requires.as_many_corners ∙ (sym c.law.ensures.shaped.floors ∙ ap length (sym c.legend.ensures.floors)))

pub returns-in-None-clause-ok : goal.returns-in-None-clause-ok
returns-in-None-clause-ok c = floors_right c.args.held.now.content c.args.floors.now c.requires c.legend.result.now.floors c.legend.ensures.floors (subst (λ fs. IsLeastFailing (length fs) (λ n. get_or c.legend.result.now.floors n None ≡ get_or fs n None) None) c.of_corner.ensures c.in-None.ensures)

pub returns-in-Some-clause-fault : goal.returns-in-Some-clause-fault
returns-in-Some-clause-fault c = floor_there c.args.held.now.content c.args.floors.now c.requires c.legend.result.now.floors c.legend.ensures.floors c.in-Some.corner (subst (λ fs. IsLeastFailing (length fs) (λ n. get_or c.legend.result.now.floors n None ≡ get_or fs n None) (Some c.in-Some.corner)) c.of_corner.ensures c.in-Some.ensures)
