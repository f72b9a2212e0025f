use Rattle.std.proofs.lemmas.Result.{IfOk-weaker}
use Rattle.loc_course.specs.Following.{lacks}
use Rattle.loc_maps.specs.{Located.table_in, MapCourses.covers_course}
use Rattle.loc_maps.proofs.Judged.{behind_swept}
use Rattle.loc_maps.proofs.plane.judge_over.Goals as goal

pub returns-in-Err-clause-goes_on : goal.returns-in-Err-clause-goes_on
returns-in-Err-clause-goes_on g c next m = c.in-Err.ensures.goes_on (covers_course (table_in c.args.layer) next) m

pub returns-in-Err-into_ids-clause-goes_on : goal.returns-in-Err-into_ids-clause-goes_on
returns-in-Err-into_ids-clause-goes_on g c next m = c.in-Ok.ensures.goes_on (covers_course (table_in c.args.layer) next) m _ _ lacks

pub returns-in-Ok-into_ids-clause-goes_on : goal.returns-in-Ok-into_ids-clause-goes_on
returns-in-Ok-into_ids-clause-goes_on g c next m =
    behind_swept c.args.layer c.args.scale next m c.in-Ok.swept c.in-Ok.swept.table c.with_legend.result c.in-Ok.ensures.table.table (c.in-Ok.ensures.goes_on (covers_course (table_in c.args.layer) next) m)
    (c.with_legend.ensures.goes_on next m)

pub with_legend-requires-clause-few_features : goal.with_legend-requires-clause-few_features
with_legend-requires-clause-few_features g c = c.in-Ok-into_ids.ensures.few

pub with_legend-requires-clause-table : goal.with_legend-requires-clause-table
with_legend-requires-clause-table g c = (c.args.layer, (c.in-Ok-into_ids.ensures.value, c.in-Ok.ensures.table))

pub with_legend-requires-clause-apart : goal.with_legend-requires-clause-apart
with_legend-requires-clause-apart g c = c.in-Ok.ensures.apart

pub with_legend-requires-clause-swept : goal.with_legend-requires-clause-swept
with_legend-requires-clause-swept g c = c.in-Ok.ensures.swept

pub with_legend-requires-clause-floors : goal.with_legend-requires-clause-floors
with_legend-requires-clause-floors g c = c.in-Ok.ensures.floors

pub returns-in-Ok-into_ids-clause-map : goal.returns-in-Ok-into_ids-clause-map
returns-in-Ok-into_ids-clause-map g c = IfOk-weaker c.with_legend.result _ _ (λ plane of. of c.args.layer c.in-Ok-into_ids.ensures.value c.in-Ok.ensures.table) c.with_legend.ensures.map

pub returns-in-Ok-into_ids-clause-swept : goal.returns-in-Ok-into_ids-clause-swept
returns-in-Ok-into_ids-clause-swept g c = c.with_legend.ensures.swept

pub returns-in-Ok-into_ids-clause-floors : goal.returns-in-Ok-into_ids-clause-floors
returns-in-Ok-into_ids-clause-floors g c = c.with_legend.ensures.floors
