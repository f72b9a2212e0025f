use Rattle.std.proofs.lemmas.Result.{IfOk-weaker, err_from_is_err_and}
use Rattle.loc_course.specs.Following.{lacks}
use Rattle.loc_maps.specs.{Located.table_in, MapCourses.covers_course}
use Rattle.loc_maps.proofs.Judged.{behind_swept}
use Rattle.loc_maps.proofs.plane.judge_layer.Goals as goal

pub returns-in_err-swept-clause-goes_on : goal.returns-in_err-swept-clause-goes_on
returns-in_err-swept-clause-goes_on g c next m =
    let p = err_from_is_err_and c.from_residual.result c.from_residual.ensures.1 in
    rw (p.1, p.2) (c.in_err-swept.ensures.goes_on (covers_course (table_in c.args.layer.now) next) m)

pub returns-in-Err-clause-goes_on : goal.returns-in-Err-clause-goes_on
returns-in-Err-clause-goes_on g c next m = c.in_ok-swept.ensures.goes_on (covers_course (table_in c.args.layer.now) next) m _ _ lacks

pub returns-in-Ok-clause-goes_on : goal.returns-in-Ok-clause-goes_on
returns-in-Ok-clause-goes_on g c next m =
    behind_swept c.args.layer.now c.args.scale next m c.in_ok-swept.swept c.in_ok-swept.swept.table c.with_legend.result c.in_ok-swept.ensures.table.table (c.in_ok-swept.ensures.goes_on (covers_course (table_in c.args.layer.now) next) m)
    (c.with_legend.ensures.goes_on next m)

pub with_legend-requires-clause-few_features : goal.with_legend-requires-clause-few_features
with_legend-requires-clause-few_features g c = c.in-Ok.ensures.few

pub with_legend-requires-clause-table : goal.with_legend-requires-clause-table
with_legend-requires-clause-table g c = (c.args.layer.now, (c.in-Ok.ensures.value, c.in_ok-swept.ensures.table))

pub with_legend-requires-clause-apart : goal.with_legend-requires-clause-apart
with_legend-requires-clause-apart g c = c.in_ok-swept.ensures.apart

pub with_legend-requires-clause-swept : goal.with_legend-requires-clause-swept
with_legend-requires-clause-swept g c = c.in_ok-swept.ensures.swept

pub with_legend-requires-clause-floors : goal.with_legend-requires-clause-floors
with_legend-requires-clause-floors g c = c.in_ok-swept.ensures.floors

pub returns-in-Ok-clause-map : goal.returns-in-Ok-clause-map
returns-in-Ok-clause-map g c = IfOk-weaker c.with_legend.result _ _ (λ plane of. of c.args.layer.now c.in-Ok.ensures.value c.in_ok-swept.ensures.table) c.with_legend.ensures.map

pub returns-in-Ok-clause-swept : goal.returns-in-Ok-clause-swept
returns-in-Ok-clause-swept g c = c.with_legend.ensures.swept

pub returns-in-Ok-clause-floors : goal.returns-in-Ok-clause-floors
returns-in-Ok-clause-floors g c = c.with_legend.ensures.floors
