use Rattle.std.proofs.Common.{refl}
use Rattle.loc_reach.proofs.Written.{failed, same_course, written}
use Rattle.loc_reach.proofs.stabbing.write_spans.Goals as goal

pub returns-in-Ok : goal.returns-in-Ok
returns-in-Ok g c = λ shelf. same_course c.args.scale c.views-views.ensures refl
    (written c.args.scale c.views-views.result c.args.text.now shelf _ _ _ _ c.write_answers.ensures.counted c.write_answers.ensures.within c.write_answers.result _ c.in-Ok.is c.write_answers.ensures.written)

pub returns-in-Err : goal.returns-in-Err
returns-in-Err g c = λ shelf. same_course c.args.scale c.views-views.ensures refl
    (failed c.args.scale c.views-views.result c.args.text.now shelf _ _ _ _ c.write_answers.ensures.counted c.write_answers.ensures.within c.write_answers.result _ c.in-Err.is c.write_answers.ensures.written)
