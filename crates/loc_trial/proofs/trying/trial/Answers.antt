use Rattle.std.proofs.Common.{ap, arith, length, subst, List}
use Rattle.loc_rings.specs.Values.{Feature}
use Rattle.loc_course.specs.{Following.Follows, Following.moment, Stops.end_of}
use Rattle.loc_maps.specs.MapCourses.{accepted_course, pieces_course}
use Rattle.loc_trial.specs.TrialCourses.{tried_course}
use Rattle.loc_trial.proofs.LayerTexts.{few_generated}
use Rattle.loc_trial.proofs.trying.trial.Goals as goal

pub try_layer-requires-clause-features : goal.try_layer-requires-clause-features
try_layer-requires-clause-features g c = omega (arith, ap length c.in_ok-layer.ensures.layer, few_generated c.args.kind c.args.n c.args.shift c.in_ok-layer.ensures.within)

pub returns : goal.returns
returns g c shelf =
    let old = moment shelf (g.O.Sink.meaning c.args.out.now) c.args.steps.now in
    let new = moment shelf (g.O.Sink.meaning c.try_layer.new.out) c.try_layer.new.steps in
    let end = end_of c.try_layer.result in
    c.in_ok-layer.ensures.goes_on _ old new end
    (subst (λ (layer : List Feature). Follows (pieces_course layer (accepted_course 0 layer (tried_course c.args.index c.args.kind c.args.n c.args.shift layer))) old new end) c.in_ok-layer.ensures.layer (c.try_layer.ensures shelf))
