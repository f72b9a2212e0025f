use Rattle.std.proofs.lemmas.Result.{err_from_is_err_and}
use Rattle.loc_features.specs.FeatureCourses.{features_points}
use Rattle.loc_features.proofs.asking.features.Goals as goal

pub returns-in_err-layer : goal.returns-in_err-layer
returns-in_err-layer g c =
    let p = err_from_is_err_and c.from_residual.result c.from_residual.ensures.1 in
    rw (p.1, p.2) (c.in_err-layer.ensures (features_points c.args.scale c.args.points_name.now) (g.O.Sink.meaning c.args.out.now) c.args.steps.now)

pub returns : goal.returns
returns g c = c.in_ok-layer.ensures (features_points c.args.scale c.args.points_name.now) (g.O.Sink.meaning c.args.out.now) c.args.steps.now _ _ c.answer_points.ensures
