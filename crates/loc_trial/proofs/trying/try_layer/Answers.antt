use Rattle.std.proofs.{Common.Some, Common.subst, lemmas.Result.err_from_is_err_and}
use Rattle.std.specs.Prelude.{ℕ}
use Rattle.loc_spec_asked.specs.declared.Index.{Index}
use Rattle.loc_course.specs.{Following.Follows, Following.moment, Stops.end_of, Stops.stopped}
use Rattle.loc_maps.specs.MapCourses.{accepted_course, pieces_course}
use Rattle.loc_query.specs.Chosen.{index_of, nodes_of}
use Rattle.loc_trial.specs.TrialCourses.{tried_course}
use Rattle.loc_trial.proofs.Tried.{always, follows_trial, line_passes}
use Rattle.loc_trial.proofs.trying.try_layer.Goals as goal

pub try_points-written-requires-clause-always : goal.try_points-written-requires-clause-always
try_points-written-requires-clause-always g c = always c.args.layer _ _ c.law.ensures c.in_ok-plane.ensures.map

pub returns-in_err-plane : goal.returns-in_err-plane
returns-in_err-plane g c shelf =
    let at = moment shelf (g.O.Sink.meaning c.args.out.now) c.args.steps.now in
    let tried = tried_course c.args.index c.args.kind c.args.n c.args.shift c.args.layer in
    let p = err_from_is_err_and c.from_residual.result c.from_residual.ensures.1 in
    rw (p.1, p.2) (subst (λ (scale : ℕ). Follows (pieces_course c.args.layer (accepted_course scale c.args.layer tried)) at at (Some (stopped c.in_err-plane.field-0.0))) c.new.ensures (c.in_err-plane.ensures.goes_on tried at))

pub returns : goal.returns
returns g c shelf =
    let old = moment shelf (g.O.Sink.meaning c.args.out.now) c.args.steps.now in
    let new = moment shelf (g.O.Sink.meaning c.try_points-written.new.out) c.try_points-written.new.steps in
    let end = end_of c.try_points-written.result in
    let chosen = c.in_ok-plane.plane.status in
    let layer = c.args.layer in
    let tried = tried_course (index_of chosen) c.args.kind c.args.n c.args.shift layer in
    let passes = line_passes layer c.args.kind c.args.n c.args.shift c.in_ok-plane.plane.table chosen c.in_ok-plane.ensures.map.table c.in_ok-plane.ensures.few in
    subst (λ (index : Index). Follows (pieces_course layer (accepted_course 0 layer (tried_course index c.args.kind c.args.n c.args.shift layer))) old new end) c.in_ok-plane.ensures.asked
    (subst (λ (scale : ℕ). Follows (pieces_course layer (accepted_course scale layer tried)) old new end) c.new.ensures
    (c.in_ok-plane.ensures.goes_on tried old new end
    (follows_trial layer _ _ c.law.ensures c.in_ok-plane.ensures.map c.args.n c.args.shift c.requires.size (index_of chosen) c.args.kind (nodes_of chosen) old new end c.requires.features passes (rw c.nodes-nodes.ensures at c.try_points-written.ensures shelf))))
