use Rattle.std.proofs.{Common.List, lemmas.Result.err_from_is_err_and}
use Rattle.loc_rings.specs.Values.{Feature}
use Rattle.loc_course.specs.Following.{moment}
use Rattle.loc_maps.specs.{Located.edges_of, Located.table_in, MapCourses.apart_course}
use Rattle.loc_reach.specs.SpanCourses.{spans_course}
use Rattle.loc_reach.proofs.Written.{same_spans}
use Rattle.loc_reach.proofs.stabbing.stab.Goals as goal

pub returns-in_err-plane : goal.returns-in_err-plane
returns-in_err-plane g c =
    let o = g.O.Sink.meaning c.args.out.now in
    let k = c.args.steps.now in
    let layer = c.in_ok-layer.layer in
    let p = err_from_is_err_and c.from_residual-in_err-plane.result c.from_residual-in_err-plane.ensures.1 in
    rw (p.1, p.2) (c.in_ok-layer.ensures (λ (l : List Feature). apart_course c.args.scale (edges_of l) (spans_course c.args.scale (table_in l) c.args.spans.now)) o k _ _
    (c.in_err-plane.ensures.goes_on (spans_course c.args.scale (table_in layer) c.args.spans.now) (moment (g.F.Shelf.meaning c.read_layer_file.new.shelf) o k)))

pub returns : goal.returns
returns g c =
    let o = g.O.Sink.meaning c.args.out.now in
    let k = c.args.steps.now in
    let layer = c.in_ok-layer.layer in
    c.in_ok-layer.ensures (λ (l : List Feature). apart_course c.args.scale (edges_of l) (spans_course c.args.scale (table_in l) c.args.spans.now)) o k _ _
    (c.in_ok-plane.ensures.goes_on (spans_course c.args.scale (table_in layer) c.args.spans.now) (moment (g.F.Shelf.meaning c.read_layer_file.new.shelf) o k) _ _
    (same_spans c.args.scale c.args.spans.now c.in_ok-plane.ensures.table.table c.answer_spans-outcome.ensures.follows))
