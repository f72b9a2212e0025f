use Rattle.std.proofs.lemmas.Result.{err_from_is_err_and}
use Rattle.loc_reach.specs.SpanCourses.{answered_course}
use Rattle.loc_reach.proofs.stabbing.answer_spans.Goals as goal

pub returns-in_err-text : goal.returns-in_err-text
returns-in_err-text g c =
    let o = g.O.Sink.meaning c.args.out.now in
    let k = c.args.steps.now in
    let p = err_from_is_err_and c.from_residual.result c.from_residual.ensures.1 in
    record { follows = rw (p.1, p.2) (c.in_err-text.ensures.goes_on (answered_course c.args.scale c.args.plane.now.table) o k) }

pub returns : goal.returns
returns g c =
    let o = g.O.Sink.meaning c.args.out.now in
    let k = c.args.steps.now in
    record {
      follows = c.in_ok-text.ensures.goes_on (answered_course c.args.scale c.args.plane.now.table) o k _ _
          (rw c.deref.ensures.value at c.write_spans.ensures (g.F.Shelf.meaning c.read_source.new.shelf));
    }
