use Rattle.loc_spec_text.specs.Points.{ended}
use Rattle.loc_batch.specs.PointLines.{is_point_line}
use Rattle.loc_course.specs.{Moments.moment, Stops.end_of, Stops.source}
use Rattle.loc_answering.proofs.Places.{places_source}
use Rattle.loc_answering.proofs.answer_source.Goals as goal

pub returns : goal.returns
returns g c =
    places_source c.args.batch.now.scale (g.I.Locator.finds c.args.index.now c.args.table.now) (g.N.FaceNumbers.shown c.args.faces.now) c.args.legend.now
    (source c.args.name.now c.args.batch.now.limit (ended c.args.too_long.now)) (is_point_line c.args.batch.now.scale) (g.I.Locator.most c.args.index.now c.args.table.now)
    (moment (g.F.Shelf.meaning c.args.shelf.now) (g.O.Sink.meaning c.args.out.now) c.args.steps.now) (moment (g.F.Shelf.meaning c.answer_lines.new.shelf) (g.O.Sink.meaning c.answer_lines.new.out) c.answer_lines.new.steps) (end_of c.answer_lines.result) c.answer_lines.ensures
