use Rattle.std.proofs.Common.{ℕ, Ok, Option, subst}
use Rattle.std.specs.Prelude.{codes}
use Rattle.loc_spec_text.specs.{Points.ended, Limits.most_text}
use Rattle.loc_batch.specs.{Answering.answer_by, PointLines.is_point_line}
use Rattle.loc_answering.specs.ByLine.{by_line}
use Rattle.loc_course.specs.{Courses.answers, Following.Follows, Following.moment, Stops.end_of, Stops.source}
use Rattle.loc_place.specs.Found.{place_at}
use Rattle.loc_query.specs.{Chosen.index_of, QueryCourses.steps_by}
use Rattle.loc_faces.proofs.Computed.{shown_same}
use Rattle.loc_course.proofs.Going.{lacks_end}
use Rattle.loc_query.proofs.answering.answer_with_faces.Goals as goal

pub returns-in_err-half : goal.returns-in_err-half
returns-in_err-half g c = lacks_end c.from_residual.result c.from_residual.ensures.1

pub returns-in_err-faces : goal.returns-in_err-faces
returns-in_err-faces g c = lacks_end c.from_residual-in_err-faces.result c.from_residual-in_err-faces.ensures.1

pub returns : goal.returns
returns g c =
    let shown = shown_same c.args.plane.now.table (record { in_order = c.law.ensures.in_order; apart = c.requires.apart }) c.in_ok-faces.faces (record { half = c.in_ok-half.half; halves = c.in_ok-half.ensures; faces = c.in_ok-faces.ensures }) in
    subst (λ (numbers : Option ℕ → Option ℕ). Follows (answers (source c.args.points.now most_text (ended (codes "points: too long"))) (is_point_line c.args.scale) (steps_by (index_of c.args.plane.now.status) c.args.plane.now.table) (by_line (answer_by c.args.scale (λ p. Ok (place_at c.args.plane.now.table p)) numbers c.args.plane.now.legend)))
    (moment (g.F.Shelf.meaning c.args.shelf.now) (g.O.Sink.meaning c.args.out.now) c.args.steps.now) (moment (g.F.Shelf.meaning c.answer_points.new.shelf) (g.O.Sink.meaning c.answer_points.new.out) c.answer_points.new.steps) (end_of c.answer_points.result))
    shown c.answer_points.ensures
