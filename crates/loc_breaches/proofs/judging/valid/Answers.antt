use Rattle.std.proofs.Common.{◌≡◌, true, sym, subst}
use Rattle.std.proofs.lemmas.Result.{err_from_is_err_and}
use Rattle.loc_spec_text.specs.Bytes.{Text}
use Rattle.loc_course.specs.Following.{moment}
use Rattle.loc_breaches.specs.BreachCourses.{are_lines, judged_course}
use Rattle.loc_breaches.proofs.LineLists.{lines_pass}
use Rattle.loc_breaches.proofs.judging.valid.Goals as goal

pub returns-in_err-layer : goal.returns-in_err-layer
returns-in_err-layer g c k =
    let p = err_from_is_err_and c.from_residual.result c.from_residual.ensures.1 in
    rw (p.1, p.2) (c.in_err-layer.ensures (judged_course c.args.scale) (g.O.Sink.meaning c.args.out.now) k)

pub returns-in_err-text : goal.returns-in_err-text
returns-in_err-text g c k =
    let o = g.O.Sink.meaning c.args.out.now in
    let p = err_from_is_err_and c.from_residual-in_err-text.result c.from_residual-in_err-text.ensures.1 in
    rw (p.1, p.2) (c.in_ok-layer.ensures (judged_course c.args.scale) o k _ _ (c.in_err-text.ensures.goes_on (moment (g.F.Shelf.meaning c.read_features_file.new.shelf) o k)))

pub returns : goal.returns
returns g c k =
    let o = g.O.Sink.meaning c.args.out.now in
    let shelf = g.F.Shelf.meaning c.read_features_file.new.shelf in
    let passes = subst (λ (text : Text). are_lines c.args.scale c.in_ok-layer.layer text ≡ true) (sym c.deref.ensures.value) (lines_pass c.args.scale c.in_ok-layer.layer c.in_ok-text.text.items c.in_ok-text.ensures.lines) in
    c.in_ok-layer.ensures (judged_course c.args.scale) o k _ _
    (c.in_ok-text.ensures.goes_on (moment shelf o k) _ _ (c.write_out.ensures (are_lines c.args.scale c.in_ok-layer.layer) passes shelf k))
