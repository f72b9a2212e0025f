use Rattle.std.proofs.lemmas.Result.{err_from_is_err_and}
use Rattle.loc_spec_text.specs.Bytes.{Text}
use Rattle.loc_csvform.specs.Layer.{layer_of}
use Rattle.loc_course.specs.{Courses.Course, Following.moment}
use Rattle.loc_course.proofs.Going.{goes_further}
use Rattle.loc_maps.specs.MapCourses.{read_in}
use Rattle.loc_maps.proofs.maps.read_features_file.Goals as goal

pub returns-in_err-text : goal.returns-in_err-text
returns-in_err-text g c next o k = let p = err_from_is_err_and c.from_residual.result c.from_residual.ensures.1 in rw (p.1, p.2) (c.in_err-text.ensures.goes_on _ o k)

pub returns : goal.returns
returns g c next o k =
    let mid = moment (g.F.Shelf.meaning c.read_source.new.shelf) o k in
    let behind : Text → Course = λ text. read_in c.args.form (layer_of c.args.form c.args.scale text) next in
    goes_further _ _ mid mid (λ v. behind v.items) c.in_ok-text.text (λ l. next l) c.read_text.result (c.in_ok-text.ensures.goes_on behind o k) (rw c.deref.ensures.value at (c.read_text.ensures next mid))
