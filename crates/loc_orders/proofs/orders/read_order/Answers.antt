use Rattle.std.proofs.lemmas.Result.{err_from_is_err_and}
use Rattle.loc_spec_text.specs.Bytes.{Text}
use Rattle.loc_course.specs.{Courses.Course, Following.moment}
use Rattle.loc_course.proofs.Going.{goes_further}
use Rattle.loc_trapdag.specs.Orders.{order_of}
use Rattle.loc_orders.specs.OrderCourses.{order_in}
use Rattle.loc_orders.proofs.orders.read_order.Goals as goal

pub returns-in_err-text-clause-goes_on : goal.returns-in_err-text-clause-goes_on
returns-in_err-text-clause-goes_on g c next o k = let p = err_from_is_err_and c.from_residual.result c.from_residual.ensures.1 in rw (p.1, p.2) (c.in_err-text.ensures.goes_on _ o k)

pub returns-clause-goes_on : goal.returns-clause-goes_on
returns-clause-goes_on g c next o k =
    let mid = moment (g.F.Shelf.meaning c.read_source.new.shelf) o k in
    let behind : Text → Course = λ text. order_in (order_of c.args.edges text) next in
    goes_further _ _ mid mid (λ v. behind v.items) c.in_ok-text.text next c.read_order_in.result (c.in_ok-text.ensures.goes_on behind o k) (rw c.deref.ensures.value at (c.read_order_in.ensures.goes_on next mid))
