-- How far reading an order comes along a course.
use Rattle.std.proofs.Common.{◌≡◌, ℕ, Bool, List, Some, Result, Ok, Err, refl, sym, subst}
use Rattle.loc_spec_text.specs.{Bytes.Text, Points.ended}
use Rattle.loc_course.specs.Courses.{Source, Course, reads, refuses, refused}
use Rattle.loc_course.specs.Following.{Moment, Follows, lacks, refuses_by}
use Rattle.loc_course.specs.Outcomes.{exactly}
use Rattle.loc_course.proofs.Told.{exactly_it}
use Rattle.loc_trapdag.specs.{Orders.IsFaultOf, Orders.order_of, declared.order.OrderFault.OrderFault}
use Rattle.loc_trapdag.specs.declared.order.OrderFault.TheVariants.{NotNumber, OutOfRange, Twice, Missing, NoMemory}
use Rattle.loc_spec_asked.specs.Orders.{AskedOrder, in_file, shuffled_from}
use Rattle.loc_orders.specs.declared.given.GivenOrder.{GivenOrder}
use Rattle.loc_orders.specs.declared.given.GivenOrder.TheVariants.{Read, Shuffled}
use Rattle.loc_orders.specs.OrderCourses.{asked_course, order_in}
use Rattle.loc_orders.specs.OrderTexts.{order_fault_text, order_stop}

-- the line of a fault, by which an order is refused
by_line : (read : Result (List ℕ) OrderFault) (fault : OrderFault) (next : List ℕ → Course) (m : Moment) → read ≡ Err fault → Follows (order_in read next) m m (Some (refused (ended (order_fault_text fault))))
by_line read fault next m is =
    let line = ended (order_fault_text fault) in
    subst (λ (r : Result (List ℕ) OrderFault). Follows (order_in r next) m m (Some (refused line))) (sym is) (refuses_by line (exactly_it line line refl))

pub refuses_order : (read : Result (List ℕ) OrderFault) (fault : OrderFault) (next : List ℕ → Course) (m : Moment) → IsFaultOf read fault → Follows (order_in read next) m m (Some (order_stop fault))
refuses_order read NoMemory next m is = lacks
refuses_order read (NotNumber line) next m is = by_line read (NotNumber line) next m is
refuses_order read (OutOfRange line) next m is = by_line read (OutOfRange line) next m is
refuses_order read (Twice line earlier) next m is = by_line read (Twice line earlier) next m is
refuses_order read (Missing edge) next m is = by_line read (Missing edge) next m is

-- what holds of refusals and behind an order holds of the course that reads it
pub order_all : (P : Course → Type 0) → ((passes : Text → Bool) → P (refuses passes)) → (read : Result (List ℕ) OrderFault) (next : List ℕ → Course) → ((order : List ℕ) → P (next order)) → P (order_in read next)
order_all P refused_so (Ok order) next behind = behind order
order_all P refused_so (Err fault) next behind = refused_so (exactly (ended (order_fault_text fault)))

-- and where that holds behind a file that is read, of the course that reads the order's file where it is asked for
pub asked_all : (P : Course → Type 0) → ((passes : Text → Bool) → P (refuses passes)) → ((s : Source) (next : Text → Course) → ((text : Text) → P (next text)) → P (reads s next))
    → (order : AskedOrder) (edges : ℕ) (next : GivenOrder → Course) → ((given : GivenOrder) → P (next given)) → P (asked_course order edges next)
asked_all P refused_so reads_so (in_file name) edges next behind = reads_so _ _ (λ text. order_all P refused_so (order_of edges text) (λ order. next (Read order)) (λ order. behind (Read order)))
asked_all P refused_so reads_so (shuffled_from number) edges next behind = behind (Shuffled number)
