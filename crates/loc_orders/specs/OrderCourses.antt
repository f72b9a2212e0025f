-- The course that reads the order of edges that is asked for. The words: `IsGivenOrder`, `order_given`, `order_in`, `order_course`, `asked_course`.
use Rattle.std.specs.Prelude.{ℕ, List, Result, Ok, Err, ⊤, codes}
use Rattle.loc_spec_text.specs.{Bytes.Text, Points.ended, Limits.most_text}
use Rattle.loc_course.specs.{Courses.Course, Courses.refuses, Courses.reads, Outcomes.exactly, Stops.source}
use Rattle.loc_spec_asked.specs.Orders.{AskedOrder, in_file, shuffled_from}
use Rattle.loc_trapdag.specs.Orders.{IsOrder, order_of, shuffled_order}
use Rattle.loc_trapdag.specs.declared.order.OrderFault.{OrderFault}
use Rattle.loc_orders.specs.declared.given.GivenOrder.{GivenOrder}
use Rattle.loc_orders.specs.declared.given.GivenOrder.TheVariants.{Read, Shuffled}
use Rattle.loc_orders.specs.OrderTexts.{order_fault_text}

-- what was read is an order of so many edges
abbrev pub IsGivenOrder : ℕ → GivenOrder → Type 0
IsGivenOrder edges (Read order) = IsOrder edges order
IsGivenOrder edges (Shuffled number) = ⊤

-- the order that was given: the one that was read, or one that is shuffled from a number
abbrev pub order_given : ℕ → GivenOrder → List ℕ
order_given edges (Read order) = order
order_given edges (Shuffled number) = shuffled_order number edges

-- a text is read as an order, or refused by the line of its fault
abbrev pub order_in : Result (List ℕ) OrderFault → (List ℕ → Course) → Course
order_in (Ok order) next = next order
order_in (Err fault) next = refuses (exactly (ended (order_fault_text fault)))

-- the file of an order of so many edges is read
abbrev pub order_course : Text → ℕ → (List ℕ → Course) → Course
order_course name edges next = reads (source name most_text (ended (codes "order: too long"))) (λ text. order_in (order_of edges text) next)

-- it is read where one is asked for
abbrev pub asked_course : AskedOrder → ℕ → (GivenOrder → Course) → Course
asked_course (in_file name) edges next = order_course name edges (λ order. next (Read order))
asked_course (shuffled_from number) edges next = next (Shuffled number)
