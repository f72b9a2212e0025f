-- The lines that name what is wrong with an order. The words: `at_line`, `again_text`, `missing_text`, `order_fault_text`, `order_stop`.
use Rattle.std.specs.Prelude.{ℕ, List, ◌++◌, codes}
use Rattle.std.specs.Fmt.{decimal}
use Rattle.loc_spec_text.specs.Points.{ended}
use Rattle.loc_course.specs.Courses.{Stopped, refused, no_memory}
use Rattle.loc_trapdag.specs.declared.order.OrderFault.{OrderFault}
use Rattle.loc_trapdag.specs.declared.order.OrderFault.TheVariants.{NotNumber, OutOfRange, Twice, Missing, NoMemory}

-- what is wrong with a line
abbrev pub at_line : ℕ → List ℕ → List ℕ
at_line line text = codes "order line " ++ decimal line ++ codes ": " ++ text

-- an earlier line has the edge
abbrev pub again_text : ℕ → List ℕ
again_text earlier = codes "edge of line " ++ decimal earlier ++ codes " again"

-- no line has the edge
abbrev pub missing_text : ℕ → List ℕ
missing_text edge = codes "order: edge " ++ decimal edge ++ codes " missing"

-- what is wrong with an order
abbrev pub order_fault_text : OrderFault → List ℕ
order_fault_text (NotNumber line) = at_line line (codes "not a number")
order_fault_text (OutOfRange line) = at_line line (codes "out of range")
order_fault_text (Twice line earlier) = at_line line (again_text earlier)
order_fault_text (Missing edge) = missing_text edge
order_fault_text NoMemory = codes "out of memory"

-- why a command stops where an order is at fault
abbrev pub order_stop : OrderFault → Stopped
order_stop NoMemory = no_memory
order_stop fault = refused (ended (order_fault_text fault))
