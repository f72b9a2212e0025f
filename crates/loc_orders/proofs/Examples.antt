-- Examples, computed: the order texts of the four edges of a square, and the lines that refuse some of them.
use Rattle.std.proofs.Common.{◌≡◌, [], ◌∷◌, Ok, Err, refl, codes}
use Rattle.std.specs.Fmt.{digits}
use Rattle.loc_trapdag.specs.Orders.{order_of}
use Rattle.loc_trapdag.specs.declared.order.OrderFault.TheVariants.{NotNumber, OutOfRange, Twice, Missing}
use Rattle.loc_orders.specs.OrderTexts.{order_fault_text}

orders : (order_of 4 (codes "3\n2\n1\n0\n") ≡ Ok (3 ∷ 2 ∷ 1 ∷ 0 ∷ []))
    × (order_of 4 (codes "0\n0\n1\n2\n") ≡ Err (Twice 2 1))
    × (order_of 4 (codes "0\n1\n2\n") ≡ Err (Missing 3))
    × (order_of 4 (codes "4\n") ≡ Err (OutOfRange 1))
    × (order_of 4 (codes "x\n") ≡ Err (NotNumber 1))
orders = (refl, refl, refl, refl, refl)

lines : (order_fault_text (Twice 2 1) ≡ codes "order line 2: edge of line 1 again")
    × (order_fault_text (Missing 3) ≡ codes "order: edge 3 missing")
    × (order_fault_text (OutOfRange 1) ≡ codes "order line 1: out of range")
    × (order_fault_text (NotNumber 1) ≡ codes "order line 1: not a number")
unfolding digits
lines = (refl, refl, refl, refl)
