-- What does not depend on the order of two points or edges.
use Rattle.std.proofs.Common.{◌≡◌, true, false, not, ◌&&◌, sym, ◌∙◌, ap, arith, ℤ, pos, ◌-ℤ◌, int_lt, inl, inr}
use Rattle.std.proofs.{lemmas.Int.ints, lemmas.Bool.Decides.Decides-int_eq}
use Rattle.std.proofs.lemmas.Bool.{cases_Bool, and_parts, not_from_false, false_from_ne_true}
use Rattle.std.specs.Ordering.{int_eq}
use Rattle.loc_spec_plane.specs.Points.{Point, Edge, same_point, turn, is_above, is_on, is_below}
use Rattle.loc_spec_plane.specs.Places.{lower}
use Rattle.loc_laws_order.proofs.{Sides.turn_swap, Sides.same_point-true, Sides.lower-asym, Booleans.same-from_both}

-- of the negative of a number the signs are exchanged
less_flip : (m n : ℤ) → m ≡ pos 0 -ℤ n → int_lt (pos 0) m ≡ int_lt n (pos 0)
less_flip m n e = elim (cases_Bool (int_lt n (pos 0))) [
  | inl h ↦ (let k : true ≡ int_lt (pos 0) m = omega (arith, ints) in sym k ∙ sym h)
  | inr h ↦ (let k : false ≡ int_lt (pos 0) m = omega (arith, ints) in sym k ∙ sym h)
]

-- and zero is zero
zero_flip : (m n : ℤ) → m ≡ pos 0 -ℤ n → int_eq m (pos 0) ≡ int_eq n (pos 0)
zero_flip m n e = same-from_both (int_eq m (pos 0)) (int_eq n (pos 0))
    (λ h. (let is_zero : m ≡ pos 0 = (Decides-int_eq m (pos 0)).0 h in (Decides-int_eq n (pos 0)).1 (omega (arith, ints))))
    (λ h. (let is_zero : n ≡ pos 0 = (Decides-int_eq n (pos 0)).0 h in (Decides-int_eq m (pos 0)).1 (omega (arith, ints))))

-- the turn of one upper end against the other edge is the negative of the other turn
turn_flip : (a b : Edge) → same_point a.lo b.lo ≡ true → turn a.lo a.hi b.hi ≡ pos 0 -ℤ turn b.lo b.hi a.hi
turn_flip a b common = turn_swap a.lo a.hi b.hi ∙ ap (λ (o : Point). pos 0 -ℤ turn o b.hi a.hi) (same_point-true a.lo b.lo common)

-- where two edges begin together, above becomes below
pub above_flip : (a b : Edge) → same_point a.lo b.lo ≡ true → is_above a b.hi ≡ is_below b a.hi
above_flip a b common = less_flip (turn a.lo a.hi b.hi) (turn b.lo b.hi a.hi) (turn_flip a b common)

-- below becomes above
pub below_flip : (a b : Edge) → same_point a.lo b.lo ≡ true → is_below a b.hi ≡ is_above b a.hi
below_flip a b common =
    let e = turn_flip a b common in
    sym (less_flip (turn b.lo b.hi a.hi) (turn a.lo a.hi b.hi) (omega (arith, ints)))

-- on stays on
pub on_flip : (a b : Edge) → same_point a.lo b.lo ≡ true → is_on a b.hi ≡ is_on b a.hi
on_flip a b common = zero_flip (turn a.lo a.hi b.hi) (turn b.lo b.hi a.hi) (turn_flip a b common)

-- not both are lower
pub not_both_lower : (a b : Edge) → not (lower a b && lower b a) ≡ true
not_both_lower a b = not_from_false (lower a b && lower b a) (false_from_ne_true (lower a b && lower b a) (λ h. (let parts = and_parts (lower a b) (lower b a) h in lower-asym a b parts.0 parts.1)))
