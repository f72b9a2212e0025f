-- Points of one column against an edge: a higher point turns no further to the right.
use Rattle.std.proofs.Common.{◌≡◌, true, sym, subst, arith, ℤ, pos, ◌-ℤ◌, ◌+ℤ◌, ◌*ℤ◌, ◌≤ℤ◌, inl, inr, [], ◌∷◌}
use Rattle.std.proofs.lemmas.Int.{ints}
use Rattle.loc_algebra.proofs.Ring.{ring, variable, minus, plus, times}
use Rattle.loc_algebra.proofs.Signs.{product_not_positive}
use Rattle.loc_spec_plane.specs.Points.{Point, Edge, before, up_to, turn, is_above, is_below}
use Rattle.loc_laws_order.proofs.{Sides.before_decides, Sides.above_decides, Sides.below_decides, Tests.up_to_decides}
use Rattle.loc_spec_plane.specs.Spans.{IsSpan}

turn_grows : (ax ay bx by x y z : ℤ) → ax ≤ℤ bx → y ≤ℤ z → ((bx -ℤ ax) *ℤ (y -ℤ ay) -ℤ (by -ℤ ay) *ℤ (x -ℤ ax)) ≤ℤ ((bx -ℤ ax) *ℤ (z -ℤ ay) -ℤ (by -ℤ ay) *ℤ (x -ℤ ax))
turn_grows ax ay bx by x y z wide rises =
    let less : ((bx -ℤ ax) *ℤ (y -ℤ z)) ≤ℤ pos 0 = product_not_positive (bx -ℤ ax) (y -ℤ z) (omega (arith, ints, wide)) (omega (arith, ints, rises)) in
    let v0 = variable 0 in let v1 = variable 1 in let v2 = variable 2 in let v3 = variable 3 in let v4 = variable 4 in let v5 = variable 5 in let v6 = variable 6 in
    let same : (bx -ℤ ax) *ℤ (y -ℤ ay) -ℤ (by -ℤ ay) *ℤ (x -ℤ ax) ≡ ((bx -ℤ ax) *ℤ (z -ℤ ay) -ℤ (by -ℤ ay) *ℤ (x -ℤ ax)) +ℤ (bx -ℤ ax) *ℤ (y -ℤ z) =
    ring (ax ∷ ay ∷ bx ∷ by ∷ x ∷ y ∷ z ∷ []) (minus (times (minus v2 v0) (minus v5 v1)) (times (minus v3 v1) (minus v4 v0))) (plus (minus (times (minus v2 v0) (minus v6 v1)) (times (minus v3 v1) (minus v4 v0))) (times (minus v2 v0) (minus v5 v6))) tt
    in
    omega (arith, ints, less, same)

-- up a column the turn grows
pub turn_up : (a b p q : Point) → a.x ≤ℤ b.x → p.x ≡ q.x → p.y ≤ℤ q.y → turn a b p ≤ℤ turn a b q
unfolding turn
turn_up a b p q wide upright rises =
    subst (λ x. ((b.x -ℤ a.x) *ℤ (p.y -ℤ a.y) -ℤ (b.y -ℤ a.y) *ℤ (x -ℤ a.x)) ≤ℤ ((b.x -ℤ a.x) *ℤ (q.y -ℤ a.y) -ℤ (b.y -ℤ a.y) *ℤ (q.x -ℤ a.x))) (sym upright)
    (turn_grows a.x a.y b.x b.y q.x p.y q.y wide rises)

-- an edge does not go back
pub not_back : (e : Edge) → before e.lo e.hi ≡ true → e.lo.x ≤ℤ e.hi.x
not_back e up = elim ((before_decides e.lo e.hi).0 up) [ inl less ↦ omega (arith, ints) | inr same ↦ omega (arith, ints, same.0) ]

module _ (e : Edge) (up : before e.lo e.hi ≡ true) (p q : Point) (upright : p.x ≡ q.x) (rises : p.y ≤ℤ q.y) where
  -- what is below the edge stays below it further down
  pub below_down : is_below e q ≡ true → is_below e p ≡ true
  below_down h =
      let more = turn_up e.lo e.hi p q (not_back e up) upright rises in
      let less = (below_decides e q).0 h in
      (below_decides e p).1 (omega (arith, ints, more, less))

  -- what is above the edge stays above it further up
  pub above_up : is_above e p ≡ true → is_above e q ≡ true
  above_up h =
      let more = turn_up e.lo e.hi p q (not_back e up) upright rises in
      let less = (above_decides e p).0 h in
      (above_decides e q).1 (omega (arith, ints, more, less))

-- the low point of a span is not behind its high one
pub span_up : (low high : Point) → IsSpan low high → up_to low high ≡ true
span_up low high span = (up_to_decides low high).1 (inr (span.upright, span.rises))
