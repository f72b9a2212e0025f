-- The ray against one segment, by the side of the point.
use Rattle.std.proofs.Common.{◌≡◌, Bool, true, false, ◌&&◌, ◌||◌, [], ◌∷◌, Some, refl, sym, ◌∙◌, ap, ap₂, subst, arith, pos, int_lt, int_le, inl, inr}
use Rattle.std.proofs.{Math.Bool.and-true, Math.Bool.or-false, lemmas.Int.ints}
use Rattle.std.proofs.lemmas.Bool.{and_right, cases_Bool, cond-false, false_from_ne_true, both_ways, or_from, not_from_false}
use Rattle.loc_spec_plane.specs.Points.{Point, Edge, turn, same_point, is_above, is_on, is_below, lies_on}
use Rattle.loc_spec_plane.specs.{Rays.crosses_right, Rings.ring_segments, Rings.segment_between}
use Rattle.loc_laws_order.proofs.Sides.{above-not_below, on-not_above, on-not_below}
use Rattle.loc_laws_rays.proofs.{Parity.exactly_one-false, RayLaw.turn_back}
use Rattle.loc_rings.specs.Parity.{IsParity}

-- a way down has the point to its left exactly where the point is below the segment
below_is : (s : Edge) (p : Point) → int_lt (pos 0) (turn s.hi s.lo p) ≡ is_below s p
below_is s p =
    let back = turn_back s.lo s.hi p in
    elim (cases_Bool (is_below s p)) [
      | inl h ↦ (let k : true ≡ int_lt (pos 0) (turn s.hi s.lo p) = omega (arith, ints) in sym k ∙ sym h)
      | inr h ↦ (let k : false ≡ int_lt (pos 0) (turn s.hi s.lo p) = omega (arith, ints) in sym k ∙ sym h)
    ]

-- a segment is crossed where it rises past the point's height and has the point above, or falls past it and has the point below
by_sides : (s : Edge) (p : Point) → crosses_right s p ≡ ((int_le s.lo.y p.y && int_lt p.y s.hi.y && is_above s p) || (int_le s.hi.y p.y && int_lt p.y s.lo.y && is_below s p))
by_sides s p = ap (λ b. (int_le s.lo.y p.y && int_lt p.y s.hi.y && is_above s p) || (int_le s.hi.y p.y && int_lt p.y s.lo.y && b)) (below_is s p)

-- of two that may hold, the one that is chosen
choice : (rises falls above below : Bool) → above ≡ true → below ≡ false → rises ≡ ((rises && above) || (falls && below))
choice rises falls above below a b = sym (ap₂ (λ x y. x || y) (ap (λ t. rises && t) a ∙ and-true rises) (and_right falls below b) ∙ or-false rises)

-- the other one
other_choice : (rises falls above below : Bool) → above ≡ false → below ≡ true → falls ≡ ((rises && above) || (falls && below))
other_choice rises falls above below a b = sym (ap₂ (λ x y. x || y) (and_right rises above a) (ap (λ t. falls && t) b ∙ and-true falls))

-- neither
no_choice : (rises falls above below : Bool) → above ≡ false → below ≡ false → false ≡ ((rises && above) || (falls && below))
no_choice rises falls above below a b = sym (or_from (rises && above) (falls && below) (and_right rises above a) (and_right falls below b))

-- with the point above
pub when_above : (s : Edge) (p : Point) (rises : Bool) → rises ≡ (int_le s.lo.y p.y && int_lt p.y s.hi.y) → is_above s p ≡ true → rises ≡ crosses_right s p
when_above s p rises e h = e ∙ (choice (int_le s.lo.y p.y && int_lt p.y s.hi.y) (int_le s.hi.y p.y && int_lt p.y s.lo.y) (is_above s p) (is_below s p) h (above-not_below s p h) ∙ sym (by_sides s p))

-- with the point below
pub when_below : (s : Edge) (p : Point) (falls : Bool) → falls ≡ (int_le s.hi.y p.y && int_lt p.y s.lo.y) → is_below s p ≡ true → falls ≡ crosses_right s p
when_below s p falls e h = e ∙ (other_choice (int_le s.lo.y p.y && int_lt p.y s.hi.y) (int_le s.hi.y p.y && int_lt p.y s.lo.y) (is_above s p) (is_below s p) (false_from_ne_true (is_above s p) (λ k. both_ways (is_below s p) (above-not_below s p k) h)) h ∙ sym (by_sides s p))

-- with the point on the line
pub when_on : (s : Edge) (p : Point) → is_on s p ≡ true → false ≡ crosses_right s p
when_on s p h = no_choice (int_le s.lo.y p.y && int_lt p.y s.hi.y) (int_le s.hi.y p.y && int_lt p.y s.lo.y) (is_above s p) (is_below s p) (on-not_above s p h) (on-not_below s p h) ∙ sym (by_sides s p)

-- the parity of the one segment between two different points
pub lone : (a b p : Point) (s : Edge) (crossed : Bool) → same_point a b ≡ false → s ≡ segment_between a b → lies_on s p ≡ false → crossed ≡ crosses_right s p → IsParity (ring_segments (a ∷ b ∷ [])) p (Some crossed)
lone a b p s crossed differ same off is =
    let one : ring_segments (a ∷ b ∷ []) ≡ s ∷ [] = cond-false (same_point a b) [] (segment_between a b ∷ []) differ ∙ ap (λ e. e ∷ []) (sym same) in
    subst (λ ss. IsParity ss p (Some crossed)) (sym one) (not_from_false (lies_on s p || false) (or_from (lies_on s p) false off refl), is ∙ sym (exactly_one-false (crosses_right s p)))
