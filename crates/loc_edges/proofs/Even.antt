-- Closed rings have each point as an end an even number of times.
use Rattle.std.proofs.Common.{◌≡◌, suc, ◌-◌, true, false, ◌||◌, Bool, Some, List, [], ◌∷◌, length, get_or, refl, sym, ◌∙◌, ap, subst, inl, inr, arith}
use Rattle.std.specs.Prelude.{All, slice_get}
use Rattle.std.proofs.lemmas.Bool.{cases_Bool, cases_lt, cond-true, cond-false, both_ways}
use Rattle.std.proofs.lemmas.List.{get_or_past}
use Rattle.loc_spec_plane.specs.Points.{Point, before, same_point, is_end}
use Rattle.loc_spec_plane.specs.Lists.{exactly_one, odd_many}
use Rattle.loc_spec_plane.specs.Rings.{Ring, Rings, ring_segments, segments, segment_between}
use Rattle.loc_laws_order.proofs.Sides.{same_point-true}
use Rattle.loc_laws_rays.proofs.Parity.{exactly_one_chain, exactly_one_comm, exactly_one_same, odd_many-append}
use Rattle.loc_laws_noding.specs.Laws.{AreEven}
use Rattle.loc_rings.specs.Values.{IsRing}

-- the last point
abbrev last_of : Point → List Point → Point
last_of a [] = a
last_of a (b ∷ ps) = last_of b ps

module _ (p : Point) where
  -- a point is an end of a segment where it is exactly one of its two points
  end_between : (a b : Point) → same_point a b ≡ false → is_end (segment_between a b) p ≡ exactly_one (same_point p a) (same_point p b)
  end_between a b other = elim (cases_Bool (before a b)) [
    | inl up ↦ ap (λ s. is_end s p) (cond-true _ _ _ up) ∙ one_of (same_point p a) (same_point p b) apart
    | inr down ↦ ap (λ s. is_end s p) (cond-false _ _ _ down) ∙ (one_of (same_point p b) (same_point p a) (λ at_b at_a. apart at_a at_b) ∙ exactly_one_comm (same_point p b) (same_point p a))
  ]
    where
      apart : same_point p a ≡ true → same_point p b ≡ true → ⊥
      apart at_a at_b = both_ways _ other (subst (λ q. same_point q b ≡ true) (same_point-true p a at_a) at_b)

      one_of : (s t : Bool) → (s ≡ true → t ≡ true → ⊥) → (s || t) ≡ exactly_one s t
      one_of true true h = absurd (h refl refl)
      one_of true false h = refl
      one_of false t h = refl

  -- along a ring this telescopes to its first and its last point
  ring_ends : (a : Point) (ps : List Point) → odd_many (λ s. is_end s p) (ring_segments (a ∷ ps)) ≡ exactly_one (same_point p a) (same_point p (last_of a ps))
  ring_ends a [] = sym (exactly_one_same (same_point p a))
  ring_ends a (b ∷ ps) = elim (cases_Bool (same_point a b)) [
    | inl same ↦ ap (odd_many (λ s. is_end s p)) (cond-true _ _ _ same) ∙ (ring_ends b ps ∙ ap (λ q. exactly_one (same_point p q) (same_point p (last_of b ps))) (sym (same_point-true a b same)))
    | inr other ↦ ap (odd_many (λ s. is_end s p)) (cond-false _ _ _ other) ∙ (ap (exactly_one (is_end (segment_between a b) p)) (ring_ends b ps) ∙ (ap (λ t. exactly_one t (exactly_one (same_point p b) (same_point p (last_of b ps)))) (end_between a b other) ∙ exactly_one_chain (same_point p a) (same_point p b) (same_point p (last_of b ps))))
  ]

  -- so a closed ring has each point as an end an even number of times
  ring_even : (ring : Ring) → IsRing ring → odd_many (λ s. is_end s p) (ring_segments ring) ≡ false
  ring_even [] closed = refl
  ring_even (a ∷ ps) closed = ring_ends a ps ∙ (ap (λ q. exactly_one (same_point p a) (same_point p q)) (sym first_is_last) ∙ exactly_one_same (same_point p a))
    where
      last_read : (b : Point) (qs : List Point) → slice_get (b ∷ qs) (length qs) ≡ Some (last_of b qs)
      last_read b [] = refl
      last_read b (q ∷ qs) = last_read q qs

      first_is_last : a ≡ last_of a ps
      first_is_last = (let place : length (a ∷ ps) - 1 ≡ length ps = omega arith in let e : Some a ≡ Some (last_of a ps) = closed.closed ∙ (ap (slice_get (a ∷ ps)) place ∙ last_read a ps) in grind arith)

  rings_even : (rings : Rings) → All IsRing rings → odd_many (λ s. is_end s p) (segments rings) ≡ false
  rings_even [] each = refl
  rings_even (ring ∷ rings) each = odd_many-append (λ s. is_end s p) (ring_segments ring) (segments rings) ∙ (ap (λ t. exactly_one t (odd_many (λ s. is_end s p) (segments rings))) (ring_even ring (each 0 ring (omega arith))) ∙ rings_even rings (λ k d lt. each (suc k) d (omega arith)))

-- so does every feature of a layer
pub closed_even : (layer : List Rings) → All (All IsRing) layer → AreEven layer
closed_even layer closed f p = rings_even p (get_or layer f []) (elim (cases_lt f (length layer)) [
  | inl fits ↦ closed f [] fits
  | inr past ↦ subst (All IsRing) (sym (get_or_past layer f [] past)) (λ k d lt. absurd (omega arith))
])
