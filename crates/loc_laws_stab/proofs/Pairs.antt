-- Two edges alive at the low point of a span that do not conflict, the first lower: what a point of the span is to one of them it is to the other.
use Rattle.std.proofs.Common.{◌≡◌, true, false, ap, ◌∙◌, arith, pos, ◌<ℤ◌, ◌≤ℤ◌, inl, inr}
use Rattle.std.proofs.lemmas.Int.{ints}
use Rattle.std.proofs.lemmas.Bool.{and_parts, and_from, and_left, and_right, both_ways, not_from_false, false_from_ne_true, true_from_ne_false, cases_Bool}
use Rattle.loc_spec_plane.specs.Points.{Point, Edge, before, up_to, same_point, turn, is_above, is_below, conflict}
use Rattle.loc_spec_plane.specs.{Places.alive, Places.lower, Spans.IsSpan}
use Rattle.loc_laws_order.proofs.{Forms.Before, Forms.AtMost, PairLaws.above_passes, PairLaws.higher_ends_above}
use Rattle.loc_laws_order.proofs.Sides.{before_decides, above_decides, below_decides, above-not_below, above-not_low, turn_low, turn_high}
use Rattle.loc_laws_order.proofs.Tests.{up_to_decides, alive_up, same_point_decides, up_to_trans}
use Rattle.loc_laws_stab.proofs.Columns.{turn_up, not_back, span_up}

-- a point above the higher edge is above the lower one
pub above_lower : (a b : Edge) (p : Point) → alive a p ≡ true → alive b p ≡ true → conflict a b ≡ false → lower a b ≡ true → is_above b p ≡ true → is_above a p ≡ true
above_lower a b p live_a live_b quiet low side =
    above_passes a b p live_a live_b quiet low (above-not_below b p side) (and_right (same_point p a.lo) (same_point p b.lo) (above-not_low b p side))

-- a point below an edge is not its lower end
below-not_low : (e : Edge) (p : Point) → is_below e p ≡ true → same_point p e.lo ≡ false
below-not_low e p h = false_from_ne_true (same_point p e.lo) (λ k.
    (let same : p ≡ e.lo = (same_point_decides p e.lo).0 k in
    let zero : turn e.lo e.hi p ≡ pos 0 = ap (λ q. turn e.lo e.hi q) same ∙ turn_low e.lo e.hi in
    let side : turn e.lo e.hi p <ℤ pos 0 = (below_decides e p).0 h in omega (arith, ints)))

module _ (low high : Point) (span : IsSpan low high) where
  -- a point that is behind the low one and not behind the high one stands between them
  between : (p : Point) → before low p ≡ true → before high p ≡ false → (p.x ≡ high.x) × (p.y ≤ℤ high.y)
  between p from to = at ((before_decides low p).0 from) ((up_to_decides p high).0 (not_from_false (before high p) to))
    where
      upright : low.x ≡ high.x
      upright = span.upright

      at : Before low p → AtMost p high → (p.x ≡ high.x) × (p.y ≤ℤ high.y)
      at (inl u) (inl v) = absurd (omega (arith, ints, upright))
      at (inl u) (inr v) = absurd (omega (arith, ints, upright, v.0))
      at (inr u) (inl v) = absurd (omega (arith, ints, upright, u.0))
      at (inr u) (inr v) = (v.0, v.1)

  -- an edge over the high point ends behind it
  pub ends_behind : (e : Edge) → alive e low ≡ true → is_below e high ≡ true → before high e.hi ≡ true
  ends_behind e live under = true_from_ne_false (before high e.hi) (λ short.
      (let place = between e.hi (and_parts (up_to e.lo low) (before low e.hi) live).1 short in
      let more : turn e.lo e.hi e.hi ≤ℤ turn e.lo e.hi high = turn_up e.lo e.hi e.hi high (not_back e ((before_decides e.lo e.hi).1 (alive_up e low live))) place.0 place.1 in
      let less : turn e.lo e.hi high <ℤ pos 0 = (below_decides e high).0 under in
      let zero : turn e.lo e.hi e.hi ≡ pos 0 = turn_high e.lo e.hi in
      omega (arith, ints)))

  begins_before : (e : Edge) → alive e low ≡ true → up_to e.lo high ≡ true
  begins_before e live = up_to_trans e.lo low high (and_parts (up_to e.lo low) (before low e.hi) live).0 (span_up low high span)

  -- where the high point is below the lower edge, it is below the higher one
  pub below_higher : (a b : Edge) → alive a low ≡ true → alive b low ≡ true → conflict a b ≡ false → lower a b ≡ true → is_below a high ≡ true → is_below b high ≡ true
  below_higher a b live_a live_b quiet is_lower under =
      let a_ends : before high a.hi ≡ true = ends_behind a live_a under in
      elim (cases_Bool (before high b.hi)) [
        | inl b_ends ↦ true_from_ne_false (is_below b high) (λ not_under.
            (let alive_a : alive a high ≡ true = and_from (up_to a.lo high) (before high a.hi) (begins_before a live_a) a_ends in
            let alive_b : alive b high ≡ true = and_from (up_to b.lo high) (before high b.hi) (begins_before b live_b) b_ends in
            let over : is_above a high ≡ true = above_passes a b high alive_a alive_b quiet is_lower not_under (and_left (same_point high a.lo) (same_point high b.lo) (below-not_low a high under)) in
            both_ways (is_below a high) (above-not_below a high over) under))
        | inr b_stops ↦ (let place = between b.hi (and_parts (up_to b.lo low) (before low b.hi) live_b).1 b_stops in
            let first : before b.hi a.hi ≡ true = before_through b.hi high a.hi (not_from_false (before high b.hi) b_stops) a_ends in
            let over : is_above a b.hi ≡ true = higher_ends_above a b low live_a live_b quiet is_lower first in
            let more : turn a.lo a.hi b.hi ≤ℤ turn a.lo a.hi high = turn_up a.lo a.hi b.hi high (not_back a ((before_decides a.lo a.hi).1 (alive_up a low live_a))) place.0 place.1 in
            let less : turn a.lo a.hi high <ℤ pos 0 = (below_decides a high).0 under in
            let positive : pos 0 <ℤ turn a.lo a.hi b.hi = (above_decides a b.hi).0 over in
            absurd (omega (arith, ints)))
      ]
    where
      before_through : (p q r : Point) → up_to p q ≡ true → before q r ≡ true → before p r ≡ true
      before_through p q r h k = (before_decides p r).1 (joined ((up_to_decides p q).0 h) ((before_decides q r).0 k))
        where
          joined : AtMost p q → Before q r → Before p r
          joined (inl u) (inl v) = inl (omega (arith, ints))
          joined (inl u) (inr v) = inl (omega (arith, ints, v.0))
          joined (inr u) (inl v) = inl (omega (arith, ints, u.0))
          joined (inr u) (inr v) = inr (omega (arith, ints, u.0, v.0), omega (arith, ints, u.1, v.1))
