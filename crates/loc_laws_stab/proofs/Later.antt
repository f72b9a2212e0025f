-- The edges that a span meets otherwise: those that end at its low point, and those that begin between its points. Which they are by the numbers of corners.
use Rattle.std.proofs.Common.{◌≡◌, ℕ, ◌<◌, true, false, not, ◌&&◌, ◌||◌, length, sym, ◌∙◌, ap, subst, inl, inr, arith, ◌≤ℤ◌}
use Rattle.std.specs.Prelude.{nat_lt, ◌==◌}
use Rattle.std.proofs.lemmas.Int.{ints}
use Rattle.std.proofs.lemmas.Bool.{and_parts, and_from, and_left, and_right, or_parts, or_from, both_ways, lt-ltb, not-true, not-false, not_from_false, false_from_ne_true}
use Rattle.loc_spec_plane.specs.Points.{Point, Edge, before, up_to, same_point, is_above, is_below}
use Rattle.loc_spec_plane.specs.Tables.{Table, IsTable, corner, edge, lo_of, hi_of}
use Rattle.loc_spec_plane.specs.Places.{alive, alive_at, is_edge, IsCornerless}
use Rattle.loc_laws_order.proofs.{AliveAt.IsPassed, AliveAt.not_corner, Booleans.same-from_both}
use Rattle.loc_laws_order.proofs.{Forms.Before, Forms.AtMost, Sets.number_swap, Tests.up_to_decides, Tests.up_to_trans}
use Rattle.loc_laws_order.proofs.Sides.{before_decides, before_irrefl, before_trans, before_either, before-differ, before-asym_test, same_point_sym, same_point-true, low_is_on, high_is_on, on-not_above, on-not_below}
use Rattle.loc_laws_order.proofs.TableOrder.{edge_up, same_corner}
use Rattle.loc_spec_plane.specs.Spans.{IsSpan, meets, is_met, ends_at_low, is_later}
use Rattle.loc_laws_stab.proofs.Columns.{above_up, below_down, span_up}

module _ (low high : Point) (span : IsSpan low high) where
  -- a point behind the low one and not behind the high one stands between them
  pub stands_between : (p : Point) → before low p ≡ true → up_to p high ≡ true → (low.x ≡ p.x) × (low.y ≤ℤ p.y) × (p.x ≡ high.x) × (p.y ≤ℤ high.y)
  stands_between p from to = at ((before_decides low p).0 from) ((up_to_decides p high).0 to)
    where
      upright : low.x ≡ high.x
      upright = span.upright

      at : Before low p → AtMost p high → (low.x ≡ p.x) × (low.y ≤ℤ p.y) × (p.x ≡ high.x) × (p.y ≤ℤ high.y)
      at (inl u) (inl v) = absurd (omega (arith, ints, upright))
      at (inl u) (inr v) = absurd (omega (arith, ints, upright, v.0))
      at (inr u) (inl v) = absurd (omega (arith, ints, upright, u.0))
      at (inr u) (inr v) = (u.0, omega (arith, ints, u.1), v.0, v.1)

  -- an edge that begins there is met
  begins_between : (e : Edge) → before e.lo e.hi ≡ true → before low e.lo ≡ true → up_to e.lo high ≡ true → meets e low high ≡ true
  begins_between e up from to =
      let place = stands_between e.lo from to in
      and_from (up_to e.lo high && up_to low e.hi) (not (is_above e low) && not (is_below e high))
      (and_from (up_to e.lo high) (up_to low e.hi) to (not_from_false (before e.hi low) (before-asym_test low e.hi (before_trans low e.lo e.hi from up))))
      (and_from (not (is_above e low)) (not (is_below e high))
      (not_from_false (is_above e low) (false_from_ne_true (is_above e low) (λ h. both_ways (is_above e e.lo) (on-not_above e e.lo (low_is_on e)) (above_up e up low e.lo place.0 place.1 h))))
      (not_from_false (is_below e high) (false_from_ne_true (is_below e high) (λ h. both_ways (is_below e e.lo) (on-not_below e e.lo (low_is_on e)) (below_down e up e.lo high place.2 place.3 h)))))

  -- an edge that ends at the low point is met
  ends_met : (e : Edge) → before e.lo e.hi ≡ true → e.hi ≡ low → meets e low high ≡ true
  ends_met e up at =
      let ends : before e.lo low ≡ true = subst (λ p. before e.lo p ≡ true) at up in
      let on_above : is_above e low ≡ false = subst (λ p. is_above e p ≡ false) at (on-not_above e e.hi (high_is_on e)) in
      let on_below : is_below e low ≡ false = subst (λ p. is_below e p ≡ false) at (on-not_below e e.hi (high_is_on e)) in
      and_from (up_to e.lo high && up_to low e.hi) (not (is_above e low) && not (is_below e high))
      (and_from (up_to e.lo high) (up_to low e.hi)
      (up_to_trans e.lo low high (not_from_false (before low e.lo) (before-asym_test e.lo low ends)) (span_up low high span))
      (subst (λ p. up_to low p ≡ true) (sym at) (itself low)))
      (and_from (not (is_above e low)) (not (is_below e high)) (not_from_false (is_above e low) on_above)
      (not_from_false (is_below e high) (false_from_ne_true (is_below e high) (λ h. both_ways (is_below e low) on_below (below_down e up low high span.upright span.rises h)))))
    where
      itself : (p : Point) → up_to p p ≡ true
      itself p = not_from_false (before p p) (before_irrefl p)

module _ (t : Table) (ok : IsTable t) (low high : Point) (span : IsSpan low high) where
  -- behind the first n corners up to the low point and the first m up to the high one, the later edges begin at the corners from n on and before m
  pub later_by_number : (n m : ℕ) → IsPassed t low n → IsPassed t high m → (e : ℕ) → e < length t.ends → is_later t low high e ≡ (not (nat_lt (lo_of t e) n) && nat_lt (lo_of t e) m)
  later_by_number n m passed_low passed_high e fits = same-from_both (is_later t low high e) (not (nat_lt (lo_of t e) n) && nat_lt (lo_of t e) m) to from
    where
      up : before (edge t e).lo (edge t e).hi ≡ true
      up = edge_up t ok e fits

      in_range : lo_of t e < length t.corners
      in_range = let g = ok.goes_up e fits in omega (arith, g.0, g.1)

      to : is_later t low high e ≡ true → (not (nat_lt (lo_of t e) n) && nat_lt (lo_of t e) m) ≡ true
      to h =
          let parts = and_parts (is_met t low high e) (not (same_point (edge t e).hi low || alive_at t low e)) h in
          let neither = or_parts (same_point (edge t e).hi low) (alive_at t low e) (not-true (same_point (edge t e).hi low || alive_at t low e) parts.1) in
          let met = and_parts (is_edge t e) (meets (edge t e) low high) parts.0 in
          let ends = and_parts (up_to (edge t e).lo high) (up_to low (edge t e).hi) (and_parts (up_to (edge t e).lo high && up_to low (edge t e).hi) (not (is_above (edge t e) low) && not (is_below (edge t e) high)) met.1).0 in
          let behind : before low (edge t e).hi ≡ true = before_either (edge t e).hi low neither.0 (not-true (before (edge t e).hi low) ends.1) in
          let dead : up_to (edge t e).lo low ≡ false = false_from_ne_true (up_to (edge t e).lo low) (λ k. both_ways (alive_at t low e) neither.1 (and_from (is_edge t e) (alive (edge t e) low) met.0 (and_from (up_to (edge t e).lo low) (before low (edge t e).hi) k behind))) in
          and_from (not (nat_lt (lo_of t e) n)) (nat_lt (lo_of t e) m)
          (not_from_false (nat_lt (lo_of t e) n) (sym (passed_low.passed (lo_of t e) in_range) ∙ dead))
          (sym (passed_high.passed (lo_of t e) in_range) ∙ ends.0)

      from : (not (nat_lt (lo_of t e) n) && nat_lt (lo_of t e) m) ≡ true → is_later t low high e ≡ true
      from h =
          let parts = and_parts (not (nat_lt (lo_of t e) n)) (nat_lt (lo_of t e) m) h in
          let begins : up_to (edge t e).lo high ≡ true = passed_high.passed (lo_of t e) in_range ∙ parts.1 in
          let dead : up_to (edge t e).lo low ≡ false = passed_low.passed (lo_of t e) in_range ∙ not-true (nat_lt (lo_of t e) n) parts.0 in
          let behind : before low (edge t e).lo ≡ true = not-false (before low (edge t e).lo) dead in
          and_from (is_met t low high e) (not (same_point (edge t e).hi low || alive_at t low e))
          (and_from (is_edge t e) (meets (edge t e) low high) (lt-ltb e (length t.ends) fits) (begins_between low high span (edge t e) up behind begins))
          (not_from_false (same_point (edge t e).hi low || alive_at t low e) (or_from (same_point (edge t e).hi low) (alive_at t low e)
          (same_point_sym (edge t e).hi low (before-differ low (edge t e).hi (before_trans low (edge t e).lo (edge t e).hi behind up)))
          (and_right (is_edge t e) (alive (edge t e) low) (and_left (up_to (edge t e).lo low) (before low (edge t e).hi) dead))))

  -- where the low point is a corner, the edges that end there are those of the table
  pub ending_by_number : (c : ℕ) → c < length t.corners → corner t c ≡ low → (e : ℕ) → e < length t.ends → ends_at_low t low high e ≡ (hi_of t e == c)
  ending_by_number c fits_c at e fits =
      let same : same_point (edge t e).hi low ≡ (c == hi_of t e) = ap (λ p. same_point (edge t e).hi p) (sym at) ∙ same_corner t ok (hi_of t e) c (ok.goes_up e fits).1 fits_c in
      same-from_both (ends_at_low t low high e) (hi_of t e == c)
      (λ h. number_swap (hi_of t e) c ∙ (sym same ∙ (and_parts (is_met t low high e) (same_point (edge t e).hi low) h).1))
      (λ h. (let end : same_point (edge t e).hi low ≡ true = same ∙ (number_swap c (hi_of t e) ∙ h) in
      and_from (is_met t low high e) (same_point (edge t e).hi low) (and_from (is_edge t e) (meets (edge t e) low high) (lt-ltb e (length t.ends) fits) (ends_met low high span (edge t e) (edge_up t ok e fits) (same_point-true (edge t e).hi low end))) end))

  -- where it is none, no edge ends there
  pub none_ends : IsCornerless t low → (e : ℕ) → e < length t.ends → ends_at_low t low high e ≡ false
  none_ends clear e fits = and_right (is_met t low high e) (same_point (edge t e).hi low) (not_corner t low clear (hi_of t e) (ok.goes_up e fits).1)
