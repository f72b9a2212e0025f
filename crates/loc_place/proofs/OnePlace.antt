-- A point has one place in a table in which no two edges conflict.
use Rattle.std.proofs.Common.{◌≡◌, ℕ, ◌<◌, true, length, sym, ◌∙◌, ap, subst, inl, inr}
use Rattle.std.specs.Prelude.{nat_lt}
use Rattle.std.proofs.lemmas.Bool.{and_parts, and_left, both_ways, cases_eq, eqb-true, ltb-true, not-true}
use Rattle.loc_spec_plane.specs.declared.Place.{Place}
use Rattle.loc_spec_plane.specs.declared.Place.TheVariants.{Corner, Border, Area}
use Rattle.loc_spec_plane.specs.Points.{Point, same_point, is_above, is_on, lies_on, conflict}
use Rattle.loc_spec_plane.specs.Tables.{Table, IsTable, NoConflict, corner, edge}
use Rattle.loc_spec_plane.specs.Places.{alive, lower_of, is_edge, is_corner_of, is_border_of, IsCornerless, IsPlace}
use Rattle.loc_laws_order.proofs.Sides.{same_point-true, on-not_above, on-not_below}
use Rattle.loc_laws_order.proofs.TableOrder.{same_corner, different}
use Rattle.loc_laws_order.proofs.{PairLaws.order_is_total, PairLaws.above_passes, Unique.floor-unique}
use Rattle.loc_place.proofs.Cornerless.{begins_elsewhere, lies_on_is}

module _ (t : Table) (ok : IsTable t) (p : Point) where
  -- p is at most one corner
  one_corner : (m n : ℕ) → is_corner_of t p m ≡ true → is_corner_of t p n ≡ true → m ≡ n
  one_corner m n is_m is_n =
      let at_m = and_parts (nat_lt m (length t.corners)) (same_point (corner t m) p) is_m in
      let at_n = and_parts (nat_lt n (length t.corners)) (same_point (corner t n) p) is_n in
      let both : same_point (corner t n) (corner t m) ≡ true = subst (λ q. same_point (corner t n) q ≡ true) (sym (same_point-true (corner t m) p at_m.1)) at_n.1 in
      eqb-true m n (sym (same_corner t ok n m (ltb-true n (length t.corners) at_n.0) (ltb-true m (length t.corners) at_m.0)) ∙ both)

  module _ (apart : NoConflict t) (clear : IsCornerless t p) where
    -- of two edges on which p lies neither is lower: p would be above the lower one
    not_lower : (a b : ℕ) → a < length t.ends → b < length t.ends → lies_on (edge t a) p ≡ true → lies_on (edge t b) p ≡ true → lower_of t a b ≡ true → ⊥
    not_lower a b fits_a fits_b on_a on_b low =
        let at_a = and_parts (is_on (edge t a) p) (alive (edge t a) p) (sym (lies_on_is t p clear ok a fits_a) ∙ on_a) in
        let at_b = and_parts (is_on (edge t b) p) (alive (edge t b) p) (sym (lies_on_is t p clear ok b fits_b) ∙ on_b) in
        let quiet = not-true (conflict (edge t a) (edge t b)) (apart a b fits_a fits_b) in
        let begins = and_left (same_point p (edge t a).lo) (same_point p (edge t b).lo) (begins_elsewhere t p clear ok a fits_a) in
        both_ways (is_above (edge t a) p) (on-not_above (edge t a) p at_a.0) (above_passes (edge t a) (edge t b) p at_a.1 at_b.1 quiet low (on-not_below (edge t b) p at_b.0) begins)

    -- p lies on at most one edge
    one_border : (a b : ℕ) → is_border_of t p a ≡ true → is_border_of t p b ≡ true → a ≡ b
    one_border a b is_a is_b =
        let at_a = and_parts (is_edge t a) (lies_on (edge t a) p) is_a in
        let at_b = and_parts (is_edge t b) (lies_on (edge t b) p) is_b in
        let fits_a = ltb-true a (length t.ends) at_a.0 in
        let fits_b = ltb-true b (length t.ends) at_b.0 in
        let alive_a = (and_parts (is_on (edge t a) p) (alive (edge t a) p) (sym (lies_on_is t p clear ok a fits_a) ∙ at_a.1)).1 in
        let alive_b = (and_parts (is_on (edge t b) p) (alive (edge t b) p) (sym (lies_on_is t p clear ok b fits_b) ∙ at_b.1)).1 in
        elim (cases_eq a b) [
          | inl same ↦ same
          | inr other ↦ elim (order_is_total (edge t a) (edge t b) p alive_a alive_b (different t ok a b fits_a fits_b other) (not-true (conflict (edge t a) (edge t b)) (apart a b fits_a fits_b))) [
            | inl low ↦ absurd (not_lower a b fits_a fits_b at_a.1 at_b.1 low)
            | inr high ↦ absurd (not_lower b a fits_b fits_a at_b.1 at_a.1 high)
          ]
        ]

-- a point has one place
pub one_place : (t : Table) → IsTable t → NoConflict t → (p : Point) (a b : Place) → IsPlace t p a → IsPlace t p b → a ≡ b
one_place t ok apart p (Corner m) (Corner n) g h = ap (λ k. Corner k) (one_corner t ok p m n g h)
one_place t ok apart p (Corner m) (Border e) g h = absurd (both_ways (is_corner_of t p m) (not-true (is_corner_of t p m) (h.0 m)) g)
one_place t ok apart p (Corner m) (Area f) g h = absurd (both_ways (is_corner_of t p m) (not-true (is_corner_of t p m) (h.0 m)) g)
one_place t ok apart p (Border d) (Corner n) g h = absurd (both_ways (is_corner_of t p n) (not-true (is_corner_of t p n) (g.0 n)) h)
one_place t ok apart p (Border d) (Border e) g h = ap (λ k. Border k) (one_border t ok p apart g.0 d e g.1 h.1)
one_place t ok apart p (Border d) (Area f) g h = absurd (both_ways (is_border_of t p d) (not-true (is_border_of t p d) (h.1 d)) g.1)
one_place t ok apart p (Area f) (Corner n) g h = absurd (both_ways (is_corner_of t p n) (not-true (is_corner_of t p n) (g.0 n)) h)
one_place t ok apart p (Area f) (Border e) g h = absurd (both_ways (is_border_of t p e) (not-true (is_border_of t p e) (g.1 e)) h.1)
one_place t ok apart p (Area e) (Area f) g h = ap (λ k. Area k) (floor-unique t p e f g.2 h.2)
