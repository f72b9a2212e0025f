-- The edges of a table that are alive at a point: which they are, and that lower passes on among them.
use Rattle.std.proofs.Common.{◌≡◌, ℕ, ◌+◌, ◌<◌, ◌≤◌, Bool, true, false, not, ◌&&◌, [], ◌∷◌, length, refl, sym, ◌∙◌, ap, ◌⊎◌, inl, inr, arith}
use Rattle.std.specs.Prelude.{nat_lt}
use Rattle.std.proofs.lemmas.Bool.{and_parts, and_from, and_left, and_cases, both_ways, cases_lt, le-ltb, lt-ltb, ltb-true, not-true, not_from_true}
use Rattle.loc_spec_plane.specs.Points.{Point, before, up_to, same_point, conflict}
use Rattle.loc_spec_plane.specs.Tables.{Table, IsTable, NoConflict, corner, edge, lo_of, hi_of}
use Rattle.loc_spec_plane.specs.Places.{alive, alive_at, is_edge, lower_of, is_corner_of, IsCornerless}
use Rattle.loc_laws_order.proofs.{ChainLaws.chain_lower, PairLaws.order_is_total}
use Rattle.loc_laws_order.proofs.TableOrder.{corner_before, corner_up_to, different}

-- how many of the corners are at or before p: exactly the first n
pub record IsPassed (t : Table) (p : Point) (n : ℕ) : Type 0 where
  pub passed : (j : ℕ) → j < length t.corners → up_to (corner t j) p ≡ nat_lt j n

module _ (t : Table) where
  -- edge e begins at one of the first n corners, and ends at none of them
  abbrev pub alive_past : ℕ → ℕ → Bool
  alive_past n e = nat_lt (lo_of t e) n && not (nat_lt (hi_of t e) n)

  -- an edge that is alive somewhere has a number in range, and is alive there by its points
  pub alive_parts : (p : Point) (e : ℕ) → alive_at t p e ≡ true → (e < length t.ends) × (alive (edge t e) p ≡ true)
  alive_parts p e h = let parts = and_parts (is_edge t e) (alive (edge t e) p) h in (ltb-true e (length t.ends) parts.0, parts.1)

  -- and back
  pub alive_from : (p : Point) (e : ℕ) → e < length t.ends → alive (edge t e) p ≡ true → alive_at t p e ≡ true
  alive_from p e fits live = and_from (is_edge t e) (alive (edge t e) p) (lt-ltb e (length t.ends) fits) live

  -- no corner is a point without a corner
  pub not_corner : (p : Point) → IsCornerless t p → (n : ℕ) → n < length t.corners → same_point (corner t n) p ≡ false
  not_corner p clear n fits = elim (and_cases (nat_lt n (length t.corners)) (same_point (corner t n) p) (not-true (is_corner_of t p n) (clear n))) [ inl past ↦ absurd (both_ways (nat_lt n (length t.corners)) past (lt-ltb n (length t.corners) fits)) | inr differ ↦ differ ]

  module _ (apart : NoConflict t) where
    -- no two edges conflict
    pub quiet : (a b : ℕ) → a < length t.ends → b < length t.ends → conflict (edge t a) (edge t b) ≡ false
    quiet a b fits_a fits_b = not-true (conflict (edge t a) (edge t b)) (apart a b fits_a fits_b)

    -- of edges alive at one point, lower passes on
    pub lower_passes : (p : Point) (a b c : ℕ) → alive_at t p a ≡ true → alive_at t p b ≡ true → alive_at t p c ≡ true → lower_of t a b ≡ true → lower_of t b c ≡ true → lower_of t a c ≡ true
    lower_passes p a b c live_a live_b live_c first second =
        let ga = alive_parts p a live_a in
        let gb = alive_parts p b live_b in
        let gc = alive_parts p c live_c in
        chain_lower (edge t a ∷ edge t b ∷ edge t c ∷ []) p
        (and_from _ _ (and_from _ _ ga.1 (and_from _ _ gb.1 (and_from _ true gc.1 refl)))
        (and_from _ _ (and_from _ _ first (apart a b ga.0 gb.0)) (and_from _ true (and_from _ _ second (apart b c gb.0 gc.0)) refl)))
        0 2 (edge t a) (edge t c) (omega arith) refl refl (quiet a c ga.0 gc.0)

    -- of two different ones, one is lower
    pub one_is_lower : IsTable t → (p : Point) (a b : ℕ) → alive_at t p a ≡ true → alive_at t p b ≡ true → (a ≡ b → ⊥) → (lower_of t a b ≡ true) ⊎ (lower_of t b a ≡ true)
    one_is_lower ok p a b live_a live_b other =
        let ga = alive_parts p a live_a in
        let gb = alive_parts p b live_b in
        order_is_total (edge t a) (edge t b) p ga.1 gb.1 (different t ok a b ga.0 gb.0 other) (quiet a b ga.0 gb.0)

  module _ (ok : IsTable t) where
    -- an edge is alive at a corner between its ends
    pub alive_between : (c e : ℕ) → e < length t.ends → lo_of t e ≤ c → c < hi_of t e → alive (edge t e) (corner t c) ≡ true
    alive_between c e fits from to =
        let up = ok.goes_up e fits in
        and_from (up_to (corner t (lo_of t e)) (corner t c)) (before (corner t c) (corner t (hi_of t e))) (corner_up_to t ok (lo_of t e) c from (omega (arith, up.1))) (corner_before t ok c (hi_of t e) to up.1)

    -- corner i has passed the corners up to itself
    pub at_corner : (i : ℕ) → i < length t.corners → IsPassed t (corner t i) (i + 1)
    at_corner i lt = record {
      passed = λ j fits. elim (cases_lt i j) [
        | inl later ↦ not_from_true (before (corner t i) (corner t j)) (corner_before t ok i j later fits) ∙ sym (le-ltb j (i + 1) (omega arith))
        | inr le ↦ corner_up_to t ok j i le lt ∙ sym (lt-ltb j (i + 1) (omega arith))
      ];
    }

    -- where n corners are passed, those edges are alive
    pub alive_is : (p : Point) (n e : ℕ) → IsPassed t p n → e < length t.ends → alive (edge t e) p ≡ alive_past n e
    alive_is p n e counted fits =
        let up = ok.goes_up e fits in
        ap (λ b. b && before p (corner t (hi_of t e))) (counted.passed (lo_of t e) (omega arith))
        ∙ ap (λ b. nat_lt (lo_of t e) n && b) (twice (before p (corner t (hi_of t e))) ∙ ap not (counted.passed (hi_of t e) up.1))
      where
        twice : (b : Bool) → b ≡ not (not b)
        twice true = refl
        twice false = refl

    -- the same for any number
    pub alive_at_is : (p : Point) (n e : ℕ) → IsPassed t p n → alive_at t p e ≡ (is_edge t e && alive_past n e)
    alive_at_is p n e counted = elim (cases_lt e (length t.ends)) [
      | inl fits ↦ ap (λ b. is_edge t e && b) (alive_is p n e counted fits)
      | inr past ↦ and_left (is_edge t e) (alive (edge t e) p) (le-ltb e (length t.ends) past) ∙ sym (and_left (is_edge t e) (alive_past n e) (le-ltb e (length t.ends) past))
    ]

    -- at corner c are alive those that begin there or before it, and end behind it
    pub alive_at_corner : (c : ℕ) → c < length t.corners → (e : ℕ) → alive_at t (corner t c) e ≡ (is_edge t e && alive_past (c + 1) e)
    alive_at_corner c fits e = alive_at_is (corner t c) (c + 1) e (at_corner c fits)
