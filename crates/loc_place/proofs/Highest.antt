-- The highest of the edges under a point, one edge after another.
use Rattle.std.proofs.Common.{◌≡◌, ◌≢◌, ℕ, ◌+◌, ◌<◌, true, false, not, ◌&&◌, length, sym, subst, ◌⊎◌, inl, inr, arith, Option, Some, None}
use Rattle.std.specs.Prelude.{nat_lt}
use Rattle.std.proofs.lemmas.Bool.{and_parts, and_from, and_left, and_right, both_ways, cases_Bool, cases_eq, cond-true, cond-false, ltb-true, lt-ltb, le-ltb, not-true, not_from_false}
use Rattle.loc_spec_plane.specs.{Points.Point, Points.is_above, Tables.Table, Tables.edge}
use Rattle.loc_spec_plane.specs.Places.{alive_at, lower_of, IsHighest}
use Rattle.loc_laws_order.proofs.AliveAt.{alive_parts, lower_passes, one_is_lower}
use Rattle.loc_place.specs.{Found.is_under, Found.higher_of, Found.with_edge, Planar.IsPlanar}

-- the highest of those of the first n edges that are under p
abbrev pub IsHighestAmong : Table → Point → ℕ → Option ℕ → Type 0
IsHighestAmong t p n = IsHighest t (λ e. nat_lt e n && is_under t p e)

module _ (t : Table) (p : Point) where
  -- an edge under p is alive at p
  under_alive : (e : ℕ) → is_under t p e ≡ true → alive_at t p e ≡ true
  under_alive e under = (and_parts (alive_at t p e) (is_above (edge t e) p) under).0

  -- so it has a number of the table
  pub under_fits : (e : ℕ) → is_under t p e ≡ true → e < length t.ends
  under_fits e under = (alive_parts t p e (under_alive e under)).0

  -- below n + 1 and not n is below n
  earlier : (e n : ℕ) → (nat_lt e (n + 1) && is_under t p e) ≡ true → e ≢ n → (nat_lt e n && is_under t p e) ≡ true
  earlier e n h other =
      let parts = and_parts (nat_lt e (n + 1)) (is_under t p e) h in
      let below : e < n + 1 = ltb-true e (n + 1) parts.0 in
      and_from (nat_lt e n) (is_under t p e) (lt-ltb e n (omega arith)) parts.1

  later : (e n : ℕ) → (nat_lt e n && is_under t p e) ≡ true → (nat_lt e (n + 1) && is_under t p e) ≡ true
  later e n h =
      let parts = and_parts (nat_lt e n) (is_under t p e) h in
      let below : e < n = ltb-true e n parts.0 in
      and_from (nat_lt e (n + 1)) (is_under t p e) (lt-ltb e (n + 1) (omega arith)) parts.1

  last : (n : ℕ) → is_under t p n ≡ true → (nat_lt n (n + 1) && is_under t p n) ≡ true
  last n under = and_from (nat_lt n (n + 1)) (is_under t p n) (lt-ltb n (n + 1) (omega arith)) under

  -- an edge that is not under p changes nothing
  pub highest_stays : (n : ℕ) (highest : Option ℕ) → is_under t p n ≡ false → IsHighestAmong t p n highest → IsHighestAmong t p (n + 1) highest
  highest_stays n None off none = λ e. at e (cases_eq e n)
    where
      at : (e : ℕ) → (e ≡ n) ⊎ (e ≡ n → ⊥) → not (nat_lt e (n + 1) && is_under t p e) ≡ true
      at e (inl same) = not_from_false _ (and_right (nat_lt e (n + 1)) (is_under t p e) (subst (λ k. is_under t p k ≡ false) (sym same) off))
      at e (inr other) = elim (cases_Bool (nat_lt e (n + 1) && is_under t p e)) [
        | inl here ↦ absurd (both_ways _ (not-true _ (none e)) (earlier e n here other))
        | inr there ↦ not_from_false _ there
      ]
  highest_stays n (Some h) off best = (later h n best.0, λ e here other. best.1 e (earlier e n here (λ same. both_ways (is_under t p n) off (subst (λ k. is_under t p k ≡ true) same (and_parts (nat_lt e (n + 1)) (is_under t p e) here).1))) other)

  module _ (planar : IsPlanar t) where
    -- of two edges under p that is not lower is higher
    other_lower : (a b : ℕ) → is_under t p a ≡ true → is_under t p b ≡ true → a ≢ b → lower_of t a b ≡ false → lower_of t b a ≡ true
    other_lower a b under_a under_b other not_low = elim (one_is_lower t planar.apart planar.in_order p a b (under_alive a under_a) (under_alive b under_b) other) [
      | inl low ↦ absurd (both_ways (lower_of t a b) not_low low)
      | inr high ↦ high
    ]

    -- the higher of the highest so far and an edge under p
    pub highest_rises : (n : ℕ) (highest : Option ℕ) → is_under t p n ≡ true → IsHighestAmong t p n highest → IsHighestAmong t p (n + 1) (Some (higher_of t highest n))
    highest_rises n None under none = (last n under, λ e here other. absurd (both_ways _ (not-true _ (none e)) (earlier e n here other)))
    highest_rises n (Some h) under best = at (cases_Bool (lower_of t h n))
      where
        under_h : is_under t p h ≡ true
        under_h = (and_parts (nat_lt h n) (is_under t p h) best.0).1

        under_n : (e : ℕ) → (nat_lt e (n + 1) && is_under t p e) ≡ true → e ≢ n → lower_of t h n ≡ true → lower_of t e n ≡ true
        under_n e here other low = elim (cases_eq e h) [
          | inl same ↦ subst (λ k. lower_of t k n ≡ true) (sym same) low
          | inr differ ↦ lower_passes t planar.apart p e h n (under_alive e (and_parts (nat_lt e (n + 1)) (is_under t p e) here).1) (under_alive h under_h) (under_alive n under) (best.1 e (earlier e n here other) differ) low
        ]

        stays_under : (e : ℕ) → (nat_lt e (n + 1) && is_under t p e) ≡ true → e ≢ h → lower_of t h n ≡ false → lower_of t e h ≡ true
        stays_under e here other not_low = elim (cases_eq e n) [
          | inl same ↦ subst (λ k. lower_of t k h ≡ true) (sym same) (other_lower h n under_h under (λ e. omega arith) not_low)
          | inr differ ↦ best.1 e (earlier e n here differ) other
        ]

        at : (lower_of t h n ≡ true) ⊎ (lower_of t h n ≡ false) → IsHighestAmong t p (n + 1) (Some (higher_of t (Some h) n))
        at (inl low) = subst (λ k. IsHighestAmong t p (n + 1) (Some k)) (sym (cond-true (lower_of t h n) n h low)) (last n under, λ e here other. under_n e here other low)
        at (inr not_low) = subst (λ k. IsHighestAmong t p (n + 1) (Some k)) (sym (cond-false (lower_of t h n) n h not_low)) (later h n best.0, λ e here other. stays_under e here other not_low)

    -- the highest with one more edge
    pub highest_more : (n : ℕ) (highest : Option ℕ) → IsHighestAmong t p n highest → IsHighestAmong t p (n + 1) (with_edge t p highest n)
    highest_more n highest best = at (cases_Bool (is_under t p n))
      where
        at : (is_under t p n ≡ true) ⊎ (is_under t p n ≡ false) → IsHighestAmong t p (n + 1) (with_edge t p highest n)
        at (inl under) = subst (λ o. IsHighestAmong t p (n + 1) o) (sym (cond-true (is_under t p n) (Some (higher_of t highest n)) highest under)) (highest_rises n highest under best)
        at (inr off) = subst (λ o. IsHighestAmong t p (n + 1) o) (sym (cond-false (is_under t p n) (Some (higher_of t highest n)) highest off)) (highest_stays n highest off best)

  -- before the first edge there is no highest
  pub highest_first : IsHighestAmong t p 0 None
  highest_first = λ e. not_from_false _ (and_left (nat_lt e 0) (is_under t p e) (le-ltb e 0 (omega arith)))
