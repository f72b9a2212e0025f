-- What stands at or under an edge at its lower end is the edge itself and what stands there at or under the edge just below it.
use Rattle.std.proofs.Common.{◌≡◌, ◌≢◌, ℕ, zero, suc, ◌+◌, ◌<◌, ◌≤◌, Bool, true, false, not, ◌&&◌, ◌||◌, length, refl, sym, ◌∙◌, ap, subst, inl, inr, arith, Some, None}
use Rattle.std.specs.Prelude.{◌==◌}
use Rattle.std.proofs.lemmas.Bool.{and_parts, and_from, and_right, or_left, or_right, or_cases, cases_eq, false_from_ne_true, not_from_false, not-true, lt-ltb, eq-eqb, ne_eqb, eqb-true}
use Rattle.std.specs.List.{range_with_len}
use Rattle.loc_spec_plane.specs.{Lists.exactly_one, Lists.numbers, Lists.odd_many, Points.Point}
use Rattle.loc_spec_plane.specs.Tables.{Table, IsTable, AllEnds, AllEven, NoConflict, edge, has_odd, edge_numbers}
use Rattle.loc_spec_plane.specs.Places.{alive, alive_at, is_edge, lower_of, IsJustBelow}
use Rattle.loc_spec_plane.specs.Covers.{is_at_or_under, is_over}
use Rattle.loc_laws_rays.specs.Laws.{is_over_at}
use Rattle.loc_laws_order.proofs.{AliveAt.lower_passes, Sides.lower-asym, Sides.before_irrefl}
use Rattle.loc_laws_order.proofs.{Booleans.or_none, Booleans.same-from_both, TableOrder.edge_up}
use Rattle.loc_laws_rays.proofs.Parity.{odd_many-exactly_one, odd_many-same, exactly_one-false}
use Rattle.loc_laws_rays.proofs.Along.{parity_along}

module _ (t : Table) (ok : IsTable t) (apart : NoConflict t) where
  -- an edge is alive where it begins
  pub alive_at_begin : (e : ℕ) → e < length t.ends → alive_at t (edge t e).lo e ≡ true
  alive_at_begin e le = and_from (is_edge t e) (alive (edge t e) (edge t e).lo) (lt-ltb e (length t.ends) le) (and_from _ _ (not_from_false _ (before_irrefl (edge t e).lo)) (edge_up t ok e le))

  module _ (e : ℕ) (le : e < length t.ends) where
    abbrev here : Point
    here = (edge t e).lo

    -- at the lower end of e what is alive and lower than e is the edge just below it, or lower than that
    pub lower_than : (d x : ℕ) → IsJustBelow t e (Some d) → (alive_at t here x && lower_of t x e) ≡ ((x == d) || (alive_at t here x && lower_of t x d))
    lower_than d x below = same-from_both _ _ to back
      where
        d_parts : (alive_at t here d ≡ true) × (lower_of t d e ≡ true)
        d_parts = and_parts (alive_at t here d) (lower_of t d e) below.0

        to : (alive_at t here x && lower_of t x e) ≡ true → ((x == d) || (alive_at t here x && lower_of t x d)) ≡ true
        to h = elim (cases_eq x d) [
          | inl same ↦ or_left (x == d) _ (eq-eqb x d same)
          | inr other ↦ or_right (x == d) _ (and_from _ _ (and_parts (alive_at t here x) (lower_of t x e) h).0 (below.1 x h other))
        ]

        back : ((x == d) || (alive_at t here x && lower_of t x d)) ≡ true → (alive_at t here x && lower_of t x e) ≡ true
        back h = elim (or_cases (x == d) (alive_at t here x && lower_of t x d) h) [
          | inl same ↦ subst (λ k. (alive_at t here k && lower_of t k e) ≡ true) (sym (eqb-true x d same)) below.0
          | inr lower ↦ (let parts = and_parts (alive_at t here x) (lower_of t x d) lower in and_from _ _ parts.0 (lower_passes t apart here x d e parts.0 d_parts.0 (alive_at_begin e le) parts.1 d_parts.1))
        ]

-- ---- parity
-- a member that stands at another place than e
past_all : (f : ℕ → Bool) (e a n : ℕ) → e < a → odd_many (λ x. (x == e) && f x) (range_with_len a n) ≡ false
past_all f e a zero past = refl
past_all f e a (suc n) past = ap (λ b. exactly_one (b && f a) (odd_many (λ x. (x == e) && f x) (range_with_len (a + 1) n))) (ne_eqb a e (λ same. omega (arith, same))) ∙ past_all f e (a + 1) n (omega arith)

one_from : (f : ℕ → Bool) (e a n : ℕ) → a ≤ e → e < a + n → odd_many (λ x. (x == e) && f x) (range_with_len a n) ≡ f e
one_from f e a zero from lt = absurd (omega arith)
one_from f e a (suc n) from lt = elim (cases_eq a e) [
  | inl same ↦ ap (λ b. exactly_one (b && f a) (odd_many (λ x. (x == e) && f x) (range_with_len (a + 1) n))) (eq-eqb a e same)
      ∙ (ap (exactly_one (f a)) (past_all f e (a + 1) n (omega (arith, same))) ∙ (exactly_one-false (f a) ∙ ap f same))
  | inr other ↦ ap (λ b. exactly_one (b && f a) (odd_many (λ x. (x == e) && f x) (range_with_len (a + 1) n))) (ne_eqb a e other)
      ∙ one_from f e (a + 1) n (let ne : a ≢ e = other in omega arith) (omega arith)
]

-- of the numbers below n one alone is e
one_alone : (f : ℕ → Bool) (e n : ℕ) → e < n → odd_many (λ x. (x == e) && f x) (numbers n) ≡ f e
one_alone f e n lt = one_from f e 0 n (omega arith) (omega arith)

-- a test that is asked of e, or else of others that e is not among
split : (q b c m : Bool) → (q ≡ true → b ≡ false) → (q ≡ false → c ≡ b) → ((q || c) && m) ≡ exactly_one (q && m) (b && m)
split true b c true off same = sym (ap (λ v. not (v && true)) (off refl))
split true b c false off same = sym (and_right b false refl)
split false b c m off same = ap (λ v. v && m) (same refl)

module _ (t : Table) (ok : IsTable t) (ended : AllEnds t) (even : AllEven t) (apart : NoConflict t) (e : ℕ) (le : e < length t.ends) (f : ℕ) where
  -- over an edge are the features over the edge just below it, but for those that the edge marks odd, which are exchanged
  pub over_just_below : (d : ℕ) → IsJustBelow t e (Some d) → is_over t e f ≡ exactly_one (has_odd t f e) (is_over t d f)
  over_just_below d below =
      odd_many-same (λ x. is_at_or_under t e x && has_odd t f x) (λ x. exactly_one ((x == e) && has_odd t f x) (((x == d) || (alive_at t (edge t e).lo x && lower_of t x d)) && has_odd t f x)) (edge_numbers t)
      (λ x. split (x == e) ((x == d) || (alive_at t (edge t e).lo x && lower_of t x d)) (alive_at t (edge t e).lo x && lower_of t x e) (has_odd t f x)
      (λ at_e. subst (λ k. ((k == d) || (alive_at t (edge t e).lo k && lower_of t k d)) ≡ false) (sym (eqb-true x e at_e)) (sym (lower_than t ok apart e le d e below) ∙ and_right _ _ itself))
      (λ _. lower_than t ok apart e le d x below))
      ∙ (odd_many-exactly_one (λ x. (x == e) && has_odd t f x) (λ x. ((x == d) || (alive_at t (edge t e).lo x && lower_of t x d)) && has_odd t f x) (edge_numbers t)
      ∙ (ap (λ b. exactly_one b (is_over_at t (edge t e).lo d f)) (one_alone (has_odd t f) e (length t.ends) le)
      ∙ ap (exactly_one (has_odd t f e)) (parity_along t ok ended even apart (edge t e).lo d f (and_parts (alive_at t (edge t e).lo d) (lower_of t d e) below.0).0)))
    where
      itself : lower_of t e e ≡ false
      itself = false_from_ne_true (lower_of t e e) (λ h. lower-asym (edge t e) (edge t e) h h)

  -- over an edge with none below it are the features that it marks odd
  pub over_nothing : IsJustBelow t e None → is_over t e f ≡ has_odd t f e
  over_nothing below =
      odd_many-same (λ x. is_at_or_under t e x && has_odd t f x) (λ x. (x == e) && has_odd t f x) (edge_numbers t)
      (λ x. ap (λ b. b && has_odd t f x) (ap (λ b. (x == e) || b) (not-true _ (below x)) ∙ or_none (x == e)))
      ∙ one_alone (has_odd t f) e (length t.ends) le
