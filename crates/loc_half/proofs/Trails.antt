-- So many steps from a half-edge on, as a list. Where they come back, and not before, the list is the cycle.
use Rattle.std.proofs.Common.{◌≡◌, ◌≢◌, ℕ, zero, suc, ◌<◌, ◌≤◌, true, List, [], ◌∷◌, refl, sym, ◌∙◌, ap, subst, inl, inr, arith}
use Rattle.std.specs.Prelude.{◌==◌}
use Rattle.std.proofs.lemmas.Bool.{cases_eq, cond-true, cond-false, eq-eqb, ne_eqb, eqb-true, or_cases, or_left, or_right, false_from_ne_true, true≢false}
use Rattle.loc_spec_plane.specs.{Lists.is_in, HalfEdges.way_to}
use Rattle.loc_half.specs.Rounds.{after}
use Rattle.loc_half.proofs.{Going.after-next, Permuting.AllDiffer}

-- so many half-edges, from x on
abbrev pub trail : (ℕ → ℕ) → ℕ → ℕ → List ℕ
trail next zero x = []
trail next (suc s) x = x ∷ trail next s (next x)

-- after so many steps, and not before, one is back, and on the way no half-edge comes twice
pub record IsOrbit (next : ℕ → ℕ) (h period : ℕ) : Type 0 where
  pub some : 0 < period
  pub closes : after next period h ≡ h
  pub apart : (i j : ℕ) → i < j → j < period → after next i h ≢ after next j h

module _ (next : ℕ → ℕ) where
  -- a way that comes to g after so many steps, and not before
  pub way-trail : (g s fuel x : ℕ) → s ≤ fuel → after next s x ≡ g → ((j : ℕ) → j < s → after next j x ≢ g) → way_to next g fuel x ≡ trail next s x
  way-trail g zero zero x le at off = refl
  way-trail g zero (suc fuel) x le at off = cond-true (x == g) [] (x ∷ way_to next g fuel (next x)) (eq-eqb x g at)
  way-trail g (suc s) zero x le at off = absurd (omega arith)
  way-trail g (suc s) (suc fuel) x le at off =
      cond-false (x == g) [] (x ∷ way_to next g fuel (next x)) (ne_eqb x g (off 0 (omega arith)))
      ∙ ap (λ l. x ∷ l) (way-trail g s fuel (next x) (omega (arith, le)) (after-next next s x ∙ at) (λ j lt e. off (suc j) (omega (arith, lt)) (sym (after-next next j x) ∙ e)))

  -- what one meets stands in the list
  pub in_trail : (s x j : ℕ) → j < s → is_in (after next j x) (trail next s x) ≡ true
  in_trail zero x j lt = absurd (omega arith)
  in_trail (suc s) x zero lt = or_left (x == x) (is_in x (trail next s (next x))) (eq-eqb x x refl)
  in_trail (suc s) x (suc j) lt = or_right (x == after next (suc j) x) (is_in (after next (suc j) x) (trail next s (next x)))
      (subst (λ y. is_in y (trail next s (next x)) ≡ true) (after-next next j x) (in_trail s (next x) j (omega (arith, lt))))

  -- and what stands there is met
  pub from_trail : (s x y : ℕ) → is_in y (trail next s x) ≡ true → (j : ℕ) × (j < s) × (after next j x ≡ y)
  from_trail zero x y here = absurd (true≢false (sym here))
  from_trail (suc s) x y here = elim (or_cases (x == y) (is_in y (trail next s (next x))) here) [
    | inl first ↦ (0, omega arith, eqb-true x y first)
    | inr more ↦ (let rest = from_trail s (next x) y more in let lt = rest.1 in (suc rest.0, omega (arith, lt), sym (after-next next rest.0 x) ∙ rest.2))
  ]

  pub trail_differs : (s x : ℕ) → ((i j : ℕ) → i < j → j < s → after next i x ≢ after next j x) → AllDiffer (trail next s x)
  trail_differs zero x apart = tt
  trail_differs (suc s) x apart = (
    false_from_ne_true (is_in x (trail next s (next x))) (λ here. (let found = from_trail s (next x) x here in let lt = found.1 in apart 0 (suc found.0) (omega arith) (omega (arith, lt)) (sym (sym (after-next next found.0 x) ∙ found.2)))),
    trail_differs s (next x) (λ i j less lt e. apart (suc i) (suc j) (omega (arith, less)) (omega (arith, lt)) (sym (after-next next i x) ∙ (e ∙ after-next next j x))),
  )

  -- the cycle of a half-edge, of n at most
  pub cycle_trail : (n h period : ℕ) → period ≤ n → IsOrbit next h period → h ∷ way_to next h n (next h) ≡ trail next period h
  cycle_trail n h zero few orbit = let some = orbit.some in absurd (omega (arith, some))
  cycle_trail n h (suc s) few orbit = ap (λ l. h ∷ l) (way-trail h s n (next h) (omega (arith, few)) (after-next next s h ∙ orbit.closes)
      (λ j lt e. orbit.apart 0 (suc j) (omega arith) (omega (arith, lt)) (sym (sym (after-next next j h) ∙ e))))

  -- what one meets on the orbit is met at some step before the period
  pub on_orbit : (h period k : ℕ) → IsOrbit next h period → (j : ℕ) × (j < period) × (after next j h ≡ after next k h)
  on_orbit h period zero orbit = (0, orbit.some, refl)
  on_orbit h period (suc k) orbit =
      let met = on_orbit h period k orbit in
      elim (cases_eq (suc met.0) period) [
        | inl last ↦ (0, orbit.some, sym orbit.closes ∙ (ap (λ j. after next j h) (sym last) ∙ ap next met.2))
        | inr other ↦ (let ne : suc met.0 ≢ period = other in (suc met.0, omega (arith, ne, met.1), ap next met.2))
      ]
