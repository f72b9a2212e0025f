-- Going round: the least half-edge of the orbit of each half-edge of a round is the first.
use Rattle.std.proofs.Common.{◌≡◌, ◌≢◌, ℕ, zero, suc, ◌+◌, ◌-◌, ◌<◌, ◌≤◌, List, [], ◌∷◌, length, refl, sym, ◌∙◌, ap, subst, inl, inr, arith}
use Rattle.std.specs.Prelude.{◌==◌}
use Rattle.std.proofs.lemmas.Bool.{cases_Bool, cases_eq, cond-true, cond-false, ne_eqb}
use Rattle.loc_spec_plane.specs.{Lists.least_of, HalfEdges.way_to}
use Rattle.loc_half.specs.Rounds.{next_of, after, IsRound, leader_among}

pub least_of-le : (n : ℕ) (ms : List ℕ) → least_of n ms ≤ n
least_of-le n [] = omega arith
least_of-le n (m ∷ ms) = omega arith

module _ (next : ℕ → ℕ) where
  -- a step first, or last
  pub after-next : (k h : ℕ) → after next k (next h) ≡ next (after next k h)
  after-next zero h = refl
  after-next (suc k) h = ap next (after-next k h)

  -- steps add up
  pub after-add : (a b h : ℕ) → after next a (after next b h) ≡ after next (a + b) h
  after-add zero b h = let e : b ≡ 0 + b = omega arith in ap (λ k. after next k h) e
  after-add (suc a) b h = let e : suc (a + b) ≡ suc a + b = omega arith in ap next (after-add a b h) ∙ ap (λ k. after next k h) e

  -- a way within a set that next does not leave is not below what is not above the set
  way-above : (Here : ℕ → Type 0) → ((x : ℕ) → Here x → Here (next x)) → (low : ℕ) → ((x : ℕ) → Here x → low ≤ x) → (d g fuel x : ℕ) → low ≤ d → Here x → low ≤ least_of d (way_to next g fuel x)
  way-above Here stays low bound d g zero x le here = le
  way-above Here stays low bound d g (suc fuel) x le here = elim (cases_Bool (x == g)) [
    | inl stop ↦ subst (λ ms. low ≤ least_of d ms) (sym (cond-true (x == g) [] (x ∷ way_to next g fuel (next x)) stop)) le
    | inr on ↦ subst (λ ms. low ≤ least_of d ms) (sym (cond-false (x == g) [] (x ∷ way_to next g fuel (next x)) on))
        (let rest = way-above Here stays low bound x g fuel (next x) (bound x here) (stays x here) in omega (arith, le, rest))
  ]

  -- a way is not above what it meets before g
  way-below : (d g steps fuel x : ℕ) → steps < fuel → ((s : ℕ) → s ≤ steps → after next s x ≢ g) → least_of d (way_to next g fuel x) ≤ after next steps x
  way-below d g steps zero x lt off = absurd (omega arith)
  way-below d g zero (suc fuel) x lt off =
      subst (λ ms. least_of d ms ≤ x) (sym (cond-false (x == g) [] (x ∷ way_to next g fuel (next x)) (ne_eqb x g (off 0 (omega arith)))))
      (let first = least_of-le x (way_to next g fuel (next x)) in omega (arith, first))
  way-below d g (suc steps) (suc fuel) x lt off =
      subst (λ ms. least_of d ms ≤ after next (suc steps) x) (sym (cond-false (x == g) [] (x ∷ way_to next g fuel (next x)) (ne_eqb x g (off 0 (omega arith)))))
      (let rest = way-below x g steps fuel (next x) (omega arith) (λ s le at. off (suc s) (omega arith) (sym (after-next s x) ∙ at)) in
      omega (arith, rest, after-next steps x))

module _ (nexts : List ℕ) (first period : ℕ) (round : IsRound nexts first period) where
  -- x is on the round
  abbrev IsOn : ℕ → Type 0
  IsOn x = (j : ℕ) × (j < period) × (x ≡ after (next_of nexts) j first)

  on-next : (x : ℕ) → IsOn x → IsOn (next_of nexts x)
  on-next x on = let lt = on.1 in elim (cases_eq (suc on.0) period) [
    | inl last ↦ (0, omega (arith, lt), ap (next_of nexts) on.2 ∙ (ap (λ k. after (next_of nexts) k first) last ∙ round.closes))
    | inr other ↦ (let ne : suc on.0 ≢ period = other in (suc on.0, omega (arith, ne, lt), ap (next_of nexts) on.2))
  ]

  on-least : (x : ℕ) → IsOn x → first ≤ x
  on-least x on = subst (λ y. first ≤ y) (sym on.2) (round.least on.0 on.1)

  module _ (place : ℕ) (within : place < period) where
    -- some steps on
    on-from : (s : ℕ) → after (next_of nexts) s (next_of nexts (after (next_of nexts) place first)) ≡ after (next_of nexts) (s + suc place) first
    on-from s = after-add (next_of nexts) s (suc place) first

    away : (s : ℕ) → s ≤ period - suc place → 0 < place → after (next_of nexts) s (next_of nexts (after (next_of nexts) place first)) ≢ after (next_of nexts) place first
    away s le behind at = elim (cases_eq (s + suc place) period) [
      | inl last ↦ round.apart 0 place behind within (sym round.closes ∙ (ap (λ k. after (next_of nexts) k first) (sym last) ∙ (sym (on-from s) ∙ at)))
      | inr other ↦ (let ne : s + suc place ≢ period = other in round.apart place (s + suc place) (omega arith) (omega (arith, ne)) (sym at ∙ on-from s))
    ]

    at_most : leader_among (length nexts) (next_of nexts) (after (next_of nexts) place first) ≤ first
    at_most = elim (cases_eq place 0) [
      | inl start ↦ (let e : after (next_of nexts) place first ≡ first = ap (λ k. after (next_of nexts) k first) start in omega (arith, e))
      | inr other ↦ (let ne : place ≢ 0 = other in
          let met = way-below (next_of nexts) (after (next_of nexts) place first) (after (next_of nexts) place first) (period - suc place) (length nexts) (next_of nexts (after (next_of nexts) place first)) (omega (arith, round.few)) (λ s le. away s le (omega (arith, ne))) in
          let steps : (period - suc place) + suc place ≡ period = omega arith in
          let back : after (next_of nexts) (period - suc place) (next_of nexts (after (next_of nexts) place first)) ≡ first = on-from (period - suc place) ∙ (ap (λ k. after (next_of nexts) k first) steps ∙ round.closes) in
          omega (arith, met, back))
    ]

    at_least : first ≤ leader_among (length nexts) (next_of nexts) (after (next_of nexts) place first)
    at_least =
        let low = on-least (after (next_of nexts) place first) (place, within, refl) in
        let rest = way-above (next_of nexts) IsOn on-next first on-least (after (next_of nexts) place first) (after (next_of nexts) place first) (length nexts) (next_of nexts (after (next_of nexts) place first)) low (on-next (after (next_of nexts) place first) (place, within, refl)) in
        omega (arith, low, rest)

    -- the leader of each half-edge of the round is the first
    pub leader_on_round : leader_among (length nexts) (next_of nexts) (after (next_of nexts) place first) ≡ first
    leader_on_round = let low = at_least in let high = at_most in omega (arith, low, high)
