-- Half-edges by number: their edges, and the corners at which they arrive and leave.
use Rattle.std.proofs.Common.{◌≡◌, ◌≢◌, ℕ, ◌+◌, ◌*◌, ◌%◌, ◌<◌, true, false, length, sym, ◌∙◌, ap, ◌⊎◌, inl, inr, arith}
use Rattle.std.specs.Prelude.{◌==◌}
use Rattle.std.proofs.lemmas.Bool.{cases_eq, cond-true, cond-false, cond_both, eq-eqb, ne_eqb, eqb-true, or_cases, or_left, or_right, both_ways}
use Rattle.loc_spec_plane.specs.Tables.{Table, IsTable, lo_of, hi_of, ends_at}
use Rattle.loc_spec_plane.specs.HalfEdges.{half_edge_count, edge_of, goes_up, origin, target, leaving}
use Rattle.loc_laws_order.proofs.HalfEdges.{edge-up, edge-down, up-goes_up, down-goes_up}
use Rattle.loc_half.specs.Turns.{arriving}

-- a half-edge goes up or down its edge
pub either_way : (h : ℕ) → ((goes_up h ≡ true) × (h ≡ 2 * edge_of h)) ⊎ ((goes_up h ≡ false) × (h ≡ 2 * edge_of h + 1))
either_way h = elim (cases_eq (h % 2) 0) [
  | inl even ↦ inl (eq-eqb (h % 2) 0 even, omega (arith, even))
  | inr odd ↦ (let ne : h % 2 ≢ 0 = odd in inr (ne_eqb (h % 2) 0 odd, omega (arith, ne)))
]

module _ (t : Table) where
  pub target-up : (e : ℕ) → target t (2 * e) ≡ hi_of t e
  target-up e = cond-true (goes_up (2 * e)) (hi_of t (edge_of (2 * e))) (lo_of t (edge_of (2 * e))) (up-goes_up e) ∙ ap (hi_of t) (edge-up e)

  pub target-down : (e : ℕ) → target t (2 * e + 1) ≡ lo_of t e
  target-down e = cond-false (goes_up (2 * e + 1)) (hi_of t (edge_of (2 * e + 1))) (lo_of t (edge_of (2 * e + 1))) (down-goes_up e) ∙ ap (lo_of t) (edge-down e)

  -- the half-edge up an edge leaves its lower end
  pub origin-up : (e : ℕ) → origin t (2 * e) ≡ lo_of t e
  origin-up e = cond-true (goes_up (2 * e)) (lo_of t (edge_of (2 * e))) (hi_of t (edge_of (2 * e))) (up-goes_up e) ∙ ap (lo_of t) (edge-up e)

  -- and the one down its upper end
  pub origin-down : (e : ℕ) → origin t (2 * e + 1) ≡ hi_of t e
  origin-down e = cond-false (goes_up (2 * e + 1)) (lo_of t (edge_of (2 * e + 1))) (hi_of t (edge_of (2 * e + 1))) (down-goes_up e) ∙ ap (hi_of t) (edge-down e)

  -- the edge of a half-edge of the table
  pub edge-fits : (h : ℕ) → h < half_edge_count t → edge_of h < length t.ends
  edge-fits h lt = omega (arith, lt)

  pub edge-arriving : (c e : ℕ) → edge_of (arriving t c e) ≡ e
  edge-arriving c e = cond_both (hi_of t e == c) (2 * e) (2 * e + 1) (λ h. edge_of h ≡ e) (λ _. edge-up e) (λ _. edge-down e)

  pub edge-leaving : (c e : ℕ) → edge_of (leaving t c e) ≡ e
  edge-leaving c e = cond_both (lo_of t e == c) (2 * e) (2 * e + 1) (λ h. edge_of h ≡ e) (λ _. edge-up e) (λ _. edge-down e)

  pub arriving-fits : (c e : ℕ) → e < length t.ends → arriving t c e < half_edge_count t
  arriving-fits c e lt = cond_both (hi_of t e == c) (2 * e) (2 * e + 1) (λ h. h < half_edge_count t) (λ _. omega (arith, lt)) (λ _. omega (arith, lt))

  pub leaving-fits : (c e : ℕ) → e < length t.ends → leaving t c e < half_edge_count t
  leaving-fits c e lt = cond_both (lo_of t e == c) (2 * e) (2 * e + 1) (λ h. h < half_edge_count t) (λ _. omega (arith, lt)) (λ _. omega (arith, lt))

  -- what leaves a corner by an edge that ends there has the corner as its origin
  pub origin-leaving : (c e : ℕ) → ends_at t c e ≡ true → origin t (leaving t c e) ≡ c
  origin-leaving c e ends = cond_both (lo_of t e == c) (2 * e) (2 * e + 1) (λ h. origin t h ≡ c)
      (λ low. origin-up e ∙ eqb-true (lo_of t e) c low)
      (λ not_low. origin-down e ∙ elim (or_cases (lo_of t e == c) (hi_of t e == c) ends) [
        | inl low ↦ absurd (both_ways (lo_of t e == c) not_low low)
        | inr high ↦ eqb-true (hi_of t e) c high
      ])

  -- what arrives there by the edge has it as its target
  pub target-arriving : (c e : ℕ) → ends_at t c e ≡ true → target t (arriving t c e) ≡ c
  target-arriving c e ends = cond_both (hi_of t e == c) (2 * e) (2 * e + 1) (λ h. target t h ≡ c)
      (λ high. target-up e ∙ eqb-true (hi_of t e) c high)
      (λ not_high. target-down e ∙ elim (or_cases (lo_of t e == c) (hi_of t e == c) ends) [
        | inl low ↦ eqb-true (lo_of t e) c low
        | inr high ↦ absurd (both_ways (hi_of t e == c) not_high high)
      ])

  -- the edge of a half-edge ends at its target
  pub ends-target : (h : ℕ) → ends_at t (target t h) (edge_of h) ≡ true
  ends-target h = elim (either_way h) [
    | inl up ↦ or_right (lo_of t (edge_of h) == target t h) (hi_of t (edge_of h) == target t h) (eq-eqb (hi_of t (edge_of h)) (target t h) (sym (cond-true (goes_up h) (hi_of t (edge_of h)) (lo_of t (edge_of h)) up.0)))
    | inr down ↦ or_left (lo_of t (edge_of h) == target t h) (hi_of t (edge_of h) == target t h) (eq-eqb (lo_of t (edge_of h)) (target t h) (sym (cond-false (goes_up h) (hi_of t (edge_of h)) (lo_of t (edge_of h)) down.0)))
  ]

  -- a half-edge is the one that arrives at its target by its edge
  pub arriving-target : IsTable t → (h : ℕ) → h < half_edge_count t → arriving t (target t h) (edge_of h) ≡ h
  arriving-target ok h lt = elim (either_way h) [
    | inl up ↦ cond-true (hi_of t (edge_of h) == target t h) (2 * edge_of h) (2 * edge_of h + 1) (eq-eqb (hi_of t (edge_of h)) (target t h) (sym (cond-true (goes_up h) (hi_of t (edge_of h)) (lo_of t (edge_of h)) up.0))) ∙ sym up.1
    | inr down ↦ (let at : target t h ≡ lo_of t (edge_of h) = cond-false (goes_up h) (hi_of t (edge_of h)) (lo_of t (edge_of h)) down.0 in
        let rises = (ok.goes_up (edge_of h) (edge-fits h lt)).0 in
        cond-false (hi_of t (edge_of h) == target t h) (2 * edge_of h) (2 * edge_of h + 1) (ne_eqb (hi_of t (edge_of h)) (target t h) (λ same. (let e : hi_of t (edge_of h) ≡ target t h = same in omega (arith, e, at, rises)))) ∙ sym down.1)
  ]

  -- a half-edge arrives at a corner of the table
  pub target-fits : IsTable t → (h : ℕ) → h < half_edge_count t → target t h < length t.corners
  target-fits ok h lt =
      let up = ok.goes_up (edge_of h) (edge-fits h lt) in
      let within = up.1 in
      cond_both (goes_up h) (hi_of t (edge_of h)) (lo_of t (edge_of h)) (λ c. c < length t.corners) (λ _. within) (λ _. omega (arith, up.0, within))
