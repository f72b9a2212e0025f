-- An edge hits another exactly where its deciding end is on the other's line, and then the two touch.
use Rattle.std.proofs.Common.{◌≡◌, true, false, not, ◌&&◌, sym, ◌∙◌, ap, subst, inl, inr}
use Rattle.std.proofs.lemmas.Bool.{cases_Bool, and_parts, and_from, and_left, and_right, or_cases, or_left, or_right, or_from, both_ways, not-true, not_from_false, false_from_ne_true, cond-true, cond-false}
use Rattle.loc_spec_plane.specs.Points.{Point, Edge, before, up_to, same_point, same_edge, is_above, is_on, is_below, is_end, lies_on, inside, ends_inside, touch}
use Rattle.loc_spec_plane.specs.Places.{alive}
use Rattle.loc_laws_order.proofs.Sides.{before_either, same_point-true, same_point_refl, same_point_sym, before_decides, before-differ, before-asym_test, same-from_neither, on-not_above, on-not_below}
use Rattle.loc_geom.proofs.Symmetry.{on_flip}
use Rattle.loc_edges.specs.Placing.{hits, deciding_end}

-- one point, either way round
same_swap : (p q : Point) → same_point p q ≡ true → same_point q p ≡ true
same_swap p q h = subst (λ r. same_point r p ≡ true) (same_point-true p q h) (same_point_refl p)

-- a point on the line through an edge and between its ends lies inside it
between_inside : (e : Edge) (p : Point) → is_on e p ≡ true → before e.lo p ≡ true → before p e.hi ≡ true → inside e p ≡ true
between_inside e p on_line from to = and_from (lies_on e p) (not (is_end e p))
    (and_from (is_on e p && up_to e.lo p) (up_to p e.hi) (and_from (is_on e p) (up_to e.lo p) on_line (not_from_false (before p e.lo) (before-asym_test e.lo p from))) (not_from_false (before e.hi p) (before-asym_test p e.hi to)))
    (not_from_false (is_end e p) (or_from (same_point p e.lo) (same_point p e.hi) (same_point_sym p e.lo (before-differ e.lo p from)) (before-differ p e.hi to)))

module _ (a b : Edge) where
  -- where the sweep line at b's lower end meets a, and the two do not begin together, that end comes after a's
  begins_later : alive a b.lo ≡ true → same_point a.lo b.lo ≡ false → before a.lo b.lo ≡ true
  begins_later live apart_lo = before_either b.lo a.lo (same_point_sym b.lo a.lo apart_lo) (not-true (before b.lo a.lo) (and_parts (up_to a.lo b.lo) (before b.lo a.hi) live).0)

  -- b hits a where its deciding end is on the line
  pub on-hits : alive a b.lo ≡ true → is_on a (deciding_end a b) ≡ true → hits a b ≡ true
  on-hits live on_line = elim (cases_Bool (same_point a.lo b.lo)) [
    | inl common ↦ or_right (inside a b.lo) (same_point a.lo b.lo && is_on a b.hi) (and_from (same_point a.lo b.lo) (is_on a b.hi) common (sym (ap (is_on a) (cond-true _ b.hi b.lo common)) ∙ on_line))
    | inr apart_lo ↦ or_left (inside a b.lo) (same_point a.lo b.lo && is_on a b.hi) (between_inside a b.lo (sym (ap (is_on a) (cond-false _ b.hi b.lo apart_lo)) ∙ on_line) (begins_later live apart_lo) (and_parts (up_to a.lo b.lo) (before b.lo a.hi) live).1)
  ]

  -- and not where it is off the line
  off-misses : is_on a (deciding_end a b) ≡ false → hits a b ≡ false
  off-misses off_line = elim (cases_Bool (same_point a.lo b.lo)) [
    | inl common ↦ or_from (inside a b.lo) (same_point a.lo b.lo && is_on a b.hi)
        (and_right (lies_on a b.lo) (not (is_end a b.lo)) (let at_end : is_end a b.lo ≡ true = or_left (same_point b.lo a.lo) (same_point b.lo a.hi) (same_swap a.lo b.lo common) in ap not at_end))
        (and_right (same_point a.lo b.lo) (is_on a b.hi) (sym (ap (is_on a) (cond-true _ b.hi b.lo common)) ∙ off_line))
    | inr apart_lo ↦ or_from (inside a b.lo) (same_point a.lo b.lo && is_on a b.hi)
        (and_left (lies_on a b.lo) (not (is_end a b.lo)) (and_left (is_on a b.lo && up_to a.lo b.lo) (up_to b.lo a.hi) (and_left (is_on a b.lo) (up_to a.lo b.lo) (sym (ap (is_on a) (cond-false _ b.hi b.lo apart_lo)) ∙ off_line))))
        (and_left (same_point a.lo b.lo) (is_on a b.hi) apart_lo)
  ]

  -- b misses a where its deciding end is above the line
  pub above-misses : is_above a (deciding_end a b) ≡ true → not (hits a b) ≡ true
  above-misses side = not_from_false (hits a b) (off-misses (false_from_ne_true (is_on a (deciding_end a b)) (λ h. both_ways (is_above a (deciding_end a b)) (on-not_above a (deciding_end a b) h) side)))

  -- and where it is below
  pub below-misses : is_below a (deciding_end a b) ≡ true → not (hits a b) ≡ true
  below-misses side = not_from_false (hits a b) (off-misses (false_from_ne_true (is_on a (deciding_end a b)) (λ h. both_ways (is_below a (deciding_end a b)) (on-not_below a (deciding_end a b) h) side)))

  -- of two different edges that begin at one point in one direction, one ends inside the other
  collinear-touch : before a.lo a.hi ≡ true → before b.lo b.hi ≡ true → same_edge a b ≡ false → same_point a.lo b.lo ≡ true → is_on a b.hi ≡ true → touch a b ≡ true
  collinear-touch up_a up_b other common on_line =
      let same = same_point-true a.lo b.lo common in
      elim (cases_Bool (before b.hi a.hi)) [
        | inl shorter ↦ or_right (ends_inside a b) (ends_inside b a) (or_right (inside a b.lo) (inside a b.hi) (between_inside a b.hi on_line (subst (λ r. before r b.hi ≡ true) (sym same) up_b) shorter))
        | inr not_shorter ↦ elim (cases_Bool (before a.hi b.hi)) [
          | inl longer ↦ or_left (ends_inside a b) (ends_inside b a) (or_right (inside b a.lo) (inside b a.hi) (between_inside b a.hi (sym (on_flip a b common) ∙ on_line) (subst (λ r. before r a.hi ≡ true) same up_a) longer))
          | inr not_longer ↦ absurd (both_ways (same_edge a b) other (and_from (same_point a.lo b.lo) (same_point a.hi b.hi) common (
              let same_hi : a.hi ≡ b.hi = same-from_neither a.hi b.hi (λ k. both_ways (before a.hi b.hi) not_longer ((before_decides a.hi b.hi).1 k)) (λ k. both_ways (before b.hi a.hi) not_shorter ((before_decides b.hi a.hi).1 k)) in
              subst (λ r. same_point a.hi r ≡ true) same_hi (same_point_refl a.hi))))
        ]
      ]

  -- edges of which one hits the other touch
  pub hits-touch : before a.lo a.hi ≡ true → before b.lo b.hi ≡ true → same_edge a b ≡ false → hits a b ≡ true → touch a b ≡ true
  hits-touch up_a up_b other hit = elim (or_cases (inside a b.lo) (same_point a.lo b.lo && is_on a b.hi) hit) [
    | inl begins_on ↦ or_right (ends_inside a b) (ends_inside b a) (or_left (inside a b.lo) (inside a b.hi) begins_on)
    | inr along ↦ (let parts = and_parts (same_point a.lo b.lo) (is_on a b.hi) along in collinear-touch up_a up_b other parts.0 parts.1)
  ]
