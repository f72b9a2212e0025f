-- The edges that a span meets and that are alive at its low point stand side by side in the list there: from the first edge that has the low point not
-- above it to the last that has the high point not below it.
use Rattle.std.proofs.Common.{◌≡◌, ℕ, true, false, not, ◌&&◌, ◌||◌, List, ◌++◌, length, filter, sym, ◌∙◌, ap, inl, inr, arith}
use Rattle.std.specs.Prelude.{◌==◌, ◌+◌}
use Rattle.std.specs.List.{list_all}
use Rattle.std.proofs.lemmas.Bool.{and_parts, and_from, or_cases, or_left, or_right, both_ways, cases_eq, le-ltb, lt-ltb, not-true, not_from_false}
use Rattle.std.proofs.{lemmas.List.Elements.filter_passes, lemmas.List.Sums.list_all-from_AllPass}
use Rattle.loc_spec_plane.specs.Lists.{is_in, is_rising, sorted_set, IsRisingListOf}
use Rattle.loc_spec_plane.specs.Points.{Point, before, up_to, is_above, is_below}
use Rattle.loc_spec_plane.specs.Tables.{Table, IsTable, NoConflict, edge, edge_numbers}
use Rattle.loc_spec_plane.specs.Places.{IsListAt, alive_at, is_edge, lower_of}
use Rattle.loc_laws_order.proofs.AliveAt.{alive_parts, lower_passes, one_is_lower, quiet}
use Rattle.loc_laws_order.proofs.{Booleans.same-from_both, Kept.is_in-range, Kept.is_in-filter}
use Rattle.loc_laws_order.proofs.{Sets.set_of, Sets.all_weaker, Sides.before-asym_test, Sides.lower-asym}
use Rattle.loc_laws_order.proofs.Tests.{up_to_trans}
use Rattle.loc_spec_plane.specs.Spans.{IsSpan, meets, is_met, is_on_line}
use Rattle.loc_laws_stab.proofs.{Columns.span_up, Pairs.above_lower, Pairs.below_higher}
use Rattle.loc_laws_stab.proofs.Parted.{is_in-append, rising-parts, one_list_of}

module _ (t : Table) (low high : Point) where
  -- what an edge that is met and alive at the low point is
  pub on_line_parts : (e : ℕ) → is_on_line t low high e ≡ true → (alive_at t low e ≡ true) × (is_above (edge t e) low ≡ false) × (is_below (edge t e) high ≡ false)
  on_line_parts e h =
      let parts = and_parts (is_met t low high e) (alive_at t low e) h in
      let met = and_parts (is_edge t e) (meets (edge t e) low high) parts.0 in
      let sides = and_parts (not (is_above (edge t e) low)) (not (is_below (edge t e) high)) (and_parts (up_to (edge t e).lo high && up_to low (edge t e).hi) (not (is_above (edge t e) low) && not (is_below (edge t e) high)) met.1).1 in
      (parts.1, not-true (is_above (edge t e) low) sides.0, not-true (is_below (edge t e) high) sides.1)

  -- and the other way
  pub on_line_from : IsSpan low high → (e : ℕ) → alive_at t low e ≡ true → is_above (edge t e) low ≡ false → is_below (edge t e) high ≡ false → is_on_line t low high e ≡ true
  on_line_from span e live not_above not_below =
      let alive_e = alive_parts t low e live in
      let ends = and_parts (up_to (edge t e).lo low) (before low (edge t e).hi) alive_e.1 in
      and_from (is_met t low high e) (alive_at t low e)
      (and_from (is_edge t e) (meets (edge t e) low high) (lt-ltb e (length t.ends) alive_e.0)
      (and_from (up_to (edge t e).lo high && up_to low (edge t e).hi) (not (is_above (edge t e) low) && not (is_below (edge t e) high))
      (and_from (up_to (edge t e).lo high) (up_to low (edge t e).hi) (up_to_trans (edge t e).lo low high ends.0 (span_up low high span)) (not_from_false (before (edge t e).hi low) (before-asym_test low (edge t e).hi ends.1)))
      (and_from (not (is_above (edge t e) low)) (not (is_below (edge t e) high)) (not_from_false (is_above (edge t e) low) not_above) (not_from_false (is_below (edge t e) high) not_below))))
      live

module _ (t : Table) (apart : NoConflict t) (low : Point) (es : List ℕ) (is_list : IsListAt t low es) where
  member_alive : (n : ℕ) → is_in n es ≡ true → alive_at t low n ≡ true
  member_alive n here = sym (is_list.exact n) ∙ here

  -- where the low point is above an edge of the list it is above each lower one
  pub above_before : (m n : ℕ) → is_in m es ≡ true → is_in n es ≡ true → lower_of t m n ≡ true → is_above (edge t n) low ≡ true → is_above (edge t m) low ≡ true
  above_before m n in_m in_n lower side =
      let gm = alive_parts t low m (member_alive m in_m) in
      let gn = alive_parts t low n (member_alive n in_n) in
      above_lower (edge t m) (edge t n) low gm.1 gn.1 (quiet t apart m n gm.0 gn.0) lower side

  module _ (high : Point) (span : IsSpan low high) where
    -- where the high point is below an edge of the list it is below each higher one
    pub below_behind : (m n : ℕ) → is_in m es ≡ true → is_in n es ≡ true → lower_of t m n ≡ true → is_below (edge t m) high ≡ true → is_below (edge t n) high ≡ true
    below_behind m n in_m in_n lower side =
        let gm = alive_parts t low m (member_alive m in_m) in
        let gn = alive_parts t low n (member_alive n in_n) in
        below_higher low high span (edge t m) (edge t n) gm.1 gn.1 (quiet t apart m n gm.0 gn.0) lower side

    -- the part of the list between those that have the low point above and those that have the high point below is what is met there
    pub run_is : (front run back : List ℕ) → front ++ (run ++ back) ≡ es → ((m : ℕ) → is_in m front ≡ true → is_above (edge t m) low ≡ true) → ((m : ℕ) → is_in m (run ++ back) ≡ true → is_above (edge t m) low ≡ false) → ((m : ℕ) → is_in m run ≡ true → is_below (edge t m) high ≡ false) → ((m : ℕ) → is_in m back ≡ true → is_below (edge t m) high ≡ true) → IsRisingListOf (lower_of t) (is_on_line t low high) run
    run_is front run back whole over not_over not_under under = record {
      rising = (rising-parts (lower_of t) run back (rising-parts (lower_of t) front (run ++ back) (ap (is_rising (lower_of t)) whole ∙ is_list.rising)).1).0;
      exact = λ n. same-from_both (is_in n run) (is_on_line t low high n) (to n) (from n);
    }
      where
        inside : (n : ℕ) → is_in n es ≡ (is_in n front || (is_in n run || is_in n back))
        inside n = ap (is_in n) (sym whole) ∙ (is_in-append n front (run ++ back) ∙ ap (λ b. is_in n front || b) (is_in-append n run back))

        to : (n : ℕ) → is_in n run ≡ true → is_on_line t low high n ≡ true
        to n here = on_line_from t low high span n
            (member_alive n (inside n ∙ or_right (is_in n front) (is_in n run || is_in n back) (or_left (is_in n run) (is_in n back) here)))
            (not_over n (is_in-append n run back ∙ or_left (is_in n run) (is_in n back) here))
            (not_under n here)

        from : (n : ℕ) → is_on_line t low high n ≡ true → is_in n run ≡ true
        from n h =
            let parts = on_line_parts t low high n h in
            elim (or_cases (is_in n front) (is_in n run || is_in n back) (sym (inside n) ∙ (is_list.exact n ∙ parts.0))) [
              | inl in_front ↦ absurd (both_ways (is_above (edge t n) low) parts.1 (over n in_front))
              | inr behind ↦ elim (or_cases (is_in n run) (is_in n back) behind) [
                | inl in_run ↦ in_run
                | inr in_back ↦ absurd (both_ways (is_below (edge t n) high) parts.2 (under n in_back))
              ]
            ]

-- the same list by sorting
module _ (t : Table) (ok : IsTable t) (apart : NoConflict t) (low high : Point) where
  one : (a b : ℕ) → alive_at t low a ≡ true → alive_at t low b ≡ true → lower_of t a b ≡ false → lower_of t b a ≡ false → a ≡ b
  one a b live_a live_b not_lower not_upper = elim (cases_eq a b) [
    | inl same ↦ same
    | inr other ↦ elim (one_is_lower t apart ok low a b live_a live_b other) [
      | inl is_lower ↦ absurd (both_ways (lower_of t a b) not_lower is_lower)
      | inr is_upper ↦ absurd (both_ways (lower_of t b a) not_upper is_upper)
    ]
  ]

  in_range : (n : ℕ) → (is_in n (edge_numbers t) && is_on_line t low high n) ≡ is_on_line t low high n
  in_range n = same-from_both (is_in n (edge_numbers t) && is_on_line t low high n) (is_on_line t low high n) (λ h. (and_parts (is_in n (edge_numbers t)) (is_on_line t low high n) h).1)
      (λ h. and_from (is_in n (edge_numbers t)) (is_on_line t low high n)
      (is_in-range 0 (length t.ends) n ∙ and_from _ _ (not_from_false _ (le-ltb n 0 (omega arith))) (lt-ltb n (0 + length t.ends) (let fits = (alive_parts t low n (on_line_parts t low high n h).0).0 in omega (arith, fits)))) h)

  -- sorting gives the edges met and alive
  pub sorted_run : IsRisingListOf (lower_of t) (is_on_line t low high) (sorted_set (lower_of t) (filter (is_on_line t low high) (edge_numbers t)))
  sorted_run =
      let kept = filter (is_on_line t low high) (edge_numbers t) in
      let all : list_all (alive_at t low) kept ≡ true = all_weaker (is_on_line t low high) (alive_at t low) (λ e h. (on_line_parts t low high e h).0) kept (list_all-from_AllPass (is_on_line t low high) kept (filter_passes (is_on_line t low high) (edge_numbers t))) in
      let set = set_of (lower_of t) (alive_at t low) one (lower_passes t apart low) kept all in
      record { rising = set.0; exact = λ n. set.1 (λ m. m == n) ∙ (is_in-filter (is_on_line t low high) n (edge_numbers t) ∙ in_range n) }

  -- and so does any rising list of them
  pub run_is_sorted : (run : List ℕ) → IsRisingListOf (lower_of t) (is_on_line t low high) run → run ≡ sorted_set (lower_of t) (filter (is_on_line t low high) (edge_numbers t))
  run_is_sorted run is_run = one_list_of (lower_of t) (λ a b. lower-asym (edge t a) (edge t b)) (is_on_line t low high) run _ is_run sorted_run
