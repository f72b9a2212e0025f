-- The run that a span meets, from the list at its low point: what has the low point above is passed over, and from there on the run is what has the high
-- point not below, up to the first that has it below.
use Rattle.std.proofs.Common.{◌≡◌, ℕ, Bool, true, false, not, List, ◌++◌, sym, ◌∙◌, ap}
use Rattle.std.proofs.lemmas.Bool.{not-true, not-false, not_from_true, or_right}
use Rattle.loc_spec_plane.specs.Lists.{is_in, is_rising, IsRisingListOf}
use Rattle.loc_spec_plane.specs.Points.{Point, is_above, is_below}
use Rattle.loc_spec_plane.specs.{Tables.Table, Tables.NoConflict, Tables.edge, Places.IsListAt, Places.lower_of}
use Rattle.loc_spec_plane.specs.Spans.{IsSpan, is_on_line}
use Rattle.loc_laws_stab.specs.Fronts.{passing_front, passing_back}
use Rattle.loc_laws_stab.proofs.Fronts.{front_and_back, front_passes, back_fails}
use Rattle.loc_laws_stab.proofs.{Parted.is_in-append, Parted.rising-parts, Runs.run_is, Runs.below_behind}

-- the edge does not have the high point below it
abbrev pub reaches_up : Table → Point → ℕ → Bool
reaches_up t high e = not (is_below (edge t e) high)

module _ (t : Table) (apart : NoConflict t) (low : Point) (es : List ℕ) (is_list : IsListAt t low es) (high : Point) (span : IsSpan low high) (front rest : List ℕ) (whole : front ++ rest ≡ es) where
  in_rest : (n : ℕ) → is_in n rest ≡ true → is_in n es ≡ true
  in_rest n here = ap (is_in n) (sym whole) ∙ (is_in-append n front rest ∙ or_right (is_in n front) (is_in n rest) here)

  rest_rises : is_rising (lower_of t) rest ≡ true
  rest_rises = (rising-parts (lower_of t) front rest (ap (is_rising (lower_of t)) whole ∙ is_list.rising)).1

  -- the run
  pub run_of_rest : ((m : ℕ) → is_in m front ≡ true → is_above (edge t m) low ≡ true) → ((m : ℕ) → is_in m rest ≡ true → is_above (edge t m) low ≡ false) → IsRisingListOf (lower_of t) (is_on_line t low high) (passing_front (reaches_up t high) rest)
  run_of_rest over not_over =
      let both = front_and_back (reaches_up t high) rest in
      run_is t apart low es is_list high span front (passing_front (reaches_up t high) rest) (passing_back (reaches_up t high) rest)
      (ap (λ xs. front ++ xs) both ∙ whole)
      over
      (λ m here. not_over m (ap (is_in m) (sym both) ∙ here))
      (λ m here. not-true (is_below (edge t m) high) (front_passes (reaches_up t high) rest m here))
      (λ m here. not-false (is_below (edge t m) high) (back_fails (reaches_up t high) (lower_of t) rest rest_rises
      (λ m n in_m in_n lower fails. not_from_true (is_below (edge t n) high) (below_behind t apart low es is_list high span m n (in_rest m in_m) (in_rest n in_n) lower (not-false (is_below (edge t m) high) fails)))
      m here))
