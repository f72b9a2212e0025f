-- The whole list of the edges met: the three parts that a walk finds are those of the list, and the list is the one that every edge is looked at for.
use Rattle.std.proofs.Common.{◌≡◌, ℕ, ◌<◌, true, List, [], ◌++◌, length, filter, sym, ◌∙◌, ap}
use Rattle.std.specs.Prelude.{◌==◌}
use Rattle.std.proofs.lemmas.Bool.{ltb-true}
use Rattle.loc_spec_plane.specs.{Lists.is_in, Points.Point, Places.IsCornerless}
use Rattle.loc_spec_plane.specs.Tables.{Table, IsTable, NoConflict, corner, hi_of, edge_numbers}
use Rattle.loc_laws_order.proofs.AliveAt.{IsPassed}
use Rattle.loc_spec_plane.specs.Spans.{IsSpan, IsMetList, met_at, ends_at_low, is_later}
use Rattle.loc_laws_stab.proofs.Beginning.{begin_list, begins_among, filter_agree, filter_none, in_edges}
use Rattle.loc_laws_stab.proofs.{Later.later_by_number, Later.ending_by_number, Later.none_ends, Runs.run_is_sorted}

module _ (t : Table) (ok : IsTable t) (low high : Point) (span : IsSpan low high) where
  numbered : (e : ℕ) → is_in e (edge_numbers t) ≡ true → e < length t.ends
  numbered e here = ltb-true e (length t.ends) (sym (in_edges t e) ∙ here)

  -- the later edges, by the numbers of the corners at which they begin
  pub later_list : (n m : ℕ) → IsPassed t low n → IsPassed t high m → filter (is_later t low high) (edge_numbers t) ≡ begin_list t n m
  later_list n m passed_low passed_high = filter_agree (is_later t low high) (begins_among t n m) (edge_numbers t) (λ e here. later_by_number t ok low high span n m passed_low passed_high e (numbered e here))

  -- the edges that end at the low point, where it is a corner
  pub ending_list : (c : ℕ) → c < length t.corners → corner t c ≡ low → filter (ends_at_low t low high) (edge_numbers t) ≡ filter (λ e. hi_of t e == c) (edge_numbers t)
  ending_list c fits at = filter_agree (ends_at_low t low high) (λ e. hi_of t e == c) (edge_numbers t) (λ e here. ending_by_number t ok low high span c fits at e (numbered e here))

  -- and where it is none
  pub no_ending : IsCornerless t low → filter (ends_at_low t low high) (edge_numbers t) ≡ []
  no_ending clear = filter_none (ends_at_low t low high) (edge_numbers t) (λ e here. none_ends t ok low high span clear e (numbered e here))

-- the computed list is the list of the edges met, and there is no other
module _ (t : Table) (ok : IsTable t) (low high : Point) (apart : NoConflict t) where
  pub one_met_list : (es : List ℕ) → IsMetList t low high es → es ≡ met_at t low high
  unfolding met_at
  one_met_list es met = met.whole ∙ ap (λ run. filter (ends_at_low t low high) (edge_numbers t) ++ (run ++ filter (is_later t low high) (edge_numbers t))) (run_is_sorted t ok apart low high met.run met.is_run)
