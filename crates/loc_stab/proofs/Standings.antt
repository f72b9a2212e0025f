-- Where the points of a span stand among the corners, and the three parts of the list of the edges met.
use Rattle.std.proofs.Common.{◌≡◌, ℕ, ◌+◌, ◌<◌, ◌≤◌, true, List, [], ◌++◌, length, get_or, filter, refl, sym, ◌∙◌, ap, subst, arith, inl, inr}
use Rattle.std.specs.{Prelude.nat_lt, List.flat_map}
use Rattle.std.proofs.lemmas.Bool.{and_parts, ltb-true, lt-ltb, le-ltb, cases_lt, both_ways, true≢false}
use Rattle.std.proofs.{lemmas.List.length-append, lemmas.List.Concat.flat_map-append}
use Rattle.loc_spec_plane.specs.{Points.Point, Points.up_to, Points.same_point, Places.IsListAt, Places.is_corner_of}
use Rattle.loc_spec_plane.specs.Tables.{Table, IsTable, corner, edge_numbers}
use Rattle.loc_place.specs.declared.corners.Standing.{Standing}
use Rattle.loc_place.specs.declared.corners.Standing.TheVariants.{OnCorner, Behind}
use Rattle.loc_place.specs.Standing.{IsBehind, IsStanding}
use Rattle.loc_place.proofs.{Behind.is_passed, Versions.version_there}
use Rattle.loc_laws_order.proofs.{AliveAt.IsPassed, AliveAt.at_corner, Sides.same_point-true, Tests.up_to_trans}
use Rattle.loc_persist.specs.Meaning.{VersionsMeaning}
use Rattle.loc_treeidx.specs.Standing.{AreVersionsOf}
use Rattle.loc_spec_plane.specs.Spans.{IsSpan, met_at, ends_at_low, is_later}
use Rattle.loc_spec_text.specs.Spans.{numbered}
use Rattle.loc_laws_stab.proofs.{Beginning.begin_list, Columns.span_up}
use Rattle.loc_laws_stab.proofs.{MetLists.later_list, MetLists.ending_list, MetLists.no_ending, RunOfRest.run_of_rest}
use Rattle.loc_laws_stab.proofs.Runs.{run_is_sorted}
use Rattle.loc_stab.specs.{Ended.ended_at, Runs.run_at}

module _ (t : Table) (p : Point) where
  -- a point that is a corner
  pub on_corner : (c : ℕ) → is_corner_of t p c ≡ true → (c < length t.corners) × (corner t c ≡ p)
  on_corner c h = let parts = and_parts (nat_lt c (length t.corners)) (same_point (corner t c) p) h in (ltb-true c (length t.corners) parts.0, same_point-true (corner t c) p parts.1)

  -- the corners that are not behind it
  pub passed_on : IsTable t → (c : ℕ) → is_corner_of t p c ≡ true → IsPassed t p (c + 1)
  passed_on ok c h = let at = on_corner c h in subst (λ (q : Point). IsPassed t q (c + 1)) at.1 (at_corner t ok c at.0)

  pub passed_behind : (n : ℕ) → IsBehind t p n → IsPassed t p n
  passed_behind n behind = is_passed t p n behind

  -- the list at a corner is its version
  pub version_on : (m : VersionsMeaning) → AreVersionsOf t m → (c : ℕ) → is_corner_of t p c ≡ true → IsListAt t p (get_or m.sealed_lists c [])
  version_on m stands c h = let at = on_corner c h in subst (λ (q : Point). IsListAt t q (get_or m.sealed_lists c [])) at.1 (stands.versions.are c at.0)

module _ (t : Table) (low high : Point) (span : IsSpan low high) where
  -- before the first corner nothing is alive
  pub run_none : (m : VersionsMeaning) → AreVersionsOf t m → IsBehind t low 0 → run_at t low high ≡ []
  unfolding run_at
  run_none m stands behind =
      let empty : IsListAt t low [] = version_there t stands.planar.in_order m.sealed_lists stands.versions low 0 behind in
      sym (run_is_sorted t stands.planar.in_order stands.planar.apart low high []
      (run_of_rest t stands.planar.apart low [] empty high span [] [] refl (λ e here. absurd (true≢false (sym here))) (λ e here. absurd (true≢false (sym here)))))

  -- no fewer corners are passed at the high point
  pub passed_more : (n m : ℕ) → IsPassed t low n → IsPassed t high m → n ≤ length t.corners → n ≤ m
  passed_more n m passed_low passed_high within = elim (cases_lt m n) [
    | inr le ↦ le
    | inl less ↦ absurd (
        let fits : m < length t.corners = omega (arith, less, within) in
        let first : up_to (corner t m) low ≡ true = passed_low.passed m fits ∙ lt-ltb m n less in
        both_ways (nat_lt m m) (le-ltb m m (omega arith)) (sym (passed_high.passed m fits) ∙ up_to_trans (corner t m) low high first (span_up low high span)))
  ]

  -- the edges that end at the low point, by where it stands
  pub ended_is : IsTable t → (at : Standing) → IsStanding t low at → ended_at t at ≡ filter (ends_at_low t low high) (edge_numbers t)
  ended_is ok (OnCorner c) h = let at = on_corner t low c h in sym (ending_list t ok low high span c at.0 at.1)
  ended_is ok (Behind n) h = sym (no_ending t ok low high span h.cornerless)

  -- the edges met that begin behind the low point
  abbrev pub later_at : List ℕ
  later_at = filter (is_later t low high) (edge_numbers t)

  -- the three parts are the list
  pub parts_are : IsTable t → (at : Standing) → IsStanding t low at → flat_map numbered (ended_at t at) ++ (flat_map numbered (run_at t low high) ++ flat_map numbered later_at) ≡ flat_map numbered (met_at t low high)
  unfolding met_at run_at
  parts_are ok at h =
      ap (λ xs. flat_map numbered xs ++ (flat_map numbered (run_at t low high) ++ flat_map numbered later_at)) (ended_is ok at h)
      ∙ (ap (λ xs. flat_map numbered (filter (ends_at_low t low high) (edge_numbers t)) ++ xs) (sym (flat_map-append numbered (run_at t low high) later_at))
      ∙ sym (flat_map-append numbered (filter (ends_at_low t low high) (edge_numbers t)) (run_at t low high ++ later_at)))

  -- and so are their lengths
  pub met_length : IsTable t → (at : Standing) → IsStanding t low at → (n m : ℕ) → IsPassed t low n → IsPassed t high m → length (ended_at t at) + (length (run_at t low high) + length (begin_list t n m)) ≡ length (met_at t low high)
  unfolding met_at run_at
  met_length ok at h n m passed_low passed_high =
      let ended = ap length (ended_is ok at h) in
      let later = ap length (later_list t ok low high span n m passed_low passed_high) in
      let first = length-append (filter (ends_at_low t low high) (edge_numbers t)) (run_at t low high ++ later_at) in
      let second = length-append (run_at t low high) later_at in
      omega (arith, ended, later, first, second)
