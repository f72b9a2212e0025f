-- What is told of the kinds whose flaws have one number: corners without an edge, edges without a mark, floors, cover lists and sources.
use Rattle.std.proofs.Common.{◌≡◌, ◌≢◌, ℕ, ◌<◌, Bool, not, [], length, get_or, refl, ap}
use Rattle.std.specs.Prelude.{◌==◌, IsTrue}
use Rattle.std.specs.{List.list_any, Str.bytes_eq}
use Rattle.std.proofs.lemmas.Bool.{both_ways, eq-eqb, eqb-true, not-false, not-true}
use Rattle.std.proofs.{lemmas.List.nil_from_length, lemmas.Slice.Eq.bytes_eq-Decides}
use Rattle.loc_spec_plane.specs.{Lists.is_in, Places.IsFloor, Covers.cover_above}
use Rattle.loc_spec_plane.specs.Tables.{AllEnds, corner, edge_numbers, ends_at, is_on_source}
use Rattle.loc_spec_index.specs.Content.{Content, cover_numbers, cover_of_edge, floor_of_corner, table_in}
use Rattle.loc_spec_index.proofs.Refutes.{no_lone, no_bare, no_wrong_floor, no_wrong_cover, no_spare_cover, no_wrong_source}
use Rattle.loc_laws_judge.specs.FirstFlaw.{bare_edge, is_floor, lone_corner, other_source, spare_list, untrue_cover, untrue_floor}
use Rattle.loc_laws_judge.proofs.{Floors.floor_decides, OfKind.IsTold, OfKind.told_named}

module _ (c : Content) where
  pub lone_told : IsTold c 0 (AllEnds (table_in c)) (lone_corner c)
  unfolding table_in
  lone_told = told_named c 0 refl (λ n. refl) (λ n. refl) (λ n. not (list_any (ends_at (table_in c) n) (edge_numbers (table_in c)))) (length c.corners)
      (λ n less fails. (less, fails)) (λ n passes h. both_ways _ passes h.1) (AllEnds (table_in c)) (λ all n less. not-false _ (all n less)) (no_lone c)

  pub bare_told : IsTold c 1 ((e : ℕ) → e < length c.edges → get_or (table_in c).marks e [] ≢ []) (bare_edge c)
  bare_told = told_named c 1 refl (λ n. refl) (λ n. refl) (λ e. length (get_or (table_in c).marks e []) == 0) (length c.edges)
      (λ e less none. (less, nil_from_length (get_or (table_in c).marks e []) (eqb-true _ 0 none))) (λ e some h. both_ways _ some (eq-eqb _ 0 (ap length h.1)))
      ((e : ℕ) → e < length c.edges → get_or (table_in c).marks e [] ≢ []) (λ all e less none. both_ways _ (all e less) (eq-eqb _ 0 (ap length none))) (no_bare c)

  floor_test : ℕ → Bool
  floor_test n = is_floor (table_in c) (corner (table_in c) n) (floor_of_corner c n)

  pub floor_told : IsTold c 4 ((n : ℕ) → n < length c.corners → IsFloor (table_in c) (corner (table_in c) n) (floor_of_corner c n)) (untrue_floor c)
  unfolding floor_test
  floor_told = told_named c 4 refl (λ n. refl) (λ n. refl) (λ n. not (floor_test n)) (length c.corners)
      (λ n less fails. (less, λ is. both_ways (floor_test n) (not-true (floor_test n) fails) ((floor_decides (table_in c) (corner (table_in c) n) (floor_of_corner c n)).1 is)))
      (λ n passes h. h.1 ((floor_decides (table_in c) (corner (table_in c) n) (floor_of_corner c n)).0 (not-false (floor_test n) passes)))
      ((n : ℕ) → n < length c.corners → IsFloor (table_in c) (corner (table_in c) n) (floor_of_corner c n))
      (λ all n less. (floor_decides (table_in c) (corner (table_in c) n) (floor_of_corner c n)).0 (not-false (floor_test n) (all n less))) (no_wrong_floor c)

  cover_test : ℕ → Bool
  cover_test e = bytes_eq (cover_of_edge c e) (cover_above (table_in c) e)

  pub cover_told : IsTold c 5 ((e : ℕ) → e < length c.edges → cover_of_edge c e ≡ cover_above (table_in c) e) (untrue_cover c)
  unfolding cover_test
  cover_told = told_named c 5 refl (λ n. refl) (λ n. refl) (λ e. not (cover_test e)) (length c.edges)
      (λ e less fails. (less, λ is. both_ways (cover_test e) (not-true (cover_test e) fails) ((bytes_eq-Decides (cover_of_edge c e) (cover_above (table_in c) e)).1 is)))
      (λ e passes h. h.1 ((bytes_eq-Decides (cover_of_edge c e) (cover_above (table_in c) e)).0 (not-false (cover_test e) passes)))
      ((e : ℕ) → e < length c.edges → cover_of_edge c e ≡ cover_above (table_in c) e)
      (λ all e less. (bytes_eq-Decides (cover_of_edge c e) (cover_above (table_in c) e)).0 (not-false (cover_test e) (all e less))) (no_wrong_cover c)

  pub spare_told : IsTold c 6 ((n : ℕ) → n < length c.covers → IsTrue (is_in n (cover_numbers c))) (spare_list c)
  spare_told = told_named c 6 refl (λ n. refl) (λ n. refl) (λ n. not (is_in n (cover_numbers c))) (length c.covers)
      (λ n less fails. (less, fails)) (λ n passes h. both_ways _ passes h.1) ((n : ℕ) → n < length c.covers → IsTrue (is_in n (cover_numbers c))) (λ all n less. not-false _ (all n less)) (no_spare_cover c)

  pub source_told : IsTold c 7 ((e : ℕ) → e < length c.edges → IsTrue (is_on_source (table_in c) e)) (other_source c)
  source_told = told_named c 7 refl (λ n. refl) (λ n. refl) (λ e. not (is_on_source (table_in c) e)) (length c.edges)
      (λ e less fails. (less, fails)) (λ e passes h. both_ways _ passes h.1) ((e : ℕ) → e < length c.edges → IsTrue (is_on_source (table_in c) e)) (λ all e less. not-false _ (all e less)) (no_wrong_source c)
