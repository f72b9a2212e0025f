-- What the least of each kind says of an index.
use Rattle.std.proofs.Common.{◌≡◌, ◌≢◌, ℕ, ◌<◌, Bool, true, not, List, [], ◌∷◌, length, get_or, refl, sym, ◌∙◌, ap, subst, inl, inr}
use Rattle.std.specs.Prelude.{IsTrue, Option, Some, None}
use Rattle.std.specs.List.{list_any}
use Rattle.std.proofs.lemmas.Bool.{both_ways, false_from_ne_true, not-true, not_from_false}
use Rattle.loc_spec_plane.specs.{Lists.is_in, declared.Mark.Mark, Places.IsFloor, Covers.cover_above}
use Rattle.loc_spec_plane.specs.Tables.{corner, edge, edge_numbers, ends_at, is_on_source}
use Rattle.loc_laws_order.proofs.Unique.{floor-unique}
use Rattle.loc_edges.specs.Floors.{AreFloors, FloorLists}
use Rattle.loc_geom.specs.{declared.kinds.Meeting.Meeting, Answers.IsMeeting}
use Rattle.loc_sweep.specs.Swept.{AreInConflict}
use Rattle.loc_spec_index.specs.Content.{Content, cover_numbers, cover_of_edge, floor_of_corner, table_in}
use Rattle.loc_spec_index.specs.IndexFile.{IsFileOf}
use Rattle.loc_spec_index.specs.Flaws.{lone, bare, uneven, conflicting, wrong_floor, wrong_cover, spare_cover, wrong_source}
use Rattle.loc_laws_index.proofs.FlawKinds as laws
use Rattle.loc_verify.specs.{Judged.IsLeastOf, Least.IsLeastFailing, Least.IsLeastUneven, Least.is_odd_at}
use Rattle.loc_verify.proofs.Ranked.{least_at, least_of}

fails : (b : Bool) → (b ≡ true → ⊥) → not b ≡ true
fails b never = not_from_false b (false_from_ne_true b never)

passes : (b : Bool) → not b ≡ true → b ≡ true → ⊥
passes b fail pass = both_ways b (not-true b fail) pass

no_marks : (ms : List Mark) → ((ms ≡ [] → ⊥) → ⊥) → ms ≡ []
no_marks [] h = refl
no_marks (m ∷ ms) h = absurd (h (λ none. cc))

module _ (c : Content) where
  pub lone_there : (n : ℕ) → IsLeastFailing (length (table_in c).corners) (λ n. IsTrue (list_any (ends_at (table_in c) n) (edge_numbers (table_in c)))) (Some n) → IsLeastOf c 0 (lone n)
  lone_there n found = least_at c 0 n refl refl refl (subst (λ k. n < k) (laws.as_many_corners c) found.0, fails _ found.1) (λ m less h. passes _ h.1 (found.2 m less))

  pub uneven_there : (n f : ℕ) → IsLeastUneven (table_in c) (Some (n, f)) → IsLeastOf c 2 (uneven n f)
  uneven_there n f found = least_of c (uneven n f) refl (subst (λ k. n < k) (laws.as_many_corners c) found.0, found.1) (laws.least_uneven c n f (λ m g before h. elim before [
    | inl less ↦ passes (is_odd_at (table_in c) m g) (found.3 m less g) h.1
    | inr same ↦ both_ways (is_odd_at (table_in c) n g) (found.2 g same.1) (subst (λ k. is_odd_at (table_in c) k g ≡ true) same.0 h.1)
  ]))

  module _ (floors : FloorLists) (are : AreFloors (table_in c) floors) (stored : List (Option ℕ)) (stored_is : stored ≡ c.floors) where
    floor_at : (n : ℕ) → n < length c.corners → IsFloor (table_in c) (corner (table_in c) n) (get_or floors.of_corner n None)
    floor_at n fits = are.of_corner n (subst (λ k. n < k) (sym (laws.as_many_corners c)) fits)

    same_floor : (n : ℕ) → n < length c.corners → get_or stored n None ≡ get_or floors.of_corner n None → IsFloor (table_in c) (corner (table_in c) n) (floor_of_corner c n)
    same_floor n fits same = subst (IsFloor (table_in c) (corner (table_in c) n)) (sym same ∙ ap (λ fs. get_or fs n None) stored_is) (floor_at n fits)

    within : (n : ℕ) → n < length floors.of_corner → n < length c.corners
    within n fits = subst (λ k. n < k) (are.as_many_corners ∙ laws.as_many_corners c) fits

    pub floors_right : IsLeastFailing (length floors.of_corner) (λ n. get_or stored n None ≡ get_or floors.of_corner n None) None → (n : ℕ) → n < length c.corners → IsFloor (table_in c) (corner (table_in c) n) (floor_of_corner c n)
    floors_right all n fits = same_floor n fits (all n (subst (λ k. n < k) (sym (are.as_many_corners ∙ laws.as_many_corners c)) fits))

    pub floor_there : (n : ℕ) → IsLeastFailing (length floors.of_corner) (λ n. get_or stored n None ≡ get_or floors.of_corner n None) (Some n) → IsLeastOf c 4 (wrong_floor n)
    floor_there n found = least_at c 4 n refl refl refl
        (within n found.0, λ is. found.1 (ap (λ fs. get_or fs n None) stored_is ∙ floor-unique (table_in c) (corner (table_in c) n) (floor_of_corner c n) (get_or floors.of_corner n None) is (floor_at n (within n found.0))))
        (λ m less h. h.1 (same_floor m h.0 (found.2 m less)))

  module _ (lists : List (List ℕ)) (above : List ℕ) (lists_are : lists ≡ c.covers) (above_is : above ≡ cover_numbers c) where
    list_at : (e : ℕ) → get_or lists (get_or above e 0) [] ≡ cover_of_edge c e
    list_at e = ap (λ ls. get_or ls (get_or above e 0) []) lists_are ∙ ap (λ ns. get_or c.covers (get_or ns e 0) []) above_is

    pub list_there : (n : ℕ) → IsLeastFailing (length lists) (λ n. IsTrue (is_in n above)) (Some n) → IsLeastOf c 6 (spare_cover n)
    list_there n found = least_at c 6 n refl refl refl (subst (λ ls. n < length ls) lists_are found.0, fails _ (λ named. found.1 (ap (is_in n) above_is ∙ named)))
        (λ m less h. passes _ h.1 (sym (ap (is_in m) above_is) ∙ found.2 m less))

    pub lists_right : IsLeastFailing (length lists) (λ n. IsTrue (is_in n above)) None → (n : ℕ) → n < length c.covers → IsTrue (is_in n (cover_numbers c))
    lists_right all n fits = sym (ap (is_in n) above_is) ∙ all n (subst (λ ls. n < length ls) (sym lists_are) fits)

    module _ {v : ℕ} (bytes : List ℕ) (file : IsFileOf v c bytes) where
      pub covers_right : IsLeastFailing (length (table_in c).ends) (λ e. get_or lists (get_or above e 0) [] ≡ cover_above (table_in c) e) None → (e : ℕ) → e < length c.edges → cover_of_edge c e ≡ cover_above (table_in c) e
      covers_right all e fits = sym (list_at e) ∙ all e (subst (λ k. e < k) (sym (laws.as_many c)) fits)

      pub cover_there : (e : ℕ) → IsLeastFailing (length (table_in c).ends) (λ e. get_or lists (get_or above e 0) [] ≡ cover_above (table_in c) e) (Some e) → IsLeastOf c 5 (wrong_cover e)
      cover_there e found = least_at c 5 e refl refl refl (subst (λ k. e < k) (laws.as_many c) found.0, λ same. found.1 (list_at e ∙ same)) (λ m less h. h.1 (sym (list_at m) ∙ found.2 m less))

  module _ {v : ℕ} (bytes : List ℕ) (file : IsFileOf v c bytes) where
    pub marks_right : IsLeastFailing (length (table_in c).ends) (λ e. get_or (table_in c).marks e [] ≢ []) None → (e : ℕ) → e < length c.edges → get_or (table_in c).marks e [] ≢ []
    marks_right all e fits = all e (subst (λ k. e < k) (sym (laws.as_many c)) fits)

    pub bare_there : (e : ℕ) → IsLeastFailing (length (table_in c).ends) (λ e. get_or (table_in c).marks e [] ≢ []) (Some e) → IsLeastOf c 1 (bare e)
    bare_there e found = least_at c 1 e refl refl refl (subst (λ k. e < k) (laws.as_many c) found.0, no_marks _ found.1) (λ m less h. found.2 m less h.1)

    pub sources_right : IsLeastFailing (length (table_in c).ends) (λ e. IsTrue (is_on_source (table_in c) e)) None → (e : ℕ) → e < length c.edges → IsTrue (is_on_source (table_in c) e)
    sources_right all e fits = all e (subst (λ k. e < k) (sym (laws.as_many c)) fits)

    pub source_there : (e : ℕ) → IsLeastFailing (length (table_in c).ends) (λ e. IsTrue (is_on_source (table_in c) e)) (Some e) → IsLeastOf c 7 (wrong_source e)
    source_there e found = least_at c 7 e refl refl refl (subst (λ k. e < k) (laws.as_many c) found.0, fails (is_on_source (table_in c) e) found.1) (λ m less h. passes (is_on_source (table_in c) m) h.1 (found.2 m less))

    pub conflict_there : (a b : ℕ) (meeting : Meeting) → AreInConflict (table_in c) a b meeting → IsLeastOf c 3 (conflicting a b) × IsMeeting (edge (table_in c) a) (edge (table_in c) b) meeting
    conflict_there a b meeting found = (least_of c (conflicting a b) refl (found.in_order, subst (λ k. b < k) (laws.as_many c) found.in_range, found.conflict) (laws.least_conflict c), found.meets)
