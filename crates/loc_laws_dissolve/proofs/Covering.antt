-- The kept edges cover, by the ray to the right, exactly what a member of the group covers.
use Rattle.std.proofs.Common.{◌≡◌, ℕ, ◌<◌, Bool, true, false, ◌&&◌, length, refl, sym, ◌∙◌, ap, subst}
use Rattle.std.specs.Prelude.{nat_lt, Option, Some, None}
use Rattle.std.specs.List.{list_any}
use Rattle.std.proofs.lemmas.Bool.{and_parts, and_from, and_right, lt-ltb, ltb-true, not-true, not_from_false, false_from_ne_true, both_ways}
use Rattle.loc_spec_plane.specs.{Lists.is_in, Lists.numbers, Lists.odd_many, Rays.crosses_right}
use Rattle.loc_spec_plane.specs.Points.{Point, same_point, lies_on, is_above}
use Rattle.loc_spec_plane.specs.Tables.{Table, IsTable, AllEnds, AllEven, NoConflict, corner, edge, edge_numbers, ends_at, has_odd, covers_by_marks}
use Rattle.loc_spec_plane.specs.Places.{alive_at, is_edge, IsFloor, IsBorderless, IsCornerless, is_corner_of, is_border_of}
use Rattle.loc_spec_plane.specs.Covers.{cover_of_floor, feature_count, is_over, is_at_or_under}
use Rattle.loc_spec_plane.specs.declared.Place.TheVariants.{Area}
use Rattle.loc_spec_groups.specs.Groups.{covers_upper, is_kept}
use Rattle.loc_laws_order.proofs.Floors.{floor_of_list}
use Rattle.loc_laws_order.proofs.TableOrder.{numbers_within, is_end_is, edge_up}
use Rattle.loc_laws_order.proofs.Sides.{same_point-true, end_lies_on}
use Rattle.loc_laws_rays.proofs.{Covering.cover_law, Covering.from_floor, Covering.any-some, Members.in_cover}
use Rattle.loc_laws_rays.proofs.{Parity.odd_many-agree, Listed.sorted_list_is}
use Rattle.loc_laws_dissolve.proofs.Upward.{any-same, any-never, any-filtered, kept_under}
use Rattle.loc_laws_dissolve.proofs.Evenness.{kept_even}
use Rattle.loc_laws_dissolve.proofs.Marked.{marked_by, has_odd_is, marked_is_table, marked_even}

-- a point on no edge lies on none of them
pub off_edge : (t : Table) (p : Point) → IsBorderless t p → (e : ℕ) → e < length t.ends → lies_on (edge t e) p ≡ false
off_edge t p clear e lt = false_from_ne_true (lies_on (edge t e) p) (λ lies. both_ways (is_border_of t p e) (not-true (is_border_of t p e) (clear e)) (and_from (is_edge t e) (lies_on (edge t e) p) (lt-ltb e (length t.ends) lt) lies))

-- nor is it a corner, since each corner is an end of an edge
pub off_corner : (t : Table) → IsTable t → AllEnds t → (p : Point) → IsBorderless t p → IsCornerless t p
off_corner t ok ended p clear c = not_from_false (is_corner_of t p c) (false_from_ne_true (is_corner_of t p c) (λ is_c.
    let parts = and_parts (nat_lt c (length t.corners)) (same_point (corner t c) p) is_c in
    let lt : c < length t.corners = ltb-true c (length t.corners) parts.0 in
    let found = any-some (ends_at t c) (length t.ends) (edge_numbers t) (numbers_within (length t.ends)) (ended c lt) in
    both_ways (lies_on (edge t found.0) p) (off_edge t p clear found.0 found.1)
    (subst (λ q. lies_on (edge t found.0) q ≡ true) (same_point-true (corner t c) p parts.1) (end_lies_on (edge t found.0) (corner t c) (edge_up t ok found.0 found.1) (is_end_is t ok c found.0 lt found.1 ∙ found.2)))))

module _ (t : Table) (ok : IsTable t) (ended : AllEnds t) (even : AllEven t) (apart : NoConflict t) (member : ℕ → Bool) where
  abbrev kept : Table
  kept = marked_by t (is_kept t member)

  kept_table : IsTable kept
  kept_table = marked_is_table t (is_kept t member) ok

  kept_all_even : AllEven kept
  kept_all_even = marked_even t (is_kept t member) (kept_even t ok ended even apart member)

  -- the one feature of the kept edges is above an edge exactly where the group covers its upper side
  upper_by_kept : (e : ℕ) → e < length t.ends → is_over kept e 0 ≡ covers_upper t member e
  upper_by_kept e lt =
      odd_many-agree (λ d. nat_lt d (length t.ends)) (λ d. is_at_or_under t e d && has_odd kept 0 d) (λ d. is_at_or_under t e d && is_kept t member d) (edge_numbers t) (numbers_within (length t.ends)) (λ d is_d. ap (λ b. is_at_or_under t e d && b) (has_odd_is t (is_kept t member) d (ltb-true d (length t.ends) is_d)))
      ∙ kept_under t ok ended even apart member e lt

  module _ (p : Point) (clear : IsBorderless t p) where
    -- the crossings of the ray to the right with the kept edges
    abbrev crossed : Bool
    crossed = odd_many (λ e. is_kept t member e && crosses_right (edge t e) p) (edge_numbers t)

    -- a member covers p
    abbrev by_member : Bool
    by_member = list_any (λ f. member f && covers_by_marks t f p) (numbers (feature_count t))

    by_floor : (floor : Option ℕ) → IsFloor t p floor → odd_many (λ e. has_odd kept 0 e && crosses_right (edge t e) p) (edge_numbers t) ≡ by_member
    by_floor floor is_floor = from_floor kept kept_table ended kept_all_even apart 0 p (λ e lt _. off_edge t p clear e lt) floor is_floor ∙ at floor is_floor
      where
        each : (floor : Option ℕ) → IsFloor t p floor → (f : ℕ) → covers_by_marks t f p ≡ is_in f (cover_of_floor t floor)
        each floor is_floor f = sym (cover_law t ok ended even apart p (Area floor) (cover_of_floor t floor) (off_corner t ok ended p clear, clear, is_floor) refl f)

        at : (floor : Option ℕ) → IsFloor t p floor → is_in 0 (cover_of_floor kept floor) ≡ by_member
        at None is_floor = sym (any-same (λ f. member f && covers_by_marks t f p) (λ f. false) (numbers (feature_count t)) (λ f. and_right (member f) (covers_by_marks t f p) (each None is_floor f)) ∙ any-never (numbers (feature_count t)))
        at (Some e) is_floor =
            let lt : e < length t.ends = ltb-true e (length t.ends) (and_parts (is_edge t e) _ (and_parts (alive_at t p e) (is_above (edge t e) p) is_floor.0).0).0 in
            (in_cover kept e 0 ∙ upper_by_kept e lt)
            ∙ (any-filtered member (is_over t e) (numbers (feature_count t))
            ∙ any-same (λ f. member f && is_over t e f) (λ f. member f && covers_by_marks t f p) (numbers (feature_count t)) (λ f. ap (λ b. member f && b) (sym (each (Some e) is_floor f ∙ in_cover t e f))))

    -- the ray to the right crosses an odd number of kept edges exactly where a member covers the point
    pub kept_cover : crossed ≡ by_member
    kept_cover =
        let is_list = sorted_list_is t ok apart p in
        odd_many-agree (λ d. nat_lt d (length t.ends)) (λ e. is_kept t member e && crosses_right (edge t e) p) (λ e. has_odd kept 0 e && crosses_right (edge t e) p) (edge_numbers t) (numbers_within (length t.ends)) (λ d is_d. ap (λ b. b && crosses_right (edge t d) p) (sym (has_odd_is t (is_kept t member) d (ltb-true d (length t.ends) is_d))))
        ∙ by_floor _ (floor_of_list t p _ is_list)
