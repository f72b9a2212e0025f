-- The nexts and the faces of a table are those that are computed.
use Rattle.std.proofs.Common.{◌≡◌, ℕ, zero, suc, ◌*◌, ◌<◌, ◌≤◌, true, length, Option, Some, None, refl, sym, ◌∙◌, ap, subst, inl, inr, arith}
use Rattle.std.specs.Prelude.{nat_lt}
use Rattle.std.proofs.{Math.Path.fun_ext, lemmas.List.get_or_past}
use Rattle.std.proofs.lemmas.Bool.{cases_Bool, cases_lt, cond-true, cond-false, lt-ltb, le-ltb}
use Rattle.loc_spec_plane.specs.{Points.Point, Tables.Table, Tables.corner, Places.IsFloor, Lists.before_round}
use Rattle.loc_spec_plane.specs.HalfEdges.{half_edge_count, edge_of, leaving, target}
use Rattle.loc_spec_plane.specs.Faces.{face_above, hangs, least_corner, outer_number}
use Rattle.loc_laws_order.proofs.Unique.{next-unique}
use Rattle.loc_place.proofs.FoundPlace.{floor_folded}
use Rattle.loc_place.specs.Planar.{IsPlanar}
use Rattle.loc_half.specs.HalfEdgeLists.{HalfEdgeLists, AreHalfEdges, next_in}
use Rattle.loc_half.proofs.Halves.{origin-up}
use Rattle.loc_faces.specs.FaceLists.{FaceLists, AreFaces, FitsTable, face_in}
use Rattle.loc_faces.specs.Subdivision.{face_at, face_from, floor_at, next_at, shown_at, turn_list, within}
use Rattle.loc_faces.proofs.{Nested.floor_begins, Nested.low_fits, Nested.low_origin, Turns.next_at_is}

-- a value is the same below n
below_is : (n : ℕ) (f : ℕ → ℕ) (h : ℕ) → h < n → within n f h ≡ f h
below_is n f h lt = cond-true (nat_lt h n) (f h) 0 (lt-ltb h n lt)

past_is : (n : ℕ) (f : ℕ → ℕ) (h : ℕ) → n ≤ h → within n f h ≡ 0
past_is n f h past = cond-false (nat_lt h n) (f h) 0 (le-ltb h n past)

next_past : (t : Table) (h : ℕ) → half_edge_count t ≤ h → next_at t h ≡ 0
unfolding next_at
next_past t h past = past_is (half_edge_count t) (λ g. leaving t (target t g) (before_round (edge_of g) (turn_list t (target t g)))) h past

pub face_below : (t : Table) (h : ℕ) → h < half_edge_count t → face_at t h ≡ face_from t (length t.corners) h
unfolding face_at
face_below t h lt = below_is (half_edge_count t) (face_from t (length t.corners)) h lt

face_past : (t : Table) (h : ℕ) → half_edge_count t ≤ h → face_at t h ≡ 0
unfolding face_at
face_past t h past = past_is (half_edge_count t) (face_from t (length t.corners)) h past

module _ (t : Table) (planar : IsPlanar t) where
  -- ---- the floor of a point
  -- the computed floor is the floor
  pub floor_at_is : (p : Point) → IsFloor t p (floor_at t p)
  floor_at_is p = floor_folded t p planar

  -- ---- the nexts
  module _ (half : HalfEdgeLists) (are : AreHalfEdges t half) where
    pub next_same : next_in half ≡ next_at t
    next_same = fun_ext (λ h. elim (cases_lt h (half_edge_count t)) [
      | inl lt ↦ next-unique t h (next_in half h) (next_at t h) (are.nexts h lt) (next_at_is t planar.in_order planar.apart h lt)
      | inr past ↦ get_or_past half.nexts h 0 (let size = are.as_many_nexts in omega (arith, size, past)) ∙ sym (next_past t h past)
    ])

    -- ---- the faces
    module _ (lists : FaceLists) (faces : AreFaces t (next_in half) lists) where
      by_next : AreFaces t (next_at t) lists
      by_next = subst (λ (next : ℕ → ℕ). AreFaces t next lists) next_same faces

      low_at : (h : ℕ) → least_corner t (next_in half) h ≡ least_corner t (next_at t) h
      low_at h = ap (λ (next : ℕ → ℕ). least_corner t next h) next_same

      -- the face above a floor, where that of the floor's cycle is known
      above_steps : (k c : ℕ) (floor : Option ℕ) → c < length t.corners → c ≤ k → IsFloor t (corner t c) floor → ((g : ℕ) → g < half_edge_count t → least_corner t (next_at t) g < k → face_in lists g ≡ face_from t k g)
          → face_above (face_in lists) floor ≡ face_above (face_from t k) floor
      above_steps k c None lt le is known = refl
      above_steps k c (Some e) lt le is known =
          let begins = floor_begins t planar.in_order c e lt is in
          let edge_lt : 2 * e < half_edge_count t = omega (arith, begins.0) in
          known (2 * e) edge_lt (omega (arith, low_origin t planar.in_order half are (2 * e) edge_lt, origin-up t e, low_at (2 * e), begins.1, le))

      by_steps : (k h : ℕ) → h < half_edge_count t → least_corner t (next_at t) h < k → face_in lists h ≡ face_from t k h
      by_steps zero h lt less = absurd (omega arith)
      by_steps (suc k) h lt less =
          let fits : least_corner t (next_at t) h < length t.corners = omega (arith, low_fits t planar.in_order half are h lt, low_at h) in
          let known = λ (g : ℕ) (lt_g : g < half_edge_count t) (less_g : least_corner t (next_at t) g < k). by_steps k g lt_g less_g in
          elim (cases_Bool (hangs t (next_at t) h)) [
            | inl on ↦ by_next.faces.hanging h (floor_at t (corner t (least_corner t (next_at t) h))) lt on (floor_at_is (corner t (least_corner t (next_at t) h)))
                ∙ (above_steps k (least_corner t (next_at t) h) (floor_at t (corner t (least_corner t (next_at t) h))) fits (omega (arith, less)) (floor_at_is (corner t (least_corner t (next_at t) h))) known
                ∙ sym (cond-true (hangs t (next_at t) h) (face_above (face_from t k) (floor_at t (corner t (least_corner t (next_at t) h)))) (outer_number t (next_at t) h) on))
            | inr off ↦ by_next.faces.outer h lt off ∙ sym (cond-false (hangs t (next_at t) h) (face_above (face_from t k) (floor_at t (corner t (least_corner t (next_at t) h)))) (outer_number t (next_at t) h) off)
          ]

      pub face_same : face_in lists ≡ face_at t
      face_same = fun_ext (λ h. elim (cases_lt h (half_edge_count t)) [
        | inl lt ↦ by_steps (length t.corners) h lt (let low = low_fits t planar.in_order half are h lt in let same = low_at h in omega (arith, low, same)) ∙ sym (face_below t h lt)
        | inr past ↦ get_or_past lists.of_half h 0 (let size = faces.as_many in omega (arith, size, past)) ∙ sym (face_past t h past)
      ])

  -- what is shown of faces that fit the table
  pub shown_same : (lists : FaceLists) → FitsTable t lists → (λ floor. Some (face_above (face_in lists) floor)) ≡ shown_at true t
  shown_same lists fits = let shows : (ℕ → ℕ) → Option ℕ → Option ℕ = λ face floor. Some (face_above face floor) in ap shows (face_same fits.half fits.halves lists fits.faces)
