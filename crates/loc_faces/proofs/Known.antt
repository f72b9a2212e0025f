-- The computed nexts and faces are those of the definitions, in a table in which no two edges conflict.
use Rattle.std.proofs.Common.{◌≡◌, ℕ, zero, suc, ◌*◌, ◌<◌, true, false, length, get_or, map, Option, Some, None, refl, sym, ◌∙◌, ap, subst, inl, inr, arith}
use Rattle.std.proofs.lemmas.Bool.{cases_Bool, cond-true, cond-false}
use Rattle.std.proofs.lemmas.List.FromFn.{get_or-map-range_with_len, length-map-range_with_len}
use Rattle.loc_spec_plane.specs.{Lists.numbers, Tables.Table, Tables.corner, Places.IsFloor}
use Rattle.loc_spec_plane.specs.HalfEdges.{half_edge_count, leader, origin, IsNext, IsNextOfAll}
use Rattle.loc_spec_plane.specs.Faces.{face_above, hangs, least_corner, outer_number, IsFaces}
use Rattle.loc_laws_order.proofs.Unique.{floor-unique}
use Rattle.loc_place.specs.Planar.{IsPlanar}
use Rattle.loc_half.specs.HalfEdgeLists.{HalfEdgeLists, AreHalfEdges, next_in}
use Rattle.loc_half.proofs.Halves.{origin-up}
use Rattle.loc_faces.specs.Subdivision.{face_at, face_from, floor_at, next_at}
use Rattle.loc_faces.proofs.{Computed.face_below, Computed.floor_at_is, Computed.next_same, Turns.next_at_is}
use Rattle.loc_faces.proofs.Nested.{above_same, floor_begins, low_fits, low_origin}

module _ (t : Table) (planar : IsPlanar t) where
  pub nexts_are : IsNextOfAll t (next_at t)
  nexts_are h lt = next_at_is t planar.in_order planar.apart h lt

  listed : (f : ℕ → ℕ) (h : ℕ) → h < half_edge_count t → get_or (map f (numbers (half_edge_count t))) h 0 ≡ f h
  listed f h lt = get_or-map-range_with_len f 0 (half_edge_count t) h h 0 lt (omega arith)

  -- the half-edges, computed
  abbrev pub halves : HalfEdgeLists
  halves = record {
    nexts = map (next_at t) (numbers (half_edge_count t));
    leaders = map (leader t (λ h. get_or (map (next_at t) (numbers (half_edge_count t))) h 0)) (numbers (half_edge_count t));
    origins = map (origin t) (numbers (half_edge_count t));
  }

  pub are_halves : AreHalfEdges t halves
  are_halves = record {
    as_many_nexts = length-map-range_with_len (next_at t) 0 (half_edge_count t);
    as_many_leaders = length-map-range_with_len (leader t (next_in halves)) 0 (half_edge_count t);
    as_many_origins = length-map-range_with_len (origin t) 0 (half_edge_count t);
    nexts = λ h lt. subst (IsNext t h) (sym (listed (next_at t) h lt)) (nexts_are h lt);
    leaders = λ h lt. listed (leader t (next_in halves)) h lt;
    origins = λ h lt. listed (origin t) h lt;
  }

  low_at : (h : ℕ) → least_corner t (next_in halves) h ≡ least_corner t (next_at t) h
  low_at h = ap (λ (next : ℕ → ℕ). least_corner t next h) (next_same t planar halves are_halves)

  fits : (h : ℕ) → h < half_edge_count t → least_corner t (next_at t) h < length t.corners
  fits h lt = let low = low_fits t planar.in_order halves are_halves h lt in let same = low_at h in omega (arith, low, same)

  -- the cycle of a floor has a lesser corner
  lesser : (c e : ℕ) → c < length t.corners → IsFloor t (corner t c) (Some e) → (2 * e < half_edge_count t) × (least_corner t (next_at t) (2 * e) < c)
  lesser c e lt is =
      let begins = floor_begins t planar.in_order c e lt is in
      let edge_lt : 2 * e < half_edge_count t = omega (arith, begins.0) in
      (edge_lt, omega (arith, low_origin t planar.in_order halves are_halves (2 * e) edge_lt, origin-up t e, low_at (2 * e), begins.1))

  -- more steps than the least corner needs change nothing
  steady_above : (k m c : ℕ) (floor : Option ℕ) → c < length t.corners → IsFloor t (corner t c) floor → ((g : ℕ) → g < half_edge_count t → least_corner t (next_at t) g < c → face_from t k g ≡ face_from t m g) → face_above (face_from t k) floor ≡ face_above (face_from t m) floor
  steady_above k m c None lt is known = refl
  steady_above k m c (Some e) lt is known = let less = lesser c e lt is in known (2 * e) less.0 less.1

  steady : (k m h : ℕ) → h < half_edge_count t → least_corner t (next_at t) h < k → least_corner t (next_at t) h < m → face_from t k h ≡ face_from t m h
  steady zero m h lt low_k low_m = absurd (omega arith)
  steady (suc k) zero h lt low_k low_m = absurd (omega arith)
  steady (suc k) (suc m) h lt low_k low_m =
      let known = λ (g : ℕ) (lt_g : g < half_edge_count t) (less_g : least_corner t (next_at t) g < least_corner t (next_at t) h). steady k m g lt_g (omega (arith, less_g, low_k)) (omega (arith, less_g, low_m)) in
      elim (cases_Bool (hangs t (next_at t) h)) [
        | inl on ↦ cond-true (hangs t (next_at t) h) (face_above (face_from t k) (floor_at t (corner t (least_corner t (next_at t) h)))) (outer_number t (next_at t) h) on
            ∙ (steady_above k m (least_corner t (next_at t) h) (floor_at t (corner t (least_corner t (next_at t) h))) (fits h lt) (floor_at_is t planar (corner t (least_corner t (next_at t) h))) known
            ∙ sym (cond-true (hangs t (next_at t) h) (face_above (face_from t m) (floor_at t (corner t (least_corner t (next_at t) h)))) (outer_number t (next_at t) h) on))
        | inr off ↦ cond-false (hangs t (next_at t) h) (face_above (face_from t k) (floor_at t (corner t (least_corner t (next_at t) h)))) (outer_number t (next_at t) h) off
            ∙ sym (cond-false (hangs t (next_at t) h) (face_above (face_from t m) (floor_at t (corner t (least_corner t (next_at t) h)))) (outer_number t (next_at t) h) off)
      ]

  -- one step, by what is known of the face
  stepped : (n h : ℕ) → n ≡ length t.corners → h < half_edge_count t → (m : ℕ) → suc m ≡ n → face_at t h ≡ face_from t (suc m) h
  stepped n h is lt m same = face_below t h lt ∙ ap (λ k. face_from t k h) (sym (same ∙ is))

  outer_is : (n h : ℕ) → n ≡ length t.corners → h < half_edge_count t → hangs t (next_at t) h ≡ false → face_at t h ≡ outer_number t (next_at t) h
  outer_is zero h is lt off = absurd (let low = fits h lt in omega (arith, low, is))
  outer_is (suc m) h is lt off = stepped (suc m) h is lt m refl ∙ cond-false (hangs t (next_at t) h) (face_above (face_from t m) (floor_at t (corner t (least_corner t (next_at t) h)))) (outer_number t (next_at t) h) off

  hanging_is : (n h : ℕ) (floor : Option ℕ) → n ≡ length t.corners → h < half_edge_count t → hangs t (next_at t) h ≡ true → IsFloor t (corner t (least_corner t (next_at t) h)) floor → face_at t h ≡ face_above (face_at t) floor
  hanging_is zero h floor is lt on is_floor = absurd (let low = fits h lt in omega (arith, low, is))
  hanging_is (suc m) h floor is lt on is_floor =
      stepped (suc m) h is lt m refl
      ∙ (cond-true (hangs t (next_at t) h) (face_above (face_from t m) (floor_at t (corner t (least_corner t (next_at t) h)))) (outer_number t (next_at t) h) on
      ∙ (ap (face_above (face_from t m)) (floor-unique t (corner t (least_corner t (next_at t) h)) (floor_at t (corner t (least_corner t (next_at t) h))) floor (floor_at_is t planar (corner t (least_corner t (next_at t) h))) is_floor)
      ∙ above_same (face_from t m) (face_at t) floor (λ e at.
      (let less = lesser (least_corner t (next_at t) h) e (fits h lt) (subst (IsFloor t (corner t (least_corner t (next_at t) h))) at is_floor) in
      let inside = fits h lt in
      steady m (length t.corners) (2 * e) less.0 (omega (arith, less.1, inside, is)) (omega (arith, less.1, inside)) ∙ sym (face_below t (2 * e) less.0)))))

  pub faces_are : IsFaces t (next_at t) (face_at t)
  faces_are = record { outer = λ h lt off. outer_is (length t.corners) h refl lt off; hanging = λ h floor lt on is. hanging_is (length t.corners) h floor refl lt on is }
