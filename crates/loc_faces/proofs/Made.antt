-- What was noted of the cycles makes the faces of a table.
use Rattle.std.proofs.Common.{◌≡◌, ℕ, suc, ◌+◌, ◌*◌, ◌<◌, ◌≤◌, Bool, true, false, not, List, length, get_or, map, Option, None, sym, ◌∙◌, ap, subst, inl, inr, arith}
use Rattle.std.specs.Prelude.{◌==◌, count_by}
use Rattle.std.proofs.lemmas.Bool.{cases_lt, and_from, eq-eqb, not_from_false}
use Rattle.std.proofs.{lemmas.List.get_or_past, lemmas.List.Sums.length-filter}
use Rattle.loc_spec_plane.specs.{Lists.numbers, Tables.Table, Tables.IsTable, Tables.corner, Places.IsFloor}
use Rattle.loc_spec_plane.specs.HalfEdges.{half_edge_count, leader}
use Rattle.loc_spec_plane.specs.Faces.{face_above, hangs, leads_face, least_corner, outer_number}
use Rattle.loc_laws_order.proofs.Unique.{floor-unique}
use Rattle.loc_edges.specs.Floors.{FloorLists, AreFloors}
use Rattle.loc_half.specs.HalfEdgeLists.{HalfEdgeLists, AreHalfEdges, leader_in, next_in}
use Rattle.loc_faces.specs.{Boundaries.inner_leaders, Cycles.AreHanging, Cycles.AreNumbered, Cycles.face_by}
use Rattle.loc_faces.specs.FaceLists.{AreFaces}
use Rattle.loc_faces.proofs.Leaders.{leads, leads_within, leads_leads}
use Rattle.loc_faces.proofs.Nested.{above_same, face_over, floor_begins, low_fits}

-- where no note of a cycle is above a number, no face of a half-edge is
pub faces_below : (t : Table) (half : HalfEdgeLists) (most : ℕ) (now of_half : List ℕ) → length of_half ≡ half_edge_count t → ((h : ℕ) → h < half_edge_count t → get_or of_half h 0 ≡ face_by half now h) → ((l : ℕ) → get_or now l 0 ≤ most) → (h : ℕ) → get_or of_half h 0 < most + 1
faces_below t half most now of_half size each within h = elim (cases_lt h (half_edge_count t)) [
  | inl lt ↦ (let is = each h lt in let le = within (leader_in half h) in omega (arith, is, le))
  | inr past ↦ (let none : get_or of_half h 0 ≡ 0 = get_or_past of_half h 0 (omega (arith, past, size)) in omega (arith, none))
]

module _ (t : Table) (ok : IsTable t) (half : HalfEdgeLists) (are : AreHalfEdges t half) (floors : FloorLists) (floored : AreFloors t floors) (hanging : List Bool) (hung : AreHanging t half hanging)
    (leaders old now of_half : List ℕ) (numbered : AreNumbered t half leaders old (half_edge_count t))
    (outer : (h : ℕ) → h < half_edge_count t → hangs t (next_in half) h ≡ false → face_by half now h ≡ face_by half old h)
    (nested : (h : ℕ) → h < half_edge_count t → hangs t (next_in half) h ≡ true → face_by half now h ≡ face_over t half floors now h)
    (within : (most : ℕ) → ((l : ℕ) → get_or old l 0 ≤ most) → (l : ℕ) → get_or now l 0 ≤ most)
    (size : length of_half ≡ half_edge_count t)
    (each : (h : ℕ) → h < half_edge_count t → get_or of_half h 0 ≡ face_by half now h) where
  -- the leader of an outer cycle leads a face
  leads_outer : (h : ℕ) → h < half_edge_count t → hangs t (next_in half) h ≡ false → leads_face t (next_in half) (leader_in half h) ≡ true
  leads_outer h lt off =
      let self : leader t (next_in half) (leader_in half h) ≡ leader_in half h = sym (leads t ok half are (leader_in half h) (leads_within t ok half are h lt)) ∙ leads_leads t ok half are h lt in
      let bare : hangs t (next_in half) (leader_in half h) ≡ false = sym (hung.are (leader_in half h) (leads_within t ok half are h lt)) ∙ (ap (λ l. get_or hanging l false) (leads_leads t ok half are h lt) ∙ (hung.are h lt ∙ off)) in
      and_from (leader t (next_in half) (leader_in half h) == leader_in half h) (not (hangs t (next_in half) (leader_in half h))) (eq-eqb (leader t (next_in half) (leader_in half h)) (leader_in half h) self) (not_from_false (hangs t (next_in half) (leader_in half h)) bare)

  outer_face : (h : ℕ) → h < half_edge_count t → hangs t (next_in half) h ≡ false → get_or of_half h 0 ≡ outer_number t (next_in half) h
  outer_face h lt off =
      each h lt ∙ (outer h lt off ∙ (numbered.numbered (leader_in half h) (leads_within t ok half are h lt) (leads_outer h lt off)
      ∙ ap (λ l. suc (count_by (leads_face t (next_in half)) (numbers l))) (leads t ok half are h lt)))

  hanging_face : (h : ℕ) (floor : Option ℕ) → h < half_edge_count t → hangs t (next_in half) h ≡ true → IsFloor t (corner t (least_corner t (next_in half) h)) floor → get_or of_half h 0 ≡ face_above (λ g. get_or of_half g 0) floor
  hanging_face h floor lt on is_floor =
      let same : get_or floors.of_corner (least_corner t (next_in half) h) None ≡ floor = floor-unique t (corner t (least_corner t (next_in half) h)) (get_or floors.of_corner (least_corner t (next_in half) h) None) floor (floored.of_corner (least_corner t (next_in half) h) (low_fits t ok half are h lt)) is_floor in
      each h lt ∙ (nested h lt on ∙ (ap (face_above (face_by half now)) same
      ∙ above_same (face_by half now) (λ g. get_or of_half g 0) floor
      (λ e is. (let begins = (floor_begins t ok (least_corner t (next_in half) h) e (low_fits t ok half are h lt) (subst (IsFloor t (corner t (least_corner t (next_in half) h))) is is_floor)).0 in
      sym (each (2 * e) (omega (arith, begins)))))))

  pub faces_are : (inner : List (List ℕ)) → inner ≡ map (inner_leaders t (next_in half) (λ h. get_or of_half h 0)) (numbers (length leaders + 1))
      → AreFaces t (next_in half) (record { count = length leaders + 1; of_half = of_half; outers = leaders; inner = inner })
  faces_are inner rows = record {
    count = (let many = ap length numbered.listed ∙ length-filter (leads_face t (next_in half)) (numbers (half_edge_count t)) in omega (arith, many));
    as_many = size;
    faces = record { outer = outer_face; hanging = hanging_face };
    within = faces_below t half (length leaders) now of_half size each (within (length leaders) numbered.within);
    one_each = λ h lt. each h lt ∙ (ap (λ l. get_or now l 0) (sym (leads_leads t ok half are h lt)) ∙ (sym (each (leader_in half h) (leads_within t ok half are h lt)) ∙ ap (λ l. get_or of_half l 0) (leads t ok half are h lt)));
    outers = numbered.listed;
    inner = rows;
  }
