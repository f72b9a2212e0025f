-- The faces that a group covers are those of the half-edges with their left covered. Of each kept edge that is exactly one half-edge.
use Rattle.std.proofs.Common.{◌≡◌, ℕ, suc, ◌*◌, ◌<◌, Bool, true, false, not, ◌&&◌, length, get_or, refl, sym, ◌∙◌, ap, ap₂, subst, inl, inr, arith}
use Rattle.std.specs.Prelude.{nat_lt, ◌==◌, count_by}
use Rattle.std.proofs.lemmas.Bool.{and_parts, and_from, eq-eqb, eqb-true, ltb-true, not-true}
use Rattle.loc_spec_plane.specs.{Lists.is_in, Lists.numbers, Lists.exactly_one, Covers.is_over}
use Rattle.loc_spec_plane.specs.Tables.{Table, IsTable, AllEnds, AllEven, NoConflict, lo_of, hi_of}
use Rattle.loc_spec_plane.specs.HalfEdges.{half_edge_count, cycle, edge_of, leader, origin, target}
use Rattle.loc_spec_plane.specs.Faces.{hangs, leads_face, IsFaces}
use Rattle.loc_spec_groups.specs.Groups.{covers_upper, group_table, is_kept, is_polygon, kept_edges}
use Rattle.loc_laws_order.proofs.{Booleans.same-from_both, TableOrder.numbers_within, Unique.all-at}
use Rattle.loc_laws_rays.proofs.{Covering.any-found, Members.in_numbers, Picked.member_any}
use Rattle.loc_half.specs.HalfEdgeLists.{HalfEdgeLists, AreHalfEdges, next_in}
use Rattle.loc_half.proofs.Halves.{either_way, origin-down, target-down}
use Rattle.loc_half.proofs.Orbits.{cycle_within, in_cycle, leaves_there, next_within, placed, same_cycle}
use Rattle.loc_laws_dissolve.specs.Laws.{left_covered}
use Rattle.loc_laws_dissolve.proofs.{Chosen.length-chosen, Chosen.odd_is, Grouped.table_law, Grouped.group_upper_law}
use Rattle.loc_laws_dissolve.proofs.Left.{left_up, left_back}
use Rattle.loc_laws_faces.specs.Laws.{GroupFaces, OneHalfEach}
use Rattle.loc_laws_faces.proofs.OnCycles.{low_met, low_next, same_hangs}
use Rattle.loc_laws_faces.proofs.Faces.{one_on_face, by_face}

-- exactly one of a test and its contrary
contrary : (b : Bool) → exactly_one b (exactly_one b true) ≡ true
contrary true = refl
contrary false = refl

pub one_half_each : OneHalfEach
one_half_each t ok ended even apart member k lt =
    ap₂ exactly_one (left_up (group_table t member) 0 k) (left_back (group_table t member) 0 k ∙ ap (exactly_one (is_over (group_table t member) k 0)) (odd_is t ok (is_kept t member) k lt))
    ∙ contrary (is_over (group_table t member) k 0)

-- ---- an upper half-edge of each outer cycle
module _ (t : Table) (ok : IsTable t) (half : HalfEdgeLists) (are : AreHalfEdges t half) where
  -- a cycle leaves its least corner upwards
  pub upper_on : (h : ℕ) → h < half_edge_count t → (k : ℕ) × (2 * k < half_edge_count t) × (is_in (2 * k) (cycle t (next_in half) h) ≡ true)
  upper_on h lt =
      let met = low_met t ok half are h lt in
      let lt_g = cycle_within t ok half are met.0 h lt met.1 in
      let lt_n = next_within t ok half are met.0 lt_g in
      let on : is_in (next_in half met.0) (cycle t (next_in half) h) ≡ true = in_cycle t ok half are (next_in half met.0) h lt_n lt ((placed t ok half are met.0 lt_g).leads 1 ∙ same_cycle t ok half are met.0 h lt met.1) in
      elim (either_way (next_in half met.0)) [
        | inl up ↦ (edge_of (next_in half met.0), omega (arith, up.1, lt_n), subst (λ n. is_in n (cycle t (next_in half) h) ≡ true) up.1 on)
        | inr back ↦ (let e = edge_of (next_in half met.0) in
            let low = low_next t ok half are met.0 h lt met.1 in
            let at : target t (next_in half met.0) ≡ lo_of t (edge_of (next_in half met.0)) = ap (target t) back.1 ∙ target-down t (edge_of (next_in half met.0)) in
            let from : target t met.0 ≡ hi_of t (edge_of (next_in half met.0)) = sym (leaves_there t ok half are met.0 lt_g) ∙ (ap (origin t) back.1 ∙ origin-down t (edge_of (next_in half met.0))) in
            let up = ok.goes_up (edge_of (next_in half met.0)) (omega (arith, back.1, lt_n)) in
            absurd (omega (arith, low, at, from, met.2, up.0)))
      ]

  -- the half-edges of an outer cycle have its face
  face_on : (face : ℕ → ℕ) → IsFaces t (next_in half) face → (g h : ℕ) → h < half_edge_count t → is_in g (cycle t (next_in half) h) ≡ true → hangs t (next_in half) h ≡ false → face g ≡ face h
  face_on face faces g h lt here off =
      let lt_g = cycle_within t ok half are g h lt here in
      let same = same_cycle t ok half are g h lt here in
      faces.outer g lt_g (same_hangs t ok half are g h lt_g lt same ∙ off) ∙ (ap (λ l. suc (count_by (leads_face t (next_in half)) (numbers l))) same ∙ sym (faces.outer h lt off))

module _ (t : Table) (ok : IsTable t) (ended : AllEnds t) (even : AllEven t) (apart : NoConflict t) (member : ℕ → Bool) (half : HalfEdgeLists) (are : AreHalfEdges (group_table t member) half) (face : ℕ → ℕ) (faces : IsFaces (group_table t member) (next_in half) face) (h : ℕ) (lt : h < half_edge_count (group_table t member)) where
  stands : IsTable (group_table t member) × AllEnds (group_table t member) × AllEven (group_table t member) × NoConflict (group_table t member)
  stands = table_law t ok ended even apart member

  count_is : half_edge_count (group_table t member) ≡ 2 * length (kept_edges t member)
  count_is = ap (λ n. 2 * n) (length-chosen t ok (is_kept t member))

  -- the upper half-edge of edge k has its left covered where the group covers the old edge's upper side
  upper_is : (k : ℕ) → k < length (kept_edges t member) → left_covered (group_table t member) 0 (2 * k) ≡ covers_upper t member (get_or (kept_edges t member) k 0)
  upper_is k lk = left_up (group_table t member) 0 k ∙ group_upper_law t ok ended even apart member k lk

  abbrev shown : ℕ → Bool
  shown k = (face (2 * k) == face h) && covers_upper t member (get_or (kept_edges t member) k 0)

  to : is_polygon t member (next_in half) face (face h) ≡ true → left_covered (group_table t member) 0 h ≡ true
  to some =
      let found = member_any shown (numbers (length (kept_edges t member))) some in
      let parts = and_parts (face (2 * found.0) == face h) (covers_upper t member (get_or (kept_edges t member) found.0 0)) found.2 in
      let lk : found.0 < length (kept_edges t member) = ltb-true found.0 (length (kept_edges t member)) (all-at (λ n. nat_lt n (length (kept_edges t member))) (numbers (length (kept_edges t member))) found.0 (numbers_within (length (kept_edges t member))) found.1) in
      sym (one_on_face (group_table t member) stands.0 stands.1 stands.2 stands.3 half are face faces 0 (2 * found.0) h (omega (arith, count_is, lk)) lt (eqb-true (face (2 * found.0)) (face h) parts.0)) ∙ (upper_is found.0 lk ∙ parts.1)

  from : left_covered (group_table t member) 0 h ≡ true → is_polygon t member (next_in half) face (face h) ≡ true
  from covered =
      let outer = member_any (λ l. (leads_face (group_table t member) (next_in half) l && (face l == face h)) && left_covered (group_table t member) 0 l) (numbers (half_edge_count (group_table t member))) (sym (by_face (group_table t member) stands.0 stands.1 stands.2 stands.3 half are 0 face faces h lt) ∙ covered) in
      let parts = and_parts (leads_face (group_table t member) (next_in half) outer.0 && (face outer.0 == face h)) (left_covered (group_table t member) 0 outer.0) outer.2 in
      let inner = and_parts (leads_face (group_table t member) (next_in half) outer.0) (face outer.0 == face h) parts.0 in
      let off : hangs (group_table t member) (next_in half) outer.0 ≡ false = not-true (hangs (group_table t member) (next_in half) outer.0) (and_parts (leader (group_table t member) (next_in half) outer.0 == outer.0) (not (hangs (group_table t member) (next_in half) outer.0)) inner.0).1 in
      let lt_l : outer.0 < half_edge_count (group_table t member) = ltb-true outer.0 (half_edge_count (group_table t member)) (all-at (λ n. nat_lt n (half_edge_count (group_table t member))) (numbers (half_edge_count (group_table t member))) outer.0 (numbers_within (half_edge_count (group_table t member))) outer.1) in
      let up = upper_on (group_table t member) stands.0 half are outer.0 lt_l in
      let same : face (2 * up.0) ≡ face h = face_on (group_table t member) stands.0 half are face faces (2 * up.0) outer.0 lt_l up.2 off ∙ eqb-true (face outer.0) (face h) inner.1 in
      let lk : up.0 < length (kept_edges t member) = omega (arith, count_is, up.1) in
      any-found shown (numbers (length (kept_edges t member))) up.0 (in_numbers up.0 (length (kept_edges t member)) lk)
      (and_from (face (2 * up.0) == face h) (covers_upper t member (get_or (kept_edges t member) up.0 0)) (eq-eqb (face (2 * up.0)) (face h) same) (sym (upper_is up.0 lk) ∙ (one_on_face (group_table t member) stands.0 stands.1 stands.2 stands.3 half are face faces 0 (2 * up.0) h up.1 lt same ∙ covered)))

  pub polygon_is : is_polygon t member (next_in half) face (face h) ≡ left_covered (group_table t member) 0 h
  polygon_is = same-from_both (is_polygon t member (next_in half) face (face h)) (left_covered (group_table t member) 0 h) to from

pub group_faces : GroupFaces
group_faces t ok ended even apart member half are face faces h lt = polygon_is t ok ended even apart member half are face faces h lt
