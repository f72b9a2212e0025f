-- The polygons of a group: each has an outer ring, and each ring has three corners or more, which are corners of the layer.
use Rattle.std.proofs.Common.{◌≡◌, ◌≢◌, ℕ, zero, suc, ◌+◌, ◌*◌, ◌<◌, Bool, true, ◌&&◌, List, [], ◌∷◌, ◌++◌, length, get_or, map, filter, sym, ◌∙◌, ap, subst, inl, inr, arith}
use Rattle.std.specs.Prelude.{nat_lt, ◌==◌}
use Rattle.std.specs.List.{AllByRecursion, range_with_len}
use Rattle.std.proofs.lemmas.Bool.{and_from, and_parts, eqb-true, ltb-true, true≢false}
use Rattle.std.proofs.lemmas.List.{length-map}
use Rattle.loc_spec_plane.specs.{Lists.is_in, Lists.numbers, Points.IsGridPoint, Faces.IsFaces, Faces.leads_face}
use Rattle.loc_spec_plane.specs.Tables.{Table, IsTable, AllEnds, AllEven, NoConflict, corner}
use Rattle.loc_spec_plane.specs.HalfEdges.{cycle, edge_of, half_edge_count, origin}
use Rattle.loc_laws_order.proofs.{Kept.is_in-filter, TableOrder.numbers_within, Unique.all-at}
use Rattle.loc_half.specs.HalfEdgeLists.{HalfEdgeLists, AreHalfEdges, next_in}
use Rattle.loc_half.proofs.Halves.{either_way, edge-fits, origin-down, origin-up}
use Rattle.loc_half.proofs.{Orbits.cycle_is, Orbits.next_within, Orbits.placed, Trails.trail}
use Rattle.loc_laws_rays.proofs.Picked.{member_any}
use Rattle.loc_spec_groups.specs.Groups.{chosen_table, covers_upper, face_rings, group_polygons, group_table, is_kept, is_polygon, kept_edges, leads_hanging_in, leads_outer, ring_from}
use Rattle.loc_laws_dissolve.specs.Laws.{left_covered}
use Rattle.loc_laws_dissolve.proofs.{Chosen.length-chosen, Grouped.table_law}
use Rattle.loc_laws_faces.proofs.{Faces.by_face, Polygons.group_faces, Polygons.one_half_each}
use Rattle.loc_laws_regroup.specs.Laws.{ArePolygons, GroupsAreOpen, IsOpenRing}
use Rattle.loc_laws_regroup.proofs.Cycles.{cycle_long}
use Rattle.loc_laws_regroup.proofs.Lists.{all_append, all_each, all_map, all_by_number, all_kept, kept_pass, all_to}

-- the numbers below n that pass a test are below n
below : (a m : ℕ) → AllByRecursion (λ k. k < a + m) (range_with_len a m)
below a zero = tt
below a (suc m) = (omega arith, all_to (λ k. k < (a + 1) + m) (λ k. k < a + suc m) (λ k less. omega (arith, less)) (range_with_len (a + 1) m) (below (a + 1) m))

kept_below : (p : ℕ → Bool) (n : ℕ) → AllByRecursion (λ k. k < n) (filter p (numbers n))
kept_below p n = all_kept (λ k. k < n) p (numbers n) (all_to (λ k. k < 0 + n) (λ k. k < n) (λ k less. omega (arith, less)) (numbers n) (below 0 n))

-- ---- a table with its corners on the grid
module _ (t : Table) (ok : IsTable t) (half : HalfEdgeLists) (are : AreHalfEdges t half) (grid : AllByRecursion IsGridPoint t.corners) where
  start_on : (h : ℕ) → h < half_edge_count t → IsGridPoint (corner t (origin t h))
  start_on h lt =
      let rise = ok.goes_up (edge_of h) (edge-fits t h lt) in
      let within : origin t h < length t.corners = elim (either_way h) [
        | inl up ↦ (let is = ap (origin t) up.1 ∙ origin-up t (edge_of h) in omega (arith, is, rise.0, rise.1))
        | inr down ↦ (let is = ap (origin t) down.1 ∙ origin-down t (edge_of h) in omega (arith, is, rise.1))
      ] in
      all_by_number IsGridPoint t.corners grid (origin t h) _ within

  trail_on : (s h : ℕ) → h < half_edge_count t → AllByRecursion IsGridPoint (map (λ g. corner t (origin t g)) (trail (next_in half) s h))
  trail_on zero h lt = tt
  trail_on (suc s) h lt = (start_on h lt, trail_on s (next_in half h) (next_within t ok half are h lt))

  ring_on : (face : ℕ → ℕ) (h : ℕ) → h < half_edge_count t → AllByRecursion IsGridPoint (ring_from t (next_in half) face h)
  ring_on face h lt =
      let on = placed t ok half are h lt in
      subst (λ gs. AllByRecursion IsGridPoint (map (λ g. corner t (origin t g)) gs)) (sym (cycle_is t ok half are h on)) (trail_on on.period h lt)

-- ---- the table of a group
corners_on : (t : Table) (member : ℕ → Bool) → AllByRecursion IsGridPoint t.corners → AllByRecursion IsGridPoint (group_table t member).corners
unfolding chosen_table
corners_on t member grid = all_map (λ c. c < length t.corners) IsGridPoint (corner t) (λ c less. all_by_number IsGridPoint t.corners grid c _ less) _ (kept_below _ (length t.corners))

module _ (t : Table) (ok : IsTable t) (ended : AllEnds t) (even : AllEven t) (apart : NoConflict t) (grid : AllByRecursion IsGridPoint t.corners) (member : ℕ → Bool)
    (half : HalfEdgeLists) (are : AreHalfEdges (group_table t member) half) (face : ℕ → ℕ) (faces : IsFaces (group_table t member) (next_in half) face) where
  stands : IsTable (group_table t member) × AllEnds (group_table t member) × AllEven (group_table t member) × NoConflict (group_table t member)
  stands = table_law t ok ended even apart member

  as_many : length (group_table t member).ends ≡ length (kept_edges t member)
  as_many = length-chosen t ok (is_kept t member)

  ring_open : (h : ℕ) → h < half_edge_count (group_table t member) → IsOpenRing (ring_from (group_table t member) (next_in half) face h)
  ring_open h lt =
      let long = cycle_long (group_table t member) stands.0 stands.1 stands.2 stands.3 half are (λ k lk. one_half_each t ok ended even apart member k (omega (arith, lk, as_many))) h lt in
      let same = length-map (cycle (group_table t member) (next_in half) h) (λ g. corner (group_table t member) (origin (group_table t member) g)) in
      record {
        long = omega (arith, long, same);
        on_grid = ring_on (group_table t member) stands.0 half are (corners_on t member grid) face h lt;
      }

  rings_open : (f : ℕ) → AllByRecursion IsOpenRing (face_rings (group_table t member) (next_in half) face f)
  rings_open f = all_map (λ h. h < half_edge_count (group_table t member)) IsOpenRing (ring_from (group_table t member) (next_in half) face) ring_open
      (filter (leads_outer (group_table t member) (next_in half) face f) (numbers (half_edge_count (group_table t member))) ++ filter (leads_hanging_in (group_table t member) (next_in half) face f) (numbers (half_edge_count (group_table t member))))
      (all_append (λ h. h < half_edge_count (group_table t member)) _ _ (kept_below _ (half_edge_count (group_table t member))) (kept_below _ (half_edge_count (group_table t member))))

  -- where the left is covered, the face has an outer cycle
  some_outer : (h : ℕ) → h < half_edge_count (group_table t member) → left_covered (group_table t member) 0 h ≡ true → face_rings (group_table t member) (next_in half) face (face h) ≢ []
  some_outer h lt covered =
      let outer = member_any (λ l. (leads_face (group_table t member) (next_in half) l && (face l == face h)) && left_covered (group_table t member) 0 l) (numbers (half_edge_count (group_table t member)))
      (sym (by_face (group_table t member) stands.0 stands.1 stands.2 stands.3 half are 0 face faces h lt) ∙ covered) in
      none_of (filter (leads_outer (group_table t member) (next_in half) face (face h)) (numbers (half_edge_count (group_table t member)))) (filter (leads_hanging_in (group_table t member) (next_in half) face (face h)) (numbers (half_edge_count (group_table t member)))) outer.0
      (is_in-filter (leads_outer (group_table t member) (next_in half) face (face h)) outer.0 (numbers (half_edge_count (group_table t member)))
      ∙ and_from _ _ outer.1 (and_parts (leads_face (group_table t member) (next_in half) outer.0 && (face outer.0 == face h)) (left_covered (group_table t member) 0 outer.0) outer.2).0)
    where
      none_of : (hs gs : List ℕ) (h : ℕ) → is_in h hs ≡ true → map (ring_from (group_table t member) (next_in half) face) (hs ++ gs) ≢ []
      none_of [] gs h here = absurd (true≢false (sym here))
      none_of (x ∷ hs) gs h here = λ none. cc

  -- a face that the group covers is that of a half-edge with its left covered
  some_half : (f : ℕ) → is_polygon t member (next_in half) face f ≡ true → (h : ℕ) × (h < half_edge_count (group_table t member)) × (face h ≡ f)
  some_half f shown =
      let found = member_any (λ k. (face (2 * k) == f) && covers_upper t member (get_or (kept_edges t member) k 0)) (numbers (length (kept_edges t member))) shown in
      let parts = and_parts (face (2 * found.0) == f) (covers_upper t member (get_or (kept_edges t member) found.0 0)) found.2 in
      let lk = in_below (length (kept_edges t member)) found.0 found.1 in
      (2 * found.0, omega (arith, lk, as_many), eqb-true (face (2 * found.0)) f parts.0)
    where
      in_below : (n k : ℕ) → is_in k (numbers n) ≡ true → k < n
      in_below n k here = ltb-true k n (all-at (λ m. nat_lt m n) (numbers n) k (numbers_within n) here)

  some_ring : (f : ℕ) → is_polygon t member (next_in half) face f ≡ true → face_rings (group_table t member) (next_in half) face f ≢ []
  some_ring f shown =
      let h = some_half f shown in
      subst (λ g. face_rings (group_table t member) (next_in half) face g ≢ []) h.2
      (some_outer h.0 h.1 (sym (group_faces t ok ended even apart member half are face faces h.0 h.1) ∙ (ap (is_polygon t member (next_in half) face) h.2 ∙ shown)))

  pub polygons_open : ArePolygons (group_polygons t member (next_in half) face)
  polygons_open = all_map (λ f. is_polygon t member (next_in half) face f ≡ true) (λ rings. (rings ≢ []) × AllByRecursion IsOpenRing rings) (face_rings (group_table t member) (next_in half) face)
      (λ f shown. (some_ring f shown, rings_open f)) _ (kept_pass (is_polygon t member (next_in half) face) _)

pub groups_open : GroupsAreOpen
groups_open t ok ended even apart grid member half are face faces = polygons_open t ok ended even apart (all_each IsGridPoint t.corners grid) member half are face faces
