-- The segments of a group's rings are the kept edges, each once: a ring has as its segments the edges of its cycle; each half-edge is on one cycle, that of its leader, and its face is a
-- polygon exactly where its left is covered; of the two half-edges of a kept edge that is one.
use Rattle.std.proofs.Common.{◌≡◌, ◌⊎◌, ℕ, zero, suc, ◌+◌, ◌*◌, ◌<◌, Bool, true, false, not, ◌&&◌, cond, List, [], ◌∷◌, ◌++◌, map, filter, length, refl, sym, ◌∙◌, ap, ap₂, subst, inl, inr, arith, add-one}
use Rattle.std.specs.Prelude.{nat_lt, ◌==◌}
use Rattle.std.specs.List.{range_with_len}
use Rattle.std.proofs.lemmas.Bool.{and_parts, and_from, and_left, and_right, cases_Bool, cases_eq, cond-true, cond-false, eq-eqb, eqb-true, ne_eqb, lt-ltb, ltb-true, both_ways, false_from_ne_true}
use Rattle.std.proofs.lemmas.List.Sums.{length-filter}
use Rattle.loc_spec_plane.specs.Lists.{is_in, numbers, exactly_one, odd_many}
use Rattle.loc_spec_plane.specs.Points.{Point, Edge, before, same_point, lies_on}
use Rattle.loc_spec_plane.specs.{Rays.crosses_right, Faces.hangs, Faces.leads_face, Faces.IsFaces}
use Rattle.loc_spec_plane.specs.Rings.{Ring, Rings, ring_segments, segments, segment_between, touches}
use Rattle.loc_spec_plane.specs.Tables.{Table, IsTable, AllEnds, AllEven, NoConflict, corner, edge, edge_numbers, lo_of, hi_of}
use Rattle.loc_spec_plane.specs.HalfEdges.{half_edge_count, cycle, edge_of, goes_up, leader, origin, target}
use Rattle.loc_spec_groups.specs.Groups.{closed_ring, closed_rings, face_rings, group_polygons, group_table, is_kept, is_polygon, kept_edges, leads_hanging_in, leads_outer, ring_from}
use Rattle.loc_laws_order.proofs.Booleans.{same-from_both}
use Rattle.loc_laws_order.proofs.Sides.{before-differ, before-asym_test, same_point_sym}
use Rattle.loc_laws_order.proofs.TableOrder.{corner_before, numbers_within}
use Rattle.loc_laws_order.proofs.HalfEdges.{edge-up, edge-down}
use Rattle.loc_half.specs.{HalfEdgeLists.HalfEdgeLists, HalfEdgeLists.AreHalfEdges, HalfEdgeLists.next_in, Rounds.after}
use Rattle.loc_half.proofs.{Going.after-next, Halves.edge-fits, Trails.trail}
use Rattle.loc_half.proofs.Orbits.{cycle_differs, cycle_is, cycle_within, in_cycle, leader_within, leads_itself, leaves_there, next_within, placed, same_cycle}
use Rattle.loc_laws_dissolve.specs.Laws.{left_covered}
use Rattle.loc_laws_dissolve.proofs.Chosen.{edge_is, length-chosen, odd_many-filter}
use Rattle.loc_laws_dissolve.proofs.{Covering.kept_cover, Covering.off_edge, Grouped.table_law, Upward.all_members}
use Rattle.loc_laws_faces.specs.Laws.{SegmentsOnce, RingsCover}
use Rattle.loc_laws_faces.proofs.Faces.{face_leader, face_numbered, numbers_more}
use Rattle.loc_laws_faces.proofs.Polygons.{one_half_each, polygon_is}
use Rattle.loc_laws_faces.proofs.Totals.{total, total-agree, total-append, total-by_place, total-cond, total-count, total-exchange, total-filter, total-flat_map, total-map, total-members, total-one, total-plus, total-same, total-zero, cond-both, is_odd, odd_by_count, none_by_count, one_if}

-- ---- the segments of one ring
module _ (t : Table) (ok : IsTable t) (half : HalfEdgeLists) (are : AreHalfEdges t half) where
  -- where a half-edge begins
  abbrev start : ℕ → Point
  start h = corner t (origin t h)

  -- the edge of a half-edge, by its points
  abbrev pub edge_at : ℕ → Edge
  edge_at h = edge t (edge_of h)

  -- its beginning and that of its next are the two ends of its edge
  one_segment : (h : ℕ) (rest : Ring) → h < half_edge_count t → ring_segments (start h ∷ start (next_in half h) ∷ rest) ≡ edge_at h ∷ ring_segments (start (next_in half h) ∷ rest)
  one_segment h rest lt =
      let there : start (next_in half h) ≡ corner t (target t h) = ap (corner t) (leaves_there t ok half are h lt) in
      cond-false (same_point (start h) (start (next_in half h))) _ _ (ap (same_point (start h)) there ∙ apart (cases_Bool (goes_up h)))
      ∙ ap (λ (s : Edge). s ∷ ring_segments (start (next_in half h) ∷ rest)) (ap (segment_between (start h)) there ∙ between (cases_Bool (goes_up h)))
    where
      fits : edge_of h < length t.ends
      fits = edge-fits t h lt

      up : before (corner t (lo_of t (edge_of h))) (corner t (hi_of t (edge_of h))) ≡ true
      up = let rise = ok.goes_up (edge_of h) (edge-fits t h lt) in corner_before t ok (lo_of t (edge_of h)) (hi_of t (edge_of h)) rise.0 rise.1

      apart : (goes_up h ≡ true) ⊎ (goes_up h ≡ false) → same_point (corner t (origin t h)) (corner t (target t h)) ≡ false
      apart (inl forth) = ap₂ (λ a b. same_point (corner t a) (corner t b)) (cond-true (goes_up h) (lo_of t (edge_of h)) (hi_of t (edge_of h)) forth) (cond-true (goes_up h) (hi_of t (edge_of h)) (lo_of t (edge_of h)) forth) ∙ before-differ (corner t (lo_of t (edge_of h))) (corner t (hi_of t (edge_of h))) up
      apart (inr back) = ap₂ (λ a b. same_point (corner t a) (corner t b)) (cond-false (goes_up h) (lo_of t (edge_of h)) (hi_of t (edge_of h)) back) (cond-false (goes_up h) (hi_of t (edge_of h)) (lo_of t (edge_of h)) back) ∙ same_point_sym (corner t (hi_of t (edge_of h))) (corner t (lo_of t (edge_of h))) (before-differ (corner t (lo_of t (edge_of h))) (corner t (hi_of t (edge_of h))) up)

      between : (goes_up h ≡ true) ⊎ (goes_up h ≡ false) → segment_between (corner t (origin t h)) (corner t (target t h)) ≡ edge t (edge_of h)
      between (inl forth) = ap₂ (λ a b. segment_between (corner t a) (corner t b)) (cond-true (goes_up h) (lo_of t (edge_of h)) (hi_of t (edge_of h)) forth) (cond-true (goes_up h) (hi_of t (edge_of h)) (lo_of t (edge_of h)) forth) ∙ cond-true _ _ _ up
      between (inr back) = ap₂ (λ a b. segment_between (corner t a) (corner t b)) (cond-false (goes_up h) (lo_of t (edge_of h)) (hi_of t (edge_of h)) back) (cond-false (goes_up h) (hi_of t (edge_of h)) (lo_of t (edge_of h)) back) ∙ cond-false _ _ _ (before-asym_test (corner t (lo_of t (edge_of h))) (corner t (hi_of t (edge_of h))) up)

  trail_segments : (s h : ℕ) → h < half_edge_count t → ring_segments (map start (trail (next_in half) s h) ++ (start (after (next_in half) s h) ∷ [])) ≡ map edge_at (trail (next_in half) s h)
  trail_segments zero h lt = refl
  trail_segments (suc zero) h lt = one_segment h [] lt
  trail_segments (suc (suc s)) h lt =
      let lt_n = next_within t ok half are h lt in
      let later : ring_segments (map start (trail (next_in half) (suc s) (next_in half h)) ++ (start (after (next_in half) (suc s) (next_in half h)) ∷ [])) ≡ map edge_at (trail (next_in half) (suc s) (next_in half h)) = trail_segments (suc s) (next_in half h) lt_n in
      one_segment h (map start (trail (next_in half) s (next_in half (next_in half h))) ++ (start (after (next_in half) (suc (suc s)) h) ∷ [])) lt
      ∙ ap (λ (l : List Edge). edge_at h ∷ l) (ap (λ k. ring_segments (map start (trail (next_in half) (suc s) (next_in half h)) ++ (start k ∷ []))) (sym (after-next (next_in half) (suc s) h)) ∙ later)

  -- the ring of a cycle, closed, has the edges of the cycle
  pub ring_edges : (face : ℕ → ℕ) (h : ℕ) → h < half_edge_count t → ring_segments (closed_ring (ring_from t (next_in half) face h)) ≡ map edge_at (cycle t (next_in half) h)
  ring_edges face h lt =
      let on = placed t ok half are h lt in
      let same = cycle_is t ok half are h on in
      ap (λ (l : List ℕ). ring_segments (map start l ++ (start h ∷ []))) same
      ∙ (ap (λ k. ring_segments (map start (trail (next_in half) on.period h) ++ (start k ∷ []))) (sym on.orbit.closes)
      ∙ (trail_segments on.period h lt ∙ ap (λ (l : List ℕ). map edge_at l) (sym same)))

  -- ---- sums over half-edges
  module _ (m : ℕ → ℕ) where
    -- over a cycle it is that over the half-edges with its leader
    cycle_total : (l : ℕ) → l < half_edge_count t → leader t (next_in half) l ≡ l → total m (cycle t (next_in half) l) ≡ total (λ g. cond (l == leader t (next_in half) g) (m g) 0) (numbers (half_edge_count t))
    cycle_total l lt leads =
        total-members m (cycle t (next_in half) l) (half_edge_count t) (cycle_differs t ok half are l lt) (all_members (λ k. nat_lt k (half_edge_count t)) (cycle t (next_in half) l) (λ g here. lt-ltb g (half_edge_count t) (cycle_within t ok half are g l lt here)))
        ∙ total-agree (λ g. nat_lt g (half_edge_count t)) (λ g. cond (is_in g (cycle t (next_in half) l)) (m g) 0) (λ g. cond (l == leader t (next_in half) g) (m g) 0) (numbers (half_edge_count t)) (numbers_within (half_edge_count t))
        (λ g is_g. ap (λ b. cond b (m g) 0) (same-from_both (is_in g (cycle t (next_in half) l)) (l == leader t (next_in half) g)
        (λ here. eq-eqb l (leader t (next_in half) g) (sym (same_cycle t ok half are g l lt here ∙ leads)))
        (λ same. in_cycle t ok half are g l (ltb-true g (half_edge_count t) is_g) lt (sym (eqb-true l (leader t (next_in half) g) same) ∙ sym leads))))

    module _ (face : ℕ → ℕ) (alike : (h : ℕ) → h < half_edge_count t → face (leader t (next_in half) h) ≡ face h) (F : ℕ) where
      -- l leads a cycle of face F
      abbrev leads_in : ℕ → Bool
      leads_in l = (leader t (next_in half) l == l) && (face l == F)

      split : (a b d : Bool) (n : ℕ) → cond ((a && not b) && d) n 0 + cond ((a && b) && d) n 0 ≡ cond (a && d) n 0
      split true true true n = omega arith
      split true true false n = omega arith
      split true false true n = omega arith
      split true false false n = omega arith
      split false b d n = omega arith

      -- over the cycles of a face it is that over the half-edges of the face
      pub face_total : (z : ℕ → ℕ) → ((l : ℕ) → l < half_edge_count t → z l ≡ total m (cycle t (next_in half) l))
          → total z (filter (leads_outer t (next_in half) face F) (numbers (half_edge_count t)) ++ filter (leads_hanging_in t (next_in half) face F) (numbers (half_edge_count t))) ≡ total (λ g. cond (face g == F) (m g) 0) (numbers (half_edge_count t))
      face_total z is_z =
          total-append z (filter (leads_outer t (next_in half) face F) (numbers (half_edge_count t))) (filter (leads_hanging_in t (next_in half) face F) (numbers (half_edge_count t)))
          ∙ (ap₂ (λ a b. a + b) (total-filter z (leads_outer t (next_in half) face F) (numbers (half_edge_count t))) (total-filter z (leads_hanging_in t (next_in half) face F) (numbers (half_edge_count t)))
          ∙ (sym (total-plus (λ l. cond (leads_outer t (next_in half) face F l) (z l) 0) (λ l. cond (leads_hanging_in t (next_in half) face F l) (z l) 0) (numbers (half_edge_count t)))
          ∙ (total-agree (λ l. nat_lt l (half_edge_count t)) (λ l. cond (leads_outer t (next_in half) face F l) (z l) 0 + cond (leads_hanging_in t (next_in half) face F l) (z l) 0) (λ l. total (λ g. cond (leads_in l && (l == leader t (next_in half) g)) (m g) 0) (numbers (half_edge_count t))) (numbers (half_edge_count t)) (numbers_within (half_edge_count t)) (λ l is_l. one_cycle l (ltb-true l (half_edge_count t) is_l))
          ∙ (total-exchange (λ l g. cond (leads_in l && (l == leader t (next_in half) g)) (m g) 0) (numbers (half_edge_count t)) (numbers (half_edge_count t))
          ∙ total-agree (λ g. nat_lt g (half_edge_count t)) (λ g. total (λ l. cond (leads_in l && (l == leader t (next_in half) g)) (m g) 0) (numbers (half_edge_count t))) (λ g. cond (face g == F) (m g) 0) (numbers (half_edge_count t)) (numbers_within (half_edge_count t)) (λ g is_g. one_leader_of g (ltb-true g (half_edge_count t) is_g))))))
        where
          one_cycle : (l : ℕ) → l < half_edge_count t → cond (leads_outer t (next_in half) face F l) (z l) 0 + cond (leads_hanging_in t (next_in half) face F l) (z l) 0 ≡ total (λ g. cond (leads_in l && (l == leader t (next_in half) g)) (m g) 0) (numbers (half_edge_count t))
          one_cycle l lt =
              split (leader t (next_in half) l == l) (hangs t (next_in half) l) (face l == F) (z l)
              ∙ (elim (cases_Bool (leader t (next_in half) l == l)) [
                | inl leads ↦ ap (λ n. cond (leads_in l) n 0) (is_z l lt ∙ cycle_total l lt (eqb-true (leader t (next_in half) l) l leads))
                | inr other ↦ cond-false (leads_in l) (z l) 0 (and_left (leader t (next_in half) l == l) (face l == F) other) ∙ sym (cond-false (leads_in l) (total (λ g. cond (l == leader t (next_in half) g) (m g) 0) (numbers (half_edge_count t))) 0 (and_left (leader t (next_in half) l == l) (face l == F) other))
              ]
              ∙ (total-cond (leads_in l) (λ g. cond (l == leader t (next_in half) g) (m g) 0) (numbers (half_edge_count t))
              ∙ total-same (λ g. cond (leads_in l) (cond (l == leader t (next_in half) g) (m g) 0) 0) (λ g. cond (leads_in l && (l == leader t (next_in half) g)) (m g) 0) (numbers (half_edge_count t)) (λ g. cond-both (leads_in l) (l == leader t (next_in half) g) (m g))))

          one_leader_of : (g : ℕ) → g < half_edge_count t → total (λ l. cond (leads_in l && (l == leader t (next_in half) g)) (m g) 0) (numbers (half_edge_count t)) ≡ cond (face g == F) (m g) 0
          one_leader_of g lt =
              total-same (λ l. cond (leads_in l && (l == leader t (next_in half) g)) (m g) 0) (λ l. cond (l == leader t (next_in half) g) (cond (face g == F) (m g) 0) 0) (numbers (half_edge_count t)) (λ l. each l)
              ∙ total-one (cond (face g == F) (m g) 0) (leader t (next_in half) g) 0 (half_edge_count t) (omega arith) (let within = leader_within t ok half are g lt in omega (arith, within))
            where
              leads_is : leads_in (leader t (next_in half) g) ≡ (face g == F)
              leads_is = ap₂ (λ a b. a && (b == F)) (eq-eqb (leader t (next_in half) (leader t (next_in half) g)) (leader t (next_in half) g) (leads_itself t ok half are g lt)) (alike g lt)

              each : (l : ℕ) → cond (leads_in l && (l == leader t (next_in half) g)) (m g) 0 ≡ cond (l == leader t (next_in half) g) (cond (face g == F) (m g) 0) 0
              each l = elim (cases_eq l (leader t (next_in half) g)) [
                | inl same ↦ ap (λ b. cond (leads_in l && b) (m g) 0) (eq-eqb l (leader t (next_in half) g) same) ∙ (ap (λ b. cond b (m g) 0) (and_yes (leads_in l) ∙ (ap leads_in same ∙ leads_is)) ∙ sym (cond-true (l == leader t (next_in half) g) (cond (face g == F) (m g) 0) 0 (eq-eqb l (leader t (next_in half) g) same)))
                | inr other ↦ cond-false (leads_in l && (l == leader t (next_in half) g)) (m g) 0 (and_right (leads_in l) (l == leader t (next_in half) g) (ne_eqb l (leader t (next_in half) g) other)) ∙ sym (cond-false (l == leader t (next_in half) g) (cond (face g == F) (m g) 0) 0 (ne_eqb l (leader t (next_in half) g) other))
              ]
                where
                  and_yes : (b : Bool) → (b && true) ≡ b
                  and_yes true = refl
                  and_yes false = refl

-- ---- of two half-edges one: the sum over half-edges that pass is that over edges
by_edges : (pass : ℕ → Bool) (m : ℕ → ℕ) (n : ℕ) → ((k : ℕ) → k < n → exactly_one (pass (2 * k)) (pass (2 * k + 1)) ≡ true) → total (λ h. cond (pass h) (m (edge_of h)) 0) (numbers (2 * n)) ≡ total m (numbers n)
by_edges pass m zero one = refl
by_edges pass m (suc n) one =
    let w : ℕ → ℕ = λ h. cond (pass h) (m (edge_of h)) 0 in
    let twice : 2 * suc n ≡ (2 * n + 1) + 1 = omega arith in
    let rest : total (λ h. cond (pass h) (m (edge_of h)) 0) (numbers (2 * n)) ≡ total m (numbers n) = by_edges pass m n (λ k lt. one k (omega arith)) in
    ap (λ k. total (λ h. cond (pass h) (m (edge_of h)) 0) (numbers k)) twice
    ∙ (push (λ h. cond (pass h) (m (edge_of h)) 0) (2 * n + 1)
    ∙ (ap (λ a. a + cond (pass (2 * n + 1)) (m (edge_of (2 * n + 1))) 0) (push (λ h. cond (pass h) (m (edge_of h)) 0) (2 * n) ∙ ap (λ a. a + cond (pass (2 * n)) (m (edge_of (2 * n))) 0) rest)
    ∙ (ap₂ (λ a b. (total m (numbers n) + cond (pass (2 * n)) (m a) 0) + cond (pass (2 * n + 1)) (m b) 0) (edge-up n) (edge-down n)
    ∙ (either (pass (2 * n)) (pass (2 * n + 1)) (total m (numbers n)) (m n) (one n (omega arith))
    ∙ (sym (push m n) ∙ ap (λ k. total m (numbers k)) (add-one n))))))
  where
    push : (f : ℕ → ℕ) (k : ℕ) → total f (numbers (k + 1)) ≡ total f (numbers k) + f k
    push f k = ap (total f) (numbers_more k) ∙ (total-append f (numbers k) (k ∷ []) ∙ (let last : f k + 0 ≡ f k = omega arith in ap (λ a. total f (numbers k) + a) last))

    either : (a b : Bool) (x v : ℕ) → exactly_one a b ≡ true → (x + cond a v 0) + cond b v 0 ≡ x + v
    either true true x v h = cc
    either true false x v h = omega arith
    either false true x v h = omega arith
    either false false x v h = cc

module _ (t : Table) (ok : IsTable t) (ended : AllEnds t) (even : AllEven t) (apart : NoConflict t) (member : ℕ → Bool) (half : HalfEdgeLists) (are : AreHalfEdges (group_table t member) half) (face : ℕ → ℕ) (faces : IsFaces (group_table t member) (next_in half) face) (m : Edge → ℕ) where
  own : IsTable (group_table t member) × AllEnds (group_table t member) × AllEven (group_table t member) × NoConflict (group_table t member)
  own = table_law t ok ended even apart member

  abbrev all : List ℕ
  all = numbers (half_edge_count (group_table t member))

  -- what an edge counts, by a half-edge
  abbrev weight : ℕ → ℕ
  weight h = m (edge (group_table t member) (edge_of h))

  -- the faces from 1 on
  abbrev many : ℕ
  many = length (filter (leads_face (group_table t member) (next_in half)) (numbers (half_edge_count (group_table t member))))

  -- a ring
  abbrev ring_total : ℕ → ℕ
  ring_total l = total m (ring_segments (closed_ring (ring_from (group_table t member) (next_in half) face l)))

  ring_total_is : (l : ℕ) → l < half_edge_count (group_table t member) → ring_total l ≡ total weight (cycle (group_table t member) (next_in half) l)
  ring_total_is l lt = ap (total m) (ring_edges (group_table t member) own.0 half are face l lt) ∙ total-map m (edge_at (group_table t member) own.0 half are) (cycle (group_table t member) (next_in half) l)

  alike : (h : ℕ) → h < half_edge_count (group_table t member) → face (leader (group_table t member) (next_in half) h) ≡ face h
  alike h lt = face_leader (group_table t member) own.0 own.1 own.2 own.3 half are 0 face faces h lt

  -- the rings of a face
  rings_total : (F : ℕ) → total (λ ring. total m (ring_segments (closed_ring ring))) (face_rings (group_table t member) (next_in half) face F) ≡ total (λ g. cond (face g == F) (weight g) 0) all
  rings_total F =
      total-map (λ ring. total m (ring_segments (closed_ring ring))) (ring_from (group_table t member) (next_in half) face) (filter (leads_outer (group_table t member) (next_in half) face F) all ++ filter (leads_hanging_in (group_table t member) (next_in half) face F) all)
      ∙ face_total (group_table t member) own.0 half are weight face alike F ring_total ring_total_is

  -- a half-edge stands in the polygons where its left is covered
  one_face : (g : ℕ) → g < half_edge_count (group_table t member) → total (λ F. cond (is_polygon t member (next_in half) face F && (face g == F)) (weight g) 0) (range_with_len 1 many) ≡ cond (left_covered (group_table t member) 0 g) (weight g) 0
  one_face g lt = elim (cases_Bool (left_covered (group_table t member) 0 g)) [
    | inl covered ↦ (let at = face_numbered (group_table t member) own.0 own.1 own.2 own.3 half are 0 face faces g lt covered in
        let size = length-filter (leads_face (group_table t member) (next_in half)) (numbers (half_edge_count (group_table t member))) in
        total-same (λ F. cond (is_polygon t member (next_in half) face F && (face g == F)) (weight g) 0) (λ F. cond (F == face g) (weight g) 0) (range_with_len 1 many) (λ F. passes F covered)
        ∙ (total-one (weight g) (face g) 1 many (omega (arith, at.0)) (omega (arith, at.1, size)) ∙ sym (cond-true (left_covered (group_table t member) 0 g) (weight g) 0 covered)))
    | inr off ↦ total-same (λ F. cond (is_polygon t member (next_in half) face F && (face g == F)) (weight g) 0) (λ F. 0) (range_with_len 1 many) (λ F. cond-false (is_polygon t member (next_in half) face F && (face g == F)) (weight g) 0 (fails F off))
        ∙ (total-zero (range_with_len 1 many) ∙ sym (cond-false (left_covered (group_table t member) 0 g) (weight g) 0 off))
  ]
    where
      is_left : is_polygon t member (next_in half) face (face g) ≡ left_covered (group_table t member) 0 g
      is_left = polygon_is t ok ended even apart member half are face faces g lt

      fails : (F : ℕ) → left_covered (group_table t member) 0 g ≡ false → (is_polygon t member (next_in half) face F && (face g == F)) ≡ false
      fails F off = false_from_ne_true _ (λ both. (let parts = and_parts (is_polygon t member (next_in half) face F) (face g == F) both in both_ways (left_covered (group_table t member) 0 g) off (sym is_left ∙ subst (λ k. is_polygon t member (next_in half) face k ≡ true) (sym (eqb-true (face g) F parts.1)) parts.0)))

      passes : (F : ℕ) → left_covered (group_table t member) 0 g ≡ true → cond (is_polygon t member (next_in half) face F && (face g == F)) (weight g) 0 ≡ cond (F == face g) (weight g) 0
      passes F covered = elim (cases_eq F (face g)) [
        | inl same ↦ cond-true (is_polygon t member (next_in half) face F && (face g == F)) (weight g) 0 (and_from (is_polygon t member (next_in half) face F) (face g == F) (ap (is_polygon t member (next_in half) face) same ∙ (is_left ∙ covered)) (eq-eqb (face g) F (sym same))) ∙ sym (cond-true (F == face g) (weight g) 0 (eq-eqb F (face g) same))
        | inr other ↦ cond-false (is_polygon t member (next_in half) face F && (face g == F)) (weight g) 0 (and_right (is_polygon t member (next_in half) face F) (face g == F) (ne_eqb (face g) F (λ h. other (sym h)))) ∙ sym (cond-false (F == face g) (weight g) 0 (ne_eqb F (face g) other))
      ]

  -- all rings of the group
  pub group_total : total m (segments (closed_rings (group_polygons t member (next_in half) face))) ≡ total (λ e. m (edge t e)) (kept_edges t member)
  group_total =
      total-flat_map m ring_segments (closed_rings (group_polygons t member (next_in half) face))
      ∙ (total-flat_map (λ ring. total m (ring_segments ring)) (λ (rings : Rings). map closed_ring rings) (group_polygons t member (next_in half) face)
      ∙ (total-same (λ (rings : Rings). total (λ ring. total m (ring_segments ring)) (map closed_ring rings)) (λ (rings : Rings). total (λ ring. total m (ring_segments (closed_ring ring))) rings) (group_polygons t member (next_in half) face) (λ rings. total-map (λ ring. total m (ring_segments ring)) closed_ring rings)
      ∙ (total-map (λ (rings : Rings). total (λ ring. total m (ring_segments (closed_ring ring))) rings) (face_rings (group_table t member) (next_in half) face) (filter (is_polygon t member (next_in half) face) (range_with_len 1 many))
      ∙ (total-same (λ F. total (λ ring. total m (ring_segments (closed_ring ring))) (face_rings (group_table t member) (next_in half) face F)) (λ F. total (λ g. cond (face g == F) (weight g) 0) all) (filter (is_polygon t member (next_in half) face) (range_with_len 1 many)) rings_total
      ∙ (total-filter (λ F. total (λ g. cond (face g == F) (weight g) 0) all) (is_polygon t member (next_in half) face) (range_with_len 1 many)
      ∙ (total-same (λ F. cond (is_polygon t member (next_in half) face F) (total (λ g. cond (face g == F) (weight g) 0) all) 0) (λ F. total (λ g. cond (is_polygon t member (next_in half) face F && (face g == F)) (weight g) 0) all) (range_with_len 1 many)
      (λ F. total-cond (is_polygon t member (next_in half) face F) (λ g. cond (face g == F) (weight g) 0) all ∙ total-same (λ g. cond (is_polygon t member (next_in half) face F) (cond (face g == F) (weight g) 0) 0) (λ g. cond (is_polygon t member (next_in half) face F && (face g == F)) (weight g) 0) all (λ g. cond-both (is_polygon t member (next_in half) face F) (face g == F) (weight g)))
      ∙ (total-exchange (λ F g. cond (is_polygon t member (next_in half) face F && (face g == F)) (weight g) 0) (range_with_len 1 many) all
      ∙ (total-agree (λ g. nat_lt g (half_edge_count (group_table t member))) (λ g. total (λ F. cond (is_polygon t member (next_in half) face F && (face g == F)) (weight g) 0) (range_with_len 1 many)) (λ g. cond (left_covered (group_table t member) 0 g) (weight g) 0) all (numbers_within (half_edge_count (group_table t member))) (λ g is_g. one_face g (ltb-true g (half_edge_count (group_table t member)) is_g))
      ∙ (ap (λ n. total (λ g. cond (left_covered (group_table t member) 0 g) (weight g) 0) (numbers (2 * n))) (length-chosen t ok (is_kept t member))
      ∙ (by_edges (left_covered (group_table t member) 0) (λ k. m (edge (group_table t member) k)) (length (kept_edges t member)) (λ k lt. one_half_each t ok ended even apart member k lt)
      ∙ total-by_place (λ e. m (edge t e)) 0 (kept_edges t member) 0 (λ k. m (edge (group_table t member) k)) (λ k lt. (let from_zero : 0 + k ≡ k = omega arith in ap (λ j. m (edge (group_table t member) j)) from_zero ∙ ap m (edge_is t ok (is_kept t member) k lt)))))))))))))

pub segments_once : SegmentsOnce
segments_once t ok ended even apart member half are face faces test =
    total-count test (segments (closed_rings (group_polygons t member (next_in half) face)))
    ∙ (group_total t ok ended even apart member half are face faces (λ e. one_if (test e)) ∙ sym (total-count (λ e. test (edge t e)) (kept_edges t member)))

pub rings_cover : RingsCover
rings_cover t ok ended even apart member half are face faces p clear =
    ap₂ (λ a b. not a && b) untouched parity ∙ kept_cover t ok ended even apart member p clear
  where
    untouched : touches (closed_rings (group_polygons t member (next_in half) face)) p ≡ false
    untouched = none_by_count (λ s. lies_on s p) (segments (closed_rings (group_polygons t member (next_in half) face)))
        (group_total t ok ended even apart member half are face faces (λ e. one_if (lies_on e p))
        ∙ (total-filter (λ e. one_if (lies_on (edge t e) p)) (is_kept t member) (edge_numbers t)
        ∙ (total-agree (λ e. nat_lt e (length t.ends)) (λ e. cond (is_kept t member e) (one_if (lies_on (edge t e) p)) 0) (λ e. 0) (edge_numbers t) (numbers_within (length t.ends)) (λ e is_e. ap (λ b. cond (is_kept t member e) (one_if b) 0) (off_edge t p clear e (ltb-true e (length t.ends) is_e)) ∙ none (is_kept t member e))
        ∙ total-zero (edge_numbers t))))
      where
        none : (b : Bool) → cond {A = ℕ} b 0 0 ≡ 0
        none true = refl
        none false = refl

    parity : odd_many (λ s. crosses_right s p) (segments (closed_rings (group_polygons t member (next_in half) face))) ≡ odd_many (λ e. is_kept t member e && crosses_right (edge t e) p) (edge_numbers t)
    parity =
        odd_by_count (λ s. crosses_right s p) (segments (closed_rings (group_polygons t member (next_in half) face)))
        ∙ (ap is_odd (group_total t ok ended even apart member half are face faces (λ e. one_if (crosses_right e p)))
        ∙ (sym (odd_by_count (λ e. crosses_right (edge t e) p) (kept_edges t member))
        ∙ odd_many-filter (λ e. crosses_right (edge t e) p) (is_kept t member) (edge_numbers t)))
