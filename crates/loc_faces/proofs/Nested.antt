-- Hanging cycles, in the order of their least corners: the floor of a corner begins before it, so its cycle has a lesser corner, and its face stays.
use Rattle.std.proofs.Common.{◌≡◌, ◌≢◌, ℕ, ◌+◌, ◌*◌, ◌<◌, ◌≤◌, Bool, true, false, ◌&&◌, List, length, get_or, set, Option, Some, None, refl, sym, ◌∙◌, ap, subst, inl, inr, arith, get_or-set_same, get_or-set_other, length-set}
use Rattle.std.specs.Prelude.{◌==◌, ◌||◌, IfSome}
use Rattle.std.proofs.lemmas.Bool.{cases_eq, cases_lt, and_parts, and_from, both_ways, eq-eqb, eqb-true, not-true}
use Rattle.loc_spec_plane.specs.Points.{before, same_point, up_to, is_above}
use Rattle.loc_spec_plane.specs.Tables.{Table, IsTable, corner, edge, lo_of, hi_of}
use Rattle.loc_spec_plane.specs.Places.{IsFloor, alive_at, lower_of}
use Rattle.loc_spec_plane.specs.HalfEdges.{half_edge_count, cycle, edge_of, origin, target}
use Rattle.loc_spec_plane.specs.Faces.{face_above, hangs, least_corner}
use Rattle.loc_laws_order.proofs.{Sides.above-not_low, Sides.same_point_refl, AliveAt.alive_parts}
use Rattle.loc_laws_order.proofs.TableOrder.{corner_before, lo_rises}
use Rattle.loc_edges.specs.Floors.{FloorLists, AreFloors}
use Rattle.loc_half.specs.HalfEdgeLists.{HalfEdgeLists, AreHalfEdges, leader_in, next_in}
use Rattle.loc_half.proofs.Halves.{either_way, edge-fits, origin-up, target-down, target-up, target-fits}
use Rattle.loc_half.proofs.Orbits.{comes_from, leaves_there}
use Rattle.loc_faces.specs.Cycles.{AreHanging, AreLeast, face_by}
use Rattle.loc_laws_rays.proofs.Picked.{member_any, least-le}
use Rattle.loc_faces.proofs.Leaders.{leads, leads_within, on_same, same_on}

-- the face above the floor of the least corner of a cycle
abbrev pub face_over : Table → HalfEdgeLists → FloorLists → List ℕ → ℕ → ℕ
face_over t half floors of_cycle h = face_above (face_by half of_cycle) (get_or floors.of_corner (least_corner t (next_in half) h) None)

-- the faces so far: those of the outer cycles stay, and a hanging cycle has the face above the floor of its least corner, if an edge before k goes down to that
pub record IsNestedSoFar (t : Table) (half : HalfEdgeLists) (floors : FloorLists) (old of_cycle : List ℕ) (k : ℕ) : Type 0 where
  pub as_many : length of_cycle ≡ half_edge_count t
  pub outer : (h : ℕ) → h < half_edge_count t → hangs t (next_in half) h ≡ false → face_by half of_cycle h ≡ face_by half old h
  pub nested : (h e : ℕ) → h < half_edge_count t → hangs t (next_in half) h ≡ true → e < k → e < length t.ends → leader_in half (2 * e + 1) ≡ leader_in half h → lo_of t e ≡ least_corner t (next_in half) h → face_by half of_cycle h ≡ face_over t half floors of_cycle h
  pub within : (most : ℕ) → ((l : ℕ) → get_or old l 0 ≤ most) → (l : ℕ) → get_or of_cycle l 0 ≤ most

-- the face above a floor, where the face of the floor's cycle is the same by two lists
pub above_same : (f g : ℕ → ℕ) (floor : Option ℕ) → ((e : ℕ) → floor ≡ Some e → f (2 * e) ≡ g (2 * e)) → face_above f floor ≡ face_above g floor
above_same f g None same = refl
above_same f g (Some e) same = same e refl

-- what every face is at most
pub above_within : (f : ℕ → ℕ) (most : ℕ) (floor : Option ℕ) → ((h : ℕ) → f h ≤ most) → face_above f floor ≤ most
above_within f most None within = omega arith
above_within f most (Some e) within = within (2 * e)

module _ (t : Table) (ok : IsTable t) where
  -- a floor begins before the corner that it is the floor of
  pub floor_begins : (c f : ℕ) → c < length t.corners → IsFloor t (corner t c) (Some f) → (f < length t.ends) × (lo_of t f < c)
  floor_begins c f lt floor =
      let both = and_parts (alive_at t (corner t c) f) (is_above (edge t f) (corner t c)) floor.0 in
      let lives = alive_parts t (corner t c) f both.0 in
      let from = and_parts (up_to (corner t (lo_of t f)) (corner t c)) (before (corner t c) (corner t (hi_of t f))) lives.1 in (
        lives.0,
        elim (cases_lt (lo_of t f) c) [
          | inl less ↦ less
          | inr past ↦ elim (cases_eq c (lo_of t f)) [
            | inl same ↦ absurd (both_ways (same_point (corner t c) (corner t (lo_of t f))) (above-not_low (edge t f) (corner t c) both.1) (subst (λ k. same_point (corner t c) (corner t k) ≡ true) same (same_point_refl (corner t c))))
            | inr other ↦ (let ne : c ≢ lo_of t f = other in
                let up = ok.goes_up f lives.0 in
                absurd (both_ways (before (corner t c) (corner t (lo_of t f))) (not-true (before (corner t c) (corner t (lo_of t f))) from.0) (corner_before t ok c (lo_of t f) (omega (arith, past, ne)) (omega (arith, up.0, up.1)))))
          ]
        ],
      )

  -- and is one of the edges
  pub floor_fits : (c : ℕ) (floor : Option ℕ) → c < length t.corners → IsFloor t (corner t c) floor → IfSome floor (λ e. e < length t.ends)
  floor_fits c None lt is = tt
  floor_fits c (Some f) lt is = (floor_begins c f lt is).0

  -- edges rise by their lower ends
  lows_rise : (e k : ℕ) → e ≤ k → k < length t.ends → lo_of t e ≤ lo_of t k
  lows_rise e k le lt = elim (cases_eq e k) [
    | inl same ↦ (let is : lo_of t e ≡ lo_of t k = ap (lo_of t) same in omega (arith, is))
    | inr other ↦ (let ne : e ≢ k = other in lo_rises t ok e k (omega (arith, le, ne)) lt)
  ]

  module _ (half : HalfEdgeLists) (are : AreHalfEdges t half) where
    -- a cycle has a corner that is no greater than where one of its half-edges begins
    pub low_origin : (h : ℕ) → h < half_edge_count t → least_corner t (next_in half) h ≤ origin t h
    low_origin h lt =
        let p = comes_from t ok half are h lt in
        let there : target t p.0 ≡ origin t h = sym (leaves_there t ok half are p.0 p.1) ∙ ap (origin t) p.2 in
        let on = on_same t ok half are p.0 h p.1 lt (leads t ok half are p.0 p.1 ∙ (p.3 ∙ sym (leads t ok half are h lt))) in
        omega (arith, least-le (target t) (target t h) p.0 (cycle t (next_in half) h) on, there)

    -- and one of the table
    pub low_fits : (h : ℕ) → h < half_edge_count t → least_corner t (next_in half) h < length t.corners
    low_fits h lt = let le = least-le (target t) (target t h) h (cycle t (next_in half) h) (on_same t ok half are h h lt lt refl) in let at = target-fits t ok h lt in omega (arith, le, at)

  module _ (half : HalfEdgeLists) (are : AreHalfEdges t half) (least : List ℕ) (lows : AreLeast t half least) where
    -- the half-edges of a cycle have one least corner
    one_least : (g h : ℕ) → g < half_edge_count t → h < half_edge_count t → leader_in half g ≡ leader_in half h → least_corner t (next_in half) g ≡ least_corner t (next_in half) h
    one_least g h lt_g lt_h same = sym (lows.are g lt_g) ∙ (ap (λ l. get_or least l 0) same ∙ lows.are h lt_h)

    -- a hanging cycle comes to its least corner down an edge
    pub comes_down : (h : ℕ) → h < half_edge_count t → hangs t (next_in half) h ≡ true → (e : ℕ) × (e < length t.ends) × (leader_in half (2 * e + 1) ≡ leader_in half h) × (lo_of t e ≡ least_corner t (next_in half) h)
    comes_down h lt hung =
        let found = member_any (λ g. (target t g == least_corner t (next_in half) h) && ((edge_of g == edge_of (next_in half g)) || lower_of t (edge_of g) (edge_of (next_in half g)))) (cycle t (next_in half) h) hung in
        let on = same_on t ok half are found.0 h lt found.1 in
        let at : target t found.0 ≡ least_corner t (next_in half) h = eqb-true (target t found.0) (least_corner t (next_in half) h) (and_parts (target t found.0 == least_corner t (next_in half) h) ((edge_of found.0 == edge_of (next_in half found.0)) || lower_of t (edge_of found.0) (edge_of (next_in half found.0))) found.2).0 in
        let fits = edge-fits t found.0 on.0 in
        elim (either_way found.0) [
          | inl up ↦ (let goes = (ok.goes_up (edge_of found.0) fits).0 in
              let high : target t found.0 ≡ hi_of t (edge_of found.0) = ap (target t) up.1 ∙ target-up t (edge_of found.0) in
              let low : origin t found.0 ≡ lo_of t (edge_of found.0) = ap (origin t) up.1 ∙ origin-up t (edge_of found.0) in
              let same : least_corner t (next_in half) found.0 ≡ least_corner t (next_in half) h = one_least found.0 h on.0 lt on.1 in
              absurd (omega (arith, goes, high, low, low_origin half are found.0 on.0, same, at)))
          | inr down ↦ (edge_of found.0, fits, ap (leader_in half) (sym down.1) ∙ on.1, sym (target-down t (edge_of found.0)) ∙ (ap (target t) (sym down.1) ∙ at))
        ]

    module _ (hanging : List Bool) (hung : AreHanging t half hanging) (floors : FloorLists) (floored : AreFloors t floors) where
      down : (k : ℕ) → k < length t.ends → 2 * k + 1 < half_edge_count t
      down k lt = omega (arith, lt)

      -- an edge by which no hanging cycle comes to its least corner
      pub nested_passed : (old of_cycle : List ℕ) (k : ℕ) → k < length t.ends → (get_or hanging (leader_in half (2 * k + 1)) false && (get_or least (leader_in half (2 * k + 1)) 0 == lo_of t k)) ≡ false
          → IsNestedSoFar t half floors old of_cycle k → IsNestedSoFar t half floors old of_cycle (k + 1)
      nested_passed old of_cycle k lt fails so_far = record {
        as_many = so_far.as_many;
        outer = so_far.outer;
        nested = λ h e lt_h on less fits same at. elim (cases_eq e k) [
          | inl here ↦ absurd (both_ways (get_or hanging (leader_in half (2 * k + 1)) false && (get_or least (leader_in half (2 * k + 1)) 0 == lo_of t k)) fails
              (let one : leader_in half (2 * k + 1) ≡ leader_in half h = ap (λ n. leader_in half (2 * n + 1)) (sym here) ∙ same in
              and_from (get_or hanging (leader_in half (2 * k + 1)) false) (get_or least (leader_in half (2 * k + 1)) 0 == lo_of t k)
              (ap (λ l. get_or hanging l false) one ∙ (hung.are h lt_h ∙ on))
              (eq-eqb (get_or least (leader_in half (2 * k + 1)) 0) (lo_of t k) (ap (λ l. get_or least l 0) one ∙ (lows.are h lt_h ∙ (sym at ∙ ap (lo_of t) here))))))
          | inr other ↦ (let ne : e ≢ k = other in so_far.nested h e lt_h on (omega (arith, ne, less)) fits same at)
        ];
        within = so_far.within;
      }

      -- an edge by which a hanging cycle comes to its least corner: it gets its face
      module _ (old of_cycle : List ℕ) (k v : ℕ) (lt : k < length t.ends) (yes : get_or hanging (leader_in half (2 * k + 1)) false ≡ true) (low : get_or least (leader_in half (2 * k + 1)) 0 ≡ lo_of t k)
          (is : v ≡ face_above (face_by half of_cycle) (get_or floors.of_corner (lo_of t k) None)) (so_far : IsNestedSoFar t half floors old of_cycle k) where
        abbrev now : List ℕ
        now = set of_cycle (leader_in half (2 * k + 1)) v

        here : leader_in half (2 * k + 1) < length of_cycle
        here = let at = leads_within t ok half are (2 * k + 1) (down k lt) in let size = so_far.as_many in omega (arith, at, size)

        -- the cycle of a floor that counts so far is another: it has a lesser corner
        apart_from_floor : (c e : ℕ) → c ≤ lo_of t k → c < length t.corners → get_or floors.of_corner c None ≡ Some e → leader_in half (2 * e) ≢ leader_in half (2 * k + 1)
        apart_from_floor c e le fits floor same =
            let begins = floor_begins c e fits (subst (IsFloor t (corner t c)) floor (floored.of_corner c fits)) in
            let edge_lt : 2 * e < half_edge_count t = omega (arith, begins.0) in
            let noted : get_or least (leader_in half (2 * e)) 0 ≡ least_corner t (next_in half) (2 * e) = lows.are (2 * e) edge_lt in
            let both : get_or least (leader_in half (2 * e)) 0 ≡ get_or least (leader_in half (2 * k + 1)) 0 = ap (λ l. get_or least l 0) same in
            omega (arith, begins.1, low_origin half are (2 * e) edge_lt, origin-up t e, noted, both, low, le)

        above_stays : (c : ℕ) → c ≤ lo_of t k → c < length t.corners → face_above (face_by half of_cycle) (get_or floors.of_corner c None) ≡ face_above (face_by half now) (get_or floors.of_corner c None)
        above_stays c le fits = above_same (face_by half of_cycle) (face_by half now) (get_or floors.of_corner c None)
            (λ e floor. sym (get_or-set_other of_cycle (leader_in half (2 * k + 1)) (leader_in half (2 * e)) v 0 (apart_from_floor c e le fits floor)))

        here_fits : lo_of t k < length t.corners
        here_fits = let up = ok.goes_up k lt in let less = up.0 in let high = up.1 in omega (arith, less, high)

        pub nested_more : IsNestedSoFar t half floors old now (k + 1)
        nested_more = record {
          as_many = length-set of_cycle (leader_in half (2 * k + 1)) v ∙ so_far.as_many;
          outer = λ h lt_h off. get_or-set_other of_cycle (leader_in half (2 * k + 1)) (leader_in half h) v 0
              (λ same. both_ways (hangs t (next_in half) h) off (sym (hung.are h lt_h) ∙ (ap (λ l. get_or hanging l false) same ∙ yes)))
              ∙ so_far.outer h lt_h off;
          nested = λ h e lt_h on less fits same at.
              (let up = lows_rise e k (omega (arith, less)) lt in
              let below : least_corner t (next_in half) h ≤ lo_of t k = omega (arith, up, at) in
              let inside : least_corner t (next_in half) h < length t.corners = (let high = here_fits in omega (arith, below, high)) in
              elim (cases_eq (leader_in half h) (leader_in half (2 * k + 1))) [
                | inl one ↦ (let c : lo_of t k ≡ least_corner t (next_in half) h = sym low ∙ (ap (λ l. get_or least l 0) (sym one) ∙ lows.are h lt_h) in
                    ap (λ l. get_or now l 0) one ∙ (get_or-set_same of_cycle (leader_in half (2 * k + 1)) v 0 here ∙ (is ∙ (ap (λ n. face_above (face_by half of_cycle) (get_or floors.of_corner n None)) c ∙ above_stays (least_corner t (next_in half) h) below inside))))
                | inr two ↦ get_or-set_other of_cycle (leader_in half (2 * k + 1)) (leader_in half h) v 0 two
                    ∙ (so_far.nested h e lt_h on (elim (cases_eq e k) [
                      | inl last ↦ absurd (two (sym same ∙ ap (λ n. leader_in half (2 * n + 1)) last))
                      | inr other ↦ (let ne : e ≢ k = other in omega (arith, ne, less))
                    ]) fits same at ∙ above_stays (least_corner t (next_in half) h) below inside)
              ]);
          within = λ most all l. elim (cases_eq l (leader_in half (2 * k + 1))) [
            | inl one ↦ (let e : get_or now l 0 ≡ v = ap (λ n. get_or now n 0) one ∙ get_or-set_same of_cycle (leader_in half (2 * k + 1)) v 0 here in
                omega (arith, e, is, above_within (face_by half of_cycle) most (get_or floors.of_corner (lo_of t k) None) (λ h. so_far.within most all (leader_in half h))))
            | inr two ↦ (let e : get_or now l 0 ≡ get_or of_cycle l 0 = get_or-set_other of_cycle (leader_in half (2 * k + 1)) l v 0 two in let le = so_far.within most all l in omega (arith, e, le))
          ];
        }

      -- all edges looked at
      pub nested_all : (old of_cycle : List ℕ) (k : ℕ) → length t.ends ≤ k → IsNestedSoFar t half floors old of_cycle k → (h : ℕ) → h < half_edge_count t → hangs t (next_in half) h ≡ true → face_by half of_cycle h ≡ face_over t half floors of_cycle h
      nested_all old of_cycle k past so_far h lt on = let e = comes_down h lt on in let fits = e.1 in so_far.nested h e.0 lt on (omega (arith, fits, past)) e.1 e.2 e.3
