-- What may be said of a feature is what is a first breach of it.
use Rattle.std.proofs.Common.{◌≡◌, ℕ, ◌+◌, ◌<◌, true, List, [], ◌∷◌, length, map, filter, Option, Some, None, refl, sym, ◌∙◌, ap, subst, inl, inr, arith}
use Rattle.std.specs.Prelude.{find, option_map, ⊤}
use Rattle.std.proofs.lemmas.Bool.{false_from_ne_true, not-true, not_from_false, true≢false}
use Rattle.loc_spec_plane.specs.Rings.{Rings}
use Rattle.loc_spec_plane.specs.Tables.{corner, corner_numbers, edge, edge_numbers}
use Rattle.loc_spec_text.specs.Bytes.{or_else}
use Rattle.loc_spec_valid.specs.Breaches.{Breach, HasNoCrossing, HasSegments, IsBreachOf, crossing, first_pair, first_point_ring, is_crossing, is_nested, is_outside, is_overlap, is_parted, is_pinch, is_twice, later_breach, nested, outside, overlap, part_count, parts, pinch, point_ring, polygon_numbers, polygon_table, ring_numbers, ring_table, twice}
use Rattle.loc_faces.specs.Subdivision.{face_at, next_at}
use Rattle.loc_breaches.specs.BreachCourses.{breaches_of, crossings, said_of}
use Rattle.loc_breaches.proofs.Members.{Among, among_filter, among_flat, among_map, among_range, filter_among, flat_among, map_among, range_among}

module _ (polygons : List Rings) where
  -- the crossings with edge a
  abbrev crossed_by : ℕ → List Breach
  crossed_by a = map (λ b. crossing (edge (ring_table polygons) a) (edge (ring_table polygons) b)) (filter (is_crossing (ring_table polygons) a) (edge_numbers (ring_table polygons)))

  -- a pair of edges that crosses
  abbrev Crosses : Breach → Type 0
  Crosses c = (d e : ℕ) × (d < length (ring_table polygons).ends) × (e < length (ring_table polygons).ends) × (c ≡ crossing (edge (ring_table polygons) d) (edge (ring_table polygons) e)) × (is_crossing (ring_table polygons) d e ≡ true)

  -- the crossings are such pairs, and all of them
  crosses_among : (c : Breach) → Crosses c → Among c (crossings polygons)
  crosses_among c (d, e, d_fits, e_fits, is, passes) =
      let t = ring_table polygons in
      among_flat crossed_by d c (edge_numbers t) (among_range 0 (length t.ends) d (omega arith) (omega (arith, d_fits)))
      (subst (λ (b : Breach). Among b (crossed_by d)) (sym is)
      (among_map (λ b. crossing (edge t d) (edge t b)) e (filter (is_crossing t d) (edge_numbers t)) (among_filter (is_crossing t d) e (edge_numbers t) (among_range 0 (length t.ends) e (omega arith) (omega (arith, e_fits))) passes)))

  among_crosses : (c : Breach) → Among c (crossings polygons) → Crosses c
  among_crosses c at =
      let t = ring_table polygons in
      let first = flat_among crossed_by c (edge_numbers t) at in
      let second = map_among (λ b. crossing (edge t first.0) (edge t b)) c (filter (is_crossing t first.0) (edge_numbers t)) first.2 in
      let kept = filter_among (is_crossing t first.0) second.0 (edge_numbers t) second.1 in
      (first.0, second.0, omega (arith, (range_among 0 (length t.ends) first.0 first.1).1), omega (arith, (range_among 0 (length t.ends) second.0 kept.0).1), second.2, kept.1)

  -- no pair crosses where no two edges do, and the other way round
  none_of : (all : List Breach) → crossings polygons ≡ all → HasNoCrossing polygons → crossings polygons ≡ []
  none_of [] is none = is
  none_of (c ∷ cs) is none =
      let found = among_crosses c (subst (λ (l : List Breach). Among c l) (sym is) (inl refl)) in
      absurd (true≢false (sym found.5 ∙ not-true (is_crossing (ring_table polygons) found.0 found.1) (none found.0 found.1 found.2 found.3)))

  pub no_crossings : HasNoCrossing polygons → crossings polygons ≡ []
  no_crossings = none_of (crossings polygons) refl

  pub none_crosses : crossings polygons ≡ [] → HasNoCrossing polygons
  none_crosses is a b a_fits b_fits =
      let t = ring_table polygons in
      not_from_false (is_crossing t a b) (false_from_ne_true (is_crossing t a b) (λ passes.
      (let c = crossing (edge t a) (edge t b) in
      subst (λ (l : List Breach). Among c l) is (crosses_among c (a, b, a_fits, b_fits, refl, passes)))))

-- ---- later breaches
-- no ring that is a point, and no crossing
abbrev IsLater : Option Breach → Type 0
IsLater None = ⊤
IsLater (Some (point_ring r)) = ⊥
IsLater (Some (crossing a b)) = ⊥
IsLater (Some (twice e)) = ⊤
IsLater (Some (pinch r p)) = ⊤
IsLater (Some (outside r)) = ⊤
IsLater (Some (nested r q)) = ⊤
IsLater (Some (parts n count)) = ⊤
IsLater (Some (overlap n m)) = ⊤

or_later : (a b : Option Breach) → IsLater a → IsLater b → IsLater (or_else a b)
or_later None b first second = second
or_later (Some x) b first second = first

map_later : {X : Type 0} (f : X → Breach) → ((x : X) → IsLater (Some (f x))) → (o : Option X) → IsLater (option_map f o)
map_later f each None = tt
map_later f each (Some x) = each x

module _ (polygons : List Rings) where
  later_is : IsLater (later_breach next_at face_at polygons (ring_table polygons))
  later_is =
      let t = ring_table polygons in
      or_later _ _ (map_later (λ e. twice (edge t e)) (λ e. tt) (find (is_twice polygons t) (edge_numbers t)))
      (or_later _ _ (map_later (λ (pair : ℕ × ℕ). pinch (pair.0 + 1) (corner t pair.1)) (λ pair. tt) (first_pair (is_pinch polygons t) (ring_numbers polygons) (corner_numbers t)))
      (or_later _ _ (map_later (λ r. outside (r + 1)) (λ r. tt) (find (is_outside polygons t) (ring_numbers polygons)))
      (or_later _ _ (map_later (λ (pair : ℕ × ℕ). nested (pair.0 + 1) (pair.1 + 1)) (λ pair. tt) (first_pair (is_nested polygons t) (ring_numbers polygons) (ring_numbers polygons)))
      (or_later _ _ (map_later (λ n. parts (n + 1) (part_count (polygon_table polygons n) (next_at (polygon_table polygons n)) (face_at (polygon_table polygons n)))) (λ n. tt) (find (is_parted next_at face_at polygons) (polygon_numbers polygons)))
      (map_later (λ (pair : ℕ × ℕ). overlap (pair.0 + 1) (pair.1 + 1)) (λ pair. tt) (first_pair (is_overlap polygons t) (polygon_numbers polygons) (polygon_numbers polygons)))))))

  -- a later breach that is the first is a first breach
  later_breaks : (b : Option Breach) → IsLater b → HasSegments polygons → HasNoCrossing polygons → later_breach next_at face_at polygons (ring_table polygons) ≡ b → IsBreachOf next_at face_at polygons b
  later_breaks None kind segments uncrossed is = (segments, uncrossed, is)
  later_breaks (Some (point_ring r)) kind segments uncrossed is = absurd kind
  later_breaks (Some (crossing a b)) kind segments uncrossed is = absurd kind
  later_breaks (Some (twice e)) kind segments uncrossed is = (segments, uncrossed, is)
  later_breaks (Some (pinch r p)) kind segments uncrossed is = (segments, uncrossed, is)
  later_breaks (Some (outside r)) kind segments uncrossed is = (segments, uncrossed, is)
  later_breaks (Some (nested r q)) kind segments uncrossed is = (segments, uncrossed, is)
  later_breaks (Some (parts n count)) kind segments uncrossed is = (segments, uncrossed, is)
  later_breaks (Some (overlap n m)) kind segments uncrossed is = (segments, uncrossed, is)

  -- ---- what may be said is a first breach
  any_crossing : (c : Breach) → Crosses polygons c → HasSegments polygons → IsBreachOf next_at face_at polygons (Some c)
  any_crossing c (d, e, d_fits, e_fits, is, passes) segments =
      subst (λ (b : Breach). IsBreachOf next_at face_at polygons (Some b)) (sym is) (segments, (d, e, d_fits, e_fits, refl, refl, passes))

  said_by : (first : Option ℕ) (crossed : List Breach) → first_point_ring polygons ≡ first → crossings polygons ≡ crossed → (b : Option Breach)
      → Among b (said_of first crossed (later_breach next_at face_at polygons (ring_table polygons))) → IsBreachOf next_at face_at polygons b
  said_by (Some r) crossed is all b (inl same) = subst (IsBreachOf next_at face_at polygons) (sym same) (ap (option_map (λ n. n + 1)) is)
  said_by (Some r) crossed is all b (inr at) = absurd at
  said_by None [] is all b (inl same) =
      let later = later_breach next_at face_at polygons (ring_table polygons) in
      subst (IsBreachOf next_at face_at polygons) (sym same) (later_breaks later later_is is (none_crosses polygons all) refl)
  said_by None [] is all b (inr at) = absurd at
  said_by None (c ∷ crossed) is all b at =
      let found = map_among Some b (c ∷ crossed) at in
      subst (IsBreachOf next_at face_at polygons) (sym found.2)
      (any_crossing found.0 (among_crosses polygons found.0 (subst (λ (l : List Breach). Among found.0 l) (sym all) found.1)) is)

  pub said_breaks : (b : Option Breach) → Among b (breaches_of polygons) → IsBreachOf next_at face_at polygons b
  said_breaks = said_by (first_point_ring polygons) (crossings polygons) refl refl

  -- ---- and what is a first breach may be said
  point_said : (r : ℕ) (first : Option ℕ) (crossed : List Breach) (later : Option Breach) → option_map (λ n. n + 1) first ≡ Some r → Among (Some (point_ring r)) (said_of first crossed later)
  point_said r None crossed later is = absurd (cc is)
  point_said r (Some n) crossed later is = let same : n + 1 ≡ r = cc is in inl (ap (λ k. Some (point_ring k)) (sym same))

  crossing_said : (c : Breach) (first : Option ℕ) (crossed : List Breach) (later : Option Breach) → first ≡ None → Among c crossed → Among (Some c) (said_of first crossed later)
  crossing_said c (Some r) crossed later none at = absurd (cc none)
  crossing_said c None [] later none at = absurd at
  crossing_said c None (d ∷ crossed) later none at = among_map Some c (d ∷ crossed) at

  later_said : (b : Option Breach) (first : Option ℕ) (crossed : List Breach) (later : Option Breach) → first ≡ None → crossed ≡ [] → later ≡ b → Among b (said_of first crossed later)
  later_said b (Some r) crossed later none empty is = absurd (cc none)
  later_said b None (c ∷ crossed) later none empty is = absurd (cc empty)
  later_said b None [] later none empty is = inl (sym is)

  later_by : (b : Option Breach) → HasSegments polygons × HasNoCrossing polygons × (later_breach next_at face_at polygons (ring_table polygons) ≡ b) → Among b (breaches_of polygons)
  later_by b (segments, uncrossed, is) = later_said b (first_point_ring polygons) (crossings polygons) (later_breach next_at face_at polygons (ring_table polygons)) segments (no_crossings polygons uncrossed) is

  pub breaks_said : (b : Option Breach) → IsBreachOf next_at face_at polygons b → Among b (breaches_of polygons)
  breaks_said None breaks = later_by None breaks
  breaks_said (Some (point_ring r)) breaks = point_said r (first_point_ring polygons) (crossings polygons) (later_breach next_at face_at polygons (ring_table polygons)) breaks
  breaks_said (Some (crossing a b)) (segments, (d, e, d_fits, e_fits, a_is, b_is, passes)) =
      let same : crossing a b ≡ crossing (edge (ring_table polygons) d) (edge (ring_table polygons) e) = rw (a_is, b_is) refl in
      crossing_said (crossing a b) (first_point_ring polygons) (crossings polygons) (later_breach next_at face_at polygons (ring_table polygons)) segments
      (crosses_among polygons (crossing a b) (d, e, d_fits, e_fits, same, passes))
  breaks_said (Some (twice e)) breaks = later_by (Some (twice e)) breaks
  breaks_said (Some (pinch r p)) breaks = later_by (Some (pinch r p)) breaks
  breaks_said (Some (outside r)) breaks = later_by (Some (outside r)) breaks
  breaks_said (Some (nested r q)) breaks = later_by (Some (nested r q)) breaks
  breaks_said (Some (parts n count)) breaks = later_by (Some (parts n count)) breaks
  breaks_said (Some (overlap n m)) breaks = later_by (Some (overlap n m)) breaks
