-- The rules of validity, feature by feature (this product's own, after the assertions of OGC 06-103r4 on Polygon and MultiPolygon, for rings on a grid). A feature is its
-- polygons; in the tests rings and polygons have numbers from 0. The words:
--   Breach                       the eight ways to be invalid
--   ring_places, polygon_of, is_hole  the polygon of each ring, and whether the ring is one of its holes
--   ring_table, polygon_table    the noded table whose features are the rings; that of one polygon, alone
--   belongs, lies_inside         an edge belongs to a set of rings; it lies inside them, by the parity of the edges below it
--   is_point_ring, is_crossing, is_twice, is_pinch, is_outside, is_nested, part_count, is_overlap  what each breach says
--   first_pair, later_breach, IsBreachOf  the first breach of a feature, or none
use Rattle.std.specs.Prelude.{◌≡◌, ℕ, ◌+◌, ◌*◌, ◌<◌, Bool, false, not, ◌&&◌, List, [], ◌∷◌, ◌++◌, length, get_or, map, find, count_by, Option, Some, None, option_map, nat_lt, ◌==◌, IsTrue}
use Rattle.std.specs.List.{list_any, flat_map, range_with_len}
use Rattle.loc_spec_text.specs.Bytes.{or_else}
use Rattle.loc_spec_plane.specs.Lists.{numbers, is_in, odd_many}
use Rattle.loc_spec_plane.specs.Points.{Point, Edge, same_edge, cross}
use Rattle.loc_spec_plane.specs.{Rings.Rings, Rings.ring_segments, Rings.segments, Places.alive_at, Places.lower_of}
use Rattle.loc_spec_plane.specs.Tables.{Table, corner, edge, edge_numbers, corner_numbers, has, ends_at, noded_table_of, cut_at}
use Rattle.loc_spec_plane.specs.{Covers.cover_above, HalfEdges.half_edge_count, Faces.leads_face}

-- rings and polygons count from 1 through the feature
pub data Breach : Type 0 where
  point_ring : ℕ → Breach
  crossing : Edge → Edge → Breach
  twice : Edge → Breach
  pinch : ℕ → Point → Breach
  outside : ℕ → Breach
  nested : ℕ → ℕ → Breach
  parts : ℕ → ℕ → Breach
  overlap : ℕ → ℕ → Breach

-- ---- rings and their polygons
-- the polygon of each ring, from polygon n on, and whether the ring is no exterior
abbrev pub ring_places : ℕ → List Rings → List (ℕ × Bool)
ring_places n [] = []
ring_places n (rings ∷ polygons) = map (λ k. (n, not (k == 0))) (numbers (length rings)) ++ ring_places (n + 1) polygons

module _ (polygons : List Rings) where
  -- the rings of the feature
  abbrev pub feature_rings : Rings
  feature_rings = flat_map (λ rings. rings) polygons

  abbrev pub ring_numbers : List ℕ
  ring_numbers = numbers (length feature_rings)

  abbrev pub polygon_numbers : List ℕ
  polygon_numbers = numbers (length polygons)

  -- the polygon of ring r
  abbrev pub polygon_of : ℕ → ℕ
  polygon_of r = (get_or (ring_places 0 polygons) r (0, false)).0

  -- ring r is a hole: it is not the first ring of its polygon
  abbrev pub is_hole : ℕ → Bool
  is_hole r = (get_or (ring_places 0 polygons) r (0, false)).1

  -- the noded table of the layer whose features are the rings
  unfoldable pub ring_table : Table
  ring_table = noded_table_of (map (λ ring. ring ∷ []) feature_rings)

  -- the noded table of polygon n alone, as one feature
  unfoldable pub polygon_table : ℕ → Table
  polygon_table n = noded_table_of (get_or polygons n [] ∷ [])

  -- ring r has no segment
  abbrev pub is_point_ring : ℕ → Bool
  is_point_ring r = length (ring_segments (get_or feature_rings r [])) == 0

  -- ---- what is said of the ring table, which is handed in
  module _ (t : Table) where
    -- edge e belongs to one of the rings
    abbrev pub belongs : (ℕ → Bool) → ℕ → Bool
    belongs among e = list_any (λ r. among r && has t r e) ring_numbers

    -- edge e lies inside the rings: it is no edge of theirs, and an odd number of the edges lower than it in the version of its lower corner are
    abbrev pub lies_inside : (ℕ → Bool) → ℕ → Bool
    lies_inside among e = not (belongs among e) && odd_many (λ d. (alive_at t (edge t e).lo d && lower_of t d e) && belongs among d) (edge_numbers t)

    -- more than one segment of the feature, as often as they stand there, has edge e as a piece
    abbrev pub is_twice : ℕ → Bool
    is_twice e = nat_lt 1 (count_by (λ s. list_any (same_edge (edge t e)) (cut_at t.corners s)) (segments feature_rings))

    -- more than two edges of ring r end at corner c
    abbrev pub is_pinch : ℕ → ℕ → Bool
    is_pinch r c = nat_lt 2 (count_by (λ e. has t r e && ends_at t c e) (edge_numbers t))

    -- hole r has an edge that does not lie inside the exterior of its polygon
    abbrev pub is_outside : ℕ → Bool
    is_outside r = is_hole r && list_any (λ e. has t r e && not (lies_inside (λ q. (polygon_of q == polygon_of r) && not (is_hole q)) e)) (edge_numbers t)

    -- hole r has an edge inside hole q of its polygon
    abbrev pub is_nested : ℕ → ℕ → Bool
    is_nested r q = ((is_hole r && is_hole q) && ((polygon_of r == polygon_of q) && not (r == q))) && list_any (λ e. has t r e && lies_inside (λ k. k == q) e) (edge_numbers t)

    -- an edge of polygon n lies inside the rings of polygon m
    abbrev pub is_overlap : ℕ → ℕ → Bool
    is_overlap n m = not (n == m) && list_any (λ e. belongs (λ r. polygon_of r == n) e && lies_inside (λ r. polygon_of r == m) e) (edge_numbers t)

-- two edges cross
abbrev pub is_crossing : Table → ℕ → ℕ → Bool
is_crossing t a b = nat_lt a b && cross (edge t a) (edge t b)

-- how many faces from 1 on have an upper half-edge whose list above names the polygon, in the table of the polygon alone
abbrev pub part_count : Table → (ℕ → ℕ) → (ℕ → ℕ) → ℕ
part_count t next face = count_by (λ f. list_any (λ e. (face (2 * e) == f) && is_in 0 (cover_above t e)) (edge_numbers t)) (range_with_len 1 (count_by (leads_face t next) (numbers (half_edge_count t))))

-- ---- the first breach
-- the first pair, by its first and then by its second number, that passes
abbrev pub first_pair : (ℕ → ℕ → Bool) → List ℕ → List ℕ → Option (ℕ × ℕ)
first_pair test [] ns = None
first_pair test (m ∷ ms) ns = or_else (option_map (λ n. (m, n)) (find (test m) ns)) (first_pair test ms ns)

module _ (polygons : List Rings) where
  -- the first ring that is a point
  abbrev pub first_point_ring : Option ℕ
  first_point_ring = find (is_point_ring polygons) (ring_numbers polygons)

  -- no ring is a point
  abbrev pub HasSegments : Type 0
  HasSegments = first_point_ring ≡ None

  -- no two edges cross
  abbrev pub HasNoCrossing : Type 0
  HasNoCrossing = (a b : ℕ) → a < length (ring_table polygons).ends → b < length (ring_table polygons).ends → IsTrue (not (is_crossing (ring_table polygons) a b))

-- The next and the face of each half-edge of a table are given by functions of tables.
module _ (next face : Table → ℕ → ℕ) (polygons : List Rings) where
  -- polygon n has rings, and is not one part
  abbrev pub is_parted : ℕ → Bool
  is_parted n = not (length (get_or polygons n []) == 0) && not (part_count (polygon_table polygons n) (next (polygon_table polygons n)) (face (polygon_table polygons n)) == 1)

  -- the first breach behind those of crossings, by the ring table
  abbrev pub later_breach : Table → Option Breach
  later_breach t = or_else (option_map (λ e. twice (edge t e)) (find (is_twice polygons t) (edge_numbers t)))
      (or_else (option_map (λ (pair : ℕ × ℕ). pinch (pair.0 + 1) (corner t pair.1)) (first_pair (is_pinch polygons t) (ring_numbers polygons) (corner_numbers t)))
      (or_else (option_map (λ r. outside (r + 1)) (find (is_outside polygons t) (ring_numbers polygons)))
      (or_else (option_map (λ (pair : ℕ × ℕ). nested (pair.0 + 1) (pair.1 + 1)) (first_pair (is_nested polygons t) (ring_numbers polygons) (ring_numbers polygons)))
      (or_else (option_map (λ n. parts (n + 1) (part_count (polygon_table polygons n) (next (polygon_table polygons n)) (face (polygon_table polygons n)))) (find is_parted (polygon_numbers polygons)))
      (option_map (λ (pair : ℕ × ℕ). overlap (pair.0 + 1) (pair.1 + 1)) (first_pair (is_overlap polygons t) (polygon_numbers polygons) (polygon_numbers polygons)))))))

  -- the first breach is that of the first rule which is broken: of a crossing any pair, of the others the least
  abbrev pub IsBreachOf : Option Breach → Type 0
  IsBreachOf (Some (point_ring r)) = option_map (λ n. n + 1) (first_point_ring polygons) ≡ Some r
  IsBreachOf (Some (crossing a b)) = HasSegments polygons × ((d e : ℕ) × (d < length (ring_table polygons).ends) × (e < length (ring_table polygons).ends) × (a ≡ edge (ring_table polygons) d) × (b ≡ edge (ring_table polygons) e) × IsTrue (is_crossing (ring_table polygons) d e))
  IsBreachOf (Some (twice e)) = HasSegments polygons × HasNoCrossing polygons × (later_breach (ring_table polygons) ≡ Some (twice e))
  IsBreachOf (Some (pinch r p)) = HasSegments polygons × HasNoCrossing polygons × (later_breach (ring_table polygons) ≡ Some (pinch r p))
  IsBreachOf (Some (outside r)) = HasSegments polygons × HasNoCrossing polygons × (later_breach (ring_table polygons) ≡ Some (outside r))
  IsBreachOf (Some (nested r q)) = HasSegments polygons × HasNoCrossing polygons × (later_breach (ring_table polygons) ≡ Some (nested r q))
  IsBreachOf (Some (parts n count)) = HasSegments polygons × HasNoCrossing polygons × (later_breach (ring_table polygons) ≡ Some (parts n count))
  IsBreachOf (Some (overlap n m)) = HasSegments polygons × HasNoCrossing polygons × (later_breach (ring_table polygons) ≡ Some (overlap n m))
  IsBreachOf None = HasSegments polygons × HasNoCrossing polygons × (later_breach (ring_table polygons) ≡ None)
