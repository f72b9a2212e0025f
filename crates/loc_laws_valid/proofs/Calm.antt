-- The table of one polygon alone has no crossing where the ring table has none, no edge is twice, no ring is pinched, and no hole is outside or nested: a crossing of two of its
-- segments is at a corner of the feature, and there one of the two rings has a part inside the other, and one outside.
use Rattle.std.proofs.Common.{◌≡◌, ◌⊎◌, ℕ, zero, suc, pos, ◌+◌, ◌<◌, Bool, true, false, not, ◌&&◌, List, [], ◌∷◌, length, get_or, map, refl, sym, ◌∙◌, ap, ap₂, subst, inl, inr, arith}
use Rattle.std.specs.Prelude.{nat_lt, ◌==◌, count_by}
use Rattle.std.specs.List.{list_any}
use Rattle.std.proofs.lemmas.Bool.{and_parts, and_from, cases_Bool, cases_eq, cases_order, both_ways, eq-eqb, eqb-true, ne_eqb, false_from_ne_true, lt-ltb, ltb-true, not-true, not_from_false, or_cases, or_left, or_right, true≢false}
use Rattle.std.proofs.{lemmas.List.append-nil, lemmas.List.Folds.list_any-append}
use Rattle.loc_spec_plane.specs.Points.{Point, Edge, before, same_point, same_edge, is_above, is_on, is_parted, inside, cross, conflict}
use Rattle.loc_spec_plane.specs.Lists.{exactly_one, is_in, is_rising}
use Rattle.loc_spec_plane.specs.{Rings.Rings, Rings.ring_segments, Rings.segments, Covers.cover_above, Covers.is_over}
use Rattle.loc_spec_plane.specs.Tables.{Table, IsTable, AllEven, NoConflict, table_by, noded_table_of, cut_at, corner, edge, edge_numbers, ends_at, has, has_odd, hi_of, lo_of, layer_corners, number_of}
use Rattle.loc_spec_valid.specs.Breaches.{HasNoCrossing, feature_rings, ring_numbers, ring_table, polygon_table, is_crossing, is_hole, is_pinch, is_nested, is_outside, lies_inside, polygon_of}
use Rattle.loc_laws_order.proofs.{Booleans.and_swap, Booleans.same-from_both, Sets.number_swap}
use Rattle.loc_laws_order.proofs.Forms.{Before, Cross, IsEdge, side_of}
use Rattle.loc_laws_order.proofs.Sides.{before_decides, on-not_above, same_point_refl}
use Rattle.loc_laws_order.proofs.TableOrder.{numbers_within, origin_point, same_corner}
use Rattle.loc_laws_order.proofs.Tests.{cross_decides, cross-conflict, conflict_none, is_on_decides, same_edge_decides}
use Rattle.loc_laws_rays.proofs.{Covering.any-found, Members.in_cover, Members.in_numbers, Parity.odd_many-agree}
use Rattle.loc_laws_order.specs.Numbered.{has_ends}
use Rattle.loc_laws_noding.specs.Laws.{goes_up, is_good}
use Rattle.loc_laws_noding.proofs.{Layers.corners_rise, Layers.feature_part, Layers.layer_good, Marks.is_hit}
use Rattle.loc_laws_noding.proofs.Noded.{conflict_is_cross, cutting_noded}
use Rattle.loc_laws_order.proofs.Numbered.{at_number, number_fits}
use Rattle.loc_laws_noding.proofs.Tables.{all_ends, any_of_pieces, as_many_ends, edge_is_piece, is_table, pieces, segments_part}
use Rattle.loc_laws_dissolve.proofs.Prefixes.{one_number}
use Rattle.loc_laws_valid.specs.Laws.{ConflictsCross, GoesThrough, HasOneRing, NoneTwice, NonePinched, NoneOutside, NoneNested, PolygonsCalm, RingsCalm, ring_of}
use Rattle.loc_laws_valid.proofs.Crossing.{IsPiece, Meeting, Through, changes, every_edge, is_piece, meeting, parted_whole, same_above, some_edge, through, wider}
use Rattle.loc_laws_valid.proofs.{Inside.inside_by_list, Lower.crossing_sides, Once.three_counted}
use Rattle.loc_laws_valid.proofs.OneRing.{no_edge, has_is, some_has, single, own_segments, some_ring, one_ring}
use Rattle.loc_laws_valid.proofs.Placed.{Numbered, numbered, one_exterior}

-- ---- a test of a segment
any_segment : (test : Edge → Bool) (ss : List Edge) (s : Edge) → list_any (same_edge s) ss ≡ true → test s ≡ true → list_any test ss ≡ true
any_segment test [] s there h = absurd (true≢false (sym there))
any_segment test (d ∷ ss) s there h = elim (or_cases (same_edge s d) (list_any (same_edge s) ss) there) [
  | inl here ↦ or_left (test d) _ (subst (λ e. test e ≡ true) ((same_edge_decides s d).0 here) h)
  | inr later ↦ or_right (test d) _ (any_segment test ss s later h)
]

-- the place of an edge in a list
pub edge_place : (e : Edge) (es : List Edge) → list_any (same_edge e) es ≡ true → (n : ℕ) × (n < length es) × (get_or es n no_edge ≡ e)
edge_place e [] h = absurd (true≢false (sym h))
edge_place e (d ∷ es) h = elim (or_cases (same_edge e d) (list_any (same_edge e) es) h) [
  | inl here ↦ (0, omega arith, sym ((same_edge_decides e d).0 here))
  | inr later ↦ (let rest = edge_place e es later in (suc rest.0, omega (arith, rest.1), rest.2))
]

-- the segments of a ring are among those of all
ring_part : (p : Edge → Bool) (rings : Rings) (j : ℕ) → list_any p (ring_segments (get_or rings j [])) ≡ true → list_any p (segments rings) ≡ true
ring_part p [] j h = h
ring_part p (ring ∷ rings) zero h = list_any-append p (ring_segments ring) (segments rings) ∙ or_left _ _ h
ring_part p (ring ∷ rings) (suc j) h = list_any-append p (ring_segments ring) (segments rings) ∙ or_right (list_any p (ring_segments ring)) _ (ring_part p rings j h)

-- two edges that cross, the other way round
crosses_back : (a b : Edge) → cross a b ≡ true → cross b a ≡ true
crosses_back a b h = and_swap (is_parted b a) (is_parted a b) ∙ h

module _ (polygons : List Rings) where
  abbrev layer : List Rings
  layer = map single (feature_rings polygons)

  abbrev t : Table
  t = noded_table_of layer

  abbrev cs : List Point
  cs = layer_corners layer

  -- a segment of ring r
  abbrev IsOf : ℕ → Edge → Type 0
  IsOf r s = list_any (same_edge s) (ring_segments (get_or (feature_rings polygons) r [])) ≡ true

  own : (r : ℕ) (s : Edge) → IsOf r s → list_any (same_edge s) (segments (get_or layer r [])) ≡ true
  own r s of = ap (list_any (same_edge s)) (own_segments (feature_rings polygons) r) ∙ of

  good : (r : ℕ) (s : Edge) → IsOf r s → is_good cs s ≡ true
  good r s of = every_edge (is_good cs) (segments (get_or layer r [])) s (feature_part (is_good cs) layer r (layer_good layer)) (own r s of)

  -- the number of a piece of a segment of ring r
  record Piece (r : ℕ) (e : Edge) : Type 0 where
    number : ℕ
    fits : number < length t.ends
    is : edge t number ≡ e
    of : has t r number ≡ true

  piece : (r : ℕ) (s e : Edge) → IsOf r s → list_any (same_edge e) (cut_at cs s) ≡ true → Piece r e
  piece r s e of there =
      let found = edge_place e (pieces (cut_at cs) layer) (any_of_pieces (cut_at cs) layer (same_edge e) ∙ segments_part (λ d. list_any (same_edge e) (cut_at cs d)) layer r (any_segment (λ d. list_any (same_edge e) (cut_at cs d)) (segments (get_or layer r [])) s (own r s of) there)) in
      let fits : found.0 < length t.ends = omega (arith, found.1, as_many_ends (cut_at cs) layer) in
      let is : edge t found.0 ≡ e = sym (edge_is_piece (cut_at cs) layer (cutting_noded layer) found.0 no_edge found.1) ∙ found.2 in
      record {
        number = found.0;
        fits = fits;
        is = is;
        of = has_is layer r found.0 fits ∙ any_segment (is_hit (cut_at cs) (edge t found.0)) (segments (get_or layer r [])) s (own r s of) (subst (λ d. list_any (same_edge d) (cut_at cs s) ≡ true) (sym is) there);
      }

  ok : IsTable t
  ok = is_table (cut_at cs) layer (cutting_noded layer)

  -- a segment of ring r goes through a corner by two edges
  record Goes (r : ℕ) (s : Edge) (c : ℕ) : Type 0 where
    first : ℕ
    second : ℕ
    fits_first : first < length t.ends
    fits_second : second < length t.ends
    of_first : has t r first ≡ true
    of_second : has t r second ≡ true
    ends : hi_of t first ≡ c
    begins : lo_of t second ≡ c
    is_first : IsPiece cs (corners_rise layer) s (edge t first)
    is_second : IsPiece cs (corners_rise layer) s (edge t second)

  module _ (p : Point) (there : list_any (same_point p) cs ≡ true) where
    c_fits : number_of cs p < length t.corners
    unfolding table_by
    c_fits = number_fits cs (corners_rise layer) p there

    c_is : corner t (number_of cs p) ≡ p
    unfolding table_by
    c_is = at_number cs (corners_rise layer) p origin_point there

    at_c : (k : ℕ) → k < length t.corners → corner t k ≡ p → k ≡ number_of cs p
    at_c k lk is = eqb-true k (number_of cs p) (sym (same_corner t ok (number_of cs p) k c_fits lk) ∙ subst (λ x. same_point x (corner t k) ≡ true) (is ∙ sym c_is) (same_point_refl (corner t k)))

    goes : (r : ℕ) (s : Edge) → IsOf r s → inside s p ≡ true → Goes r s (number_of cs p)
    goes r s of at =
        let way : Through cs (corners_rise layer) s (good r s of) p = through cs (corners_rise layer) s (good r s of) p there at in
        let one : Piece r way.first = piece r s way.first of way.is_first.there in
        let two : Piece r way.second = piece r s way.second of way.is_second.there in
        let up_one = ok.goes_up one.number one.fits in
        let up_two = ok.goes_up two.number two.fits in
        record {
          first = one.number;
          second = two.number;
          fits_first = one.fits;
          fits_second = two.fits;
          of_first = one.of;
          of_second = two.of;
          ends = at_c (hi_of t one.number) up_one.1 (ap (λ (e : Edge). e.hi) one.is ∙ way.ends_there);
          begins = at_c (lo_of t two.number) (omega (arith, up_two.0, up_two.1)) (ap (λ (e : Edge). e.lo) two.is ∙ way.begins_there);
          is_first = subst (λ e. IsPiece cs (corners_rise layer) s e) (sym one.is) way.is_first;
          is_second = subst (λ e. IsPiece cs (corners_rise layer) s e) (sym two.is) way.is_second;
        }

  -- of two segments that cross and go through one corner, the parts of the one in front of the corner and behind it lie on different sides of the other
  module _ (r q c : ℕ) (s z : Edge) (of_s : IsOf r s) (of_z : IsOf q z) (crossing : Cross s z) (by_s : Goes r s c) (by_z : Goes q z c) where
    sides : exactly_one (is_above s (edge t by_z.first).lo) (is_above s (edge t by_z.second).hi) ≡ true
    unfolding Cross
    sides = changes s z ((before_decides z.lo z.hi).0 (and_parts (goes_up z) (has_ends cs z) (good q z of_z)).0) crossing.0 (edge t by_z.first).lo (corner t c) (edge t by_z.second).hi
        by_z.is_first.low.0 on_z by_z.is_second.high.0 on_s
        (subst (λ k. Before (edge t by_z.first).lo (corner t k)) by_z.ends by_z.is_first.up)
        (subst (λ k. Before (corner t k) (edge t by_z.second).hi) by_z.begins by_z.is_second.up)
      where
        on_z : side_of z (corner t c) ≡ pos 0
        on_z = subst (λ k. side_of z (corner t k) ≡ pos 0) by_z.ends by_z.is_first.high.0

        on_s : side_of s (corner t c) ≡ pos 0
        on_s = subst (λ k. side_of s (corner t k) ≡ pos 0) by_s.ends by_s.is_first.high.0

    parts_differ : exactly_one (is_above (edge t by_s.first) (edge t by_z.first).lo) (is_above (edge t by_s.second) (edge t by_z.second).hi) ≡ true
    parts_differ =
        ap₂ exactly_one (same_above cs (corners_rise layer) s (good r s of_s) (edge t by_s.first) by_s.is_first (edge t by_z.first).lo) (same_above cs (corners_rise layer) s (good r s of_s) (edge t by_s.second) by_s.is_second (edge t by_z.second).hi)
        ∙ sides

  module _ (uncrossed : HasNoCrossing polygons) where
    -- no two pieces cross
    apart : (a b : ℕ) → a < length t.ends → b < length t.ends → cross (edge t a) (edge t b) ≡ true → ⊥
    unfolding ring_table
    apart a b la lb h = elim (cases_order a b) [
      | inl same ↦ both_ways (conflict (edge t b) (edge t b)) (conflict_none (edge t b)) (cross-conflict (edge t b) (edge t b) (subst (λ k. cross (edge t k) (edge t b) ≡ true) same h))
      | inr differ ↦ elim differ [
        | inl less ↦ both_ways (is_crossing t a b) (not-true (is_crossing t a b) (uncrossed a b la lb)) (and_from _ _ (lt-ltb a b less) h)
        | inr more ↦ both_ways (is_crossing t b a) (not-true (is_crossing t b a) (uncrossed b a lb la)) (and_from _ _ (lt-ltb b a more) (crosses_back (edge t a) (edge t b) h))
      ]
    ]

    -- so no two edges conflict
    pub ring_table_calm : NoConflict t
    ring_table_calm a b la lb = not_from_false (conflict (edge t a) (edge t b)) (false_from_ne_true (conflict (edge t a) (edge t b)) (λ h. apart a b la lb (conflict_is_cross layer a b la lb h)))

    -- where two segments cross, a corner lies inside both
    corner_between : (r q : ℕ) (s z : Edge) → IsOf r s → IsOf q z → Cross s z → Meeting cs (corners_rise layer) s z
    corner_between r q s z of_s of_z crossing = meeting cs (corners_rise layer) s z (good r s of_s) (good q z of_z) crossing
        (λ e f there_e there_f h. (let a = piece r s e of_s there_e in let b = piece q z f of_z there_f in
        apart a.number b.number a.fits b.fits (subst (λ d. cross d (edge t b.number) ≡ true) (sym a.is) (subst (λ d. cross e d ≡ true) (sym b.is) h))))

    -- ---- at a corner
    module _ (even : AllEven t) (once : NoneTwice polygons) (unpinched : NonePinched polygons) where
      one : HasOneRing polygons t (ring_of polygons t)
      unfolding ring_table
      one = one_ring polygons once

      odd_has : (r e : ℕ) → e < length t.ends → has_odd t r e ≡ has t r e
      odd_has r e le = one.odd e r le ∙ sym (one.one e r le)

      -- a ring has no third edge at a corner
      only_two : (r c a b e : ℕ) → r < length (feature_rings polygons) → c < length t.corners → a < length t.ends → b < length t.ends → e < length t.ends → (b ≡ a → ⊥)
          → (has t r a && ends_at t c a) ≡ true → (has t r b && ends_at t c b) ≡ true → (has t r e && ends_at t c e) ≡ true → (e ≡ a) ⊎ (e ≡ b)
      unfolding ring_table
      only_two r c a b e lr lc la lb le differ at_a at_b at_e = elim (cases_eq e a) [
        | inl same ↦ inl same
        | inr not_a ↦ elim (cases_eq e b) [
          | inl same ↦ inr same
          | inr not_b ↦ absurd (both_ways (is_pinch polygons t r c) (unpinched r c lr lc)
              (lt-ltb 2 (count_by (λ x. has t r x && ends_at t c x) (edge_numbers t)) (three_counted (λ x. has t r x && ends_at t c x) (length t.ends) a b e la lb le differ not_a not_b at_a at_b at_e)))
        ]
      ]

      module _ (r c : ℕ) (s : Edge) (lr : r < length (feature_rings polygons)) (lc : c < length t.corners) (by_s : Goes r s c) where
        at_first : (has t r by_s.first && ends_at t c by_s.first) ≡ true
        at_first = and_from _ _ by_s.of_first (or_right (lo_of t by_s.first == c) (hi_of t by_s.first == c) (eq-eqb _ _ by_s.ends))

        at_second : (has t r by_s.second && ends_at t c by_s.second) ≡ true
        at_second = and_from _ _ by_s.of_second (or_left (lo_of t by_s.second == c) (hi_of t by_s.second == c) (eq-eqb _ _ by_s.begins))

        -- an edge that ends at the corner does not begin there
        apart_there : (a b : ℕ) → a < length t.ends → hi_of t a ≡ c → lo_of t b ≡ c → b ≡ a → ⊥
        apart_there a b la ends begins same =
            let up = ok.goes_up a la in
            let low : lo_of t a ≡ c = subst (λ k. lo_of t k ≡ c) same begins in
            omega (arith, up.0, ends, low)

        through_it : GoesThrough t r c by_s.first by_s.second
        through_it = record {
          first = by_s.fits_first;
          second = by_s.fits_second;
          ends = by_s.ends;
          begins = by_s.begins;
          only = λ e le at has_e. only_two r c by_s.first by_s.second e lr lc by_s.fits_first by_s.fits_second le (apart_there by_s.first by_s.second by_s.fits_first by_s.ends by_s.begins) at_first at_second (and_from _ _ (sym (odd_has r e le) ∙ has_e) at);
          has_first = odd_has r by_s.first by_s.fits_first ∙ by_s.of_first;
          has_second = odd_has r by_s.second by_s.fits_second ∙ by_s.of_second;
        }

      -- two segments of one ring do not cross
      one_apart : (r c : ℕ) (s z : Edge) → r < length (feature_rings polygons) → c < length t.corners → IsOf r s → IsOf r z → Cross s z → Goes r s c → Goes r z c → ⊥
      one_apart r c s z lr lc of_s of_z crossing by_s by_z =
          both_ways (exactly_one (is_above s (edge t by_z.first).lo) (is_above s (edge t by_z.second).hi)) (ap₂ exactly_one low high) (sides r r c s z of_s of_z crossing by_s by_z)
        where
          is_one_of : (e : ℕ) → e < length t.ends → (has t r e && ends_at t c e) ≡ true → (e ≡ by_s.first) ⊎ (e ≡ by_s.second)
          is_one_of e le at = only_two r c by_s.first by_s.second e lr lc by_s.fits_first by_s.fits_second le (apart_there r c s lr lc by_s by_s.first by_s.second by_s.fits_first by_s.ends by_s.begins) (at_first r c s lr lc by_s) (at_second r c s lr lc by_s) at

          low : is_above s (edge t by_z.first).lo ≡ false
          low = elim (is_one_of by_z.first by_z.fits_first (at_first r c z lr lc by_z)) [
            | inl same ↦ on-not_above s (edge t by_z.first).lo (subst (λ k. is_on s (edge t k).lo ≡ true) (sym same) ((is_on_decides s (edge t by_s.first).lo).1 by_s.is_first.low.0))
            | inr other ↦ absurd (apart_there r c s lr lc by_s by_z.first by_s.second by_z.fits_first by_z.ends by_s.begins (sym other))
          ]

          high : is_above s (edge t by_z.second).hi ≡ false
          high = elim (is_one_of by_z.second by_z.fits_second (at_second r c z lr lc by_z)) [
            | inl other ↦ absurd (apart_there r c s lr lc by_s by_s.first by_z.second by_s.fits_first by_s.ends by_z.begins other)
            | inr same ↦ on-not_above s (edge t by_z.second).hi (subst (λ k. is_on s (edge t k).hi ≡ true) (sym same) ((is_on_decides s (edge t by_s.second).hi).1 by_s.is_second.high.0))
          ]

      -- of two rings: exactly one of the two parts of the one lies over an odd number of edges of the other
      parts_over : (r q c : ℕ) (s z : Edge) → r < length (feature_rings polygons) → (r ≡ q → ⊥) → c < length t.corners → IsOf r s → IsOf q z → Cross s z → (by_s : Goes r s c) → (by_z : Goes q z c) → exactly_one (is_over t by_z.first r) (is_over t by_z.second r) ≡ true
      parts_over r q c s z lr differ lc of_s of_z crossing by_s by_z =
          crossing_sides t ok (all_ends (cut_at cs) layer (cutting_noded layer)) even ring_table_calm r c by_s.first by_s.second by_z.first by_z.second lc (through_it r c s lr lc by_s) by_z.fits_first by_z.fits_second by_z.ends by_z.begins
          (off by_z.first by_z.fits_first by_z.of_first) (off by_z.second by_z.fits_second by_z.of_second) (parts_differ r q c s z of_s of_z crossing by_s by_z)
        where
          off : (e : ℕ) → e < length t.ends → has t q e ≡ true → has_odd t r e ≡ false
          off e le has_q = one.odd e r le ∙ ne_eqb r (ring_of polygons t e) (λ same. differ (same ∙ sym (eqb-true q (ring_of polygons t e) (sym (one.one e q le) ∙ has_q))))

      -- an edge of ring q lies inside a set of which ring r alone is a member where it is over r
      inside_one : (among : ℕ → Bool) (r q e : ℕ) → r < length (feature_rings polygons) → q < length (feature_rings polygons) → (r ≡ q → ⊥) → ((x : ℕ) → x < length (feature_rings polygons) → among x ≡ (r == x)) → e < length t.ends → has t q e ≡ true
          → lies_inside polygons t among e ≡ is_over t e r
      inside_one among r q e lr lq differ is le has_q =
          inside_by_list polygons t (ring_of polygons t) one among e le (ap among (sym (eqb-true q (ring_of polygons t e) (sym (one.one e q le) ∙ has_q))) ∙ (is q lq ∙ ne_eqb r q differ))
          ∙ (odd_many-agree (λ x. nat_lt x (length (feature_rings polygons))) (λ x. among x && is_in x (cover_above t e)) (λ x. (r == x) && is_in x (cover_above t e)) (ring_numbers polygons) (numbers_within (length (feature_rings polygons))) (λ x is_x. ap (λ b. b && is_in x (cover_above t e)) (is x (ltb-true x (length (feature_rings polygons)) is_x)))
          ∙ (one_number (λ x. is_in x (cover_above t e)) r (length (feature_rings polygons)) lr
          ∙ in_cover t e r))

      module _ (within_exterior : NoneOutside polygons) (unnested : NoneNested polygons) where
        -- one of two, where exactly one holds
        first_true : (a b : Bool) → exactly_one a b ≡ true → (a ≡ true) ⊎ (b ≡ true)
        first_true true b h = inl refl
        first_true false b h = inr h

        first_false : (a b : Bool) → exactly_one a b ≡ true → (a ≡ false) ⊎ (b ≡ false)
        first_false true b h = inr (not-true b h)
        first_false false b h = inl refl

        module _ (r q c : ℕ) (s z : Edge) (lr : r < length (feature_rings polygons)) (lq : q < length (feature_rings polygons)) (differ : r ≡ q → ⊥) (lc : c < length t.corners) (of_s : IsOf r s) (of_z : IsOf q z) (crossing : Cross s z) (by_s : Goes r s c) (by_z : Goes q z c)
            (same : polygon_of polygons r ≡ polygon_of polygons q) (hole : is_hole polygons q ≡ true) where
          over : exactly_one (is_over t by_z.first r) (is_over t by_z.second r) ≡ true
          over = parts_over r q c s z lr differ lc of_s of_z crossing by_s by_z

          -- the exterior of the hole's polygon
          abbrev among : ℕ → Bool
          among x = (polygon_of polygons x == polygon_of polygons q) && not (is_hole polygons x)

          -- a hole does not cross its exterior
          not_exterior : is_hole polygons r ≡ false → ⊥
          unfolding ring_table
          not_exterior off = both_ways (is_outside polygons t q) (within_exterior q lq) (and_from _ _ hole (elim (first_false (is_over t by_z.first r) (is_over t by_z.second r) over) [
            | inl first ↦ found by_z.first by_z.fits_first by_z.of_first first
            | inr second ↦ found by_z.second by_z.fits_second by_z.of_second second
          ]))
            where
              sole : (x : ℕ) → x < length (feature_rings polygons) → among x ≡ (r == x)
              sole x lx = same-from_both (among x) (r == x)
                  (λ h. (let parts = and_parts (polygon_of polygons x == polygon_of polygons q) (not (is_hole polygons x)) h in
                  eq-eqb r x (one_exterior 0 polygons r x lr lx (same ∙ sym (eqb-true (polygon_of polygons x) (polygon_of polygons q) parts.0)) off (not-true (is_hole polygons x) parts.1))))
                  (λ h. subst (λ k. among k ≡ true) (eqb-true r x h) (and_from _ _ (eq-eqb (polygon_of polygons r) (polygon_of polygons q) same) (not_from_false (is_hole polygons r) off)))

              found : (e : ℕ) → e < length t.ends → has t q e ≡ true → is_over t e r ≡ false → list_any (λ d. has t q d && not (lies_inside polygons t among d)) (edge_numbers t) ≡ true
              found e le has_q under = any-found (λ d. has t q d && not (lies_inside polygons t among d)) (edge_numbers t) e (in_numbers e (length t.ends) le)
                  (and_from _ _ has_q (not_from_false (lies_inside polygons t among e) (inside_one among r q e lr lq differ sole le has_q ∙ under)))

          -- nor another hole
          not_hole : is_hole polygons r ≡ true → ⊥
          unfolding ring_table
          not_hole other = both_ways (is_nested polygons t q r) (unnested q r lq lr) (and_from _ _
              (and_from _ _ (and_from _ _ hole other) (and_from _ _ (eq-eqb (polygon_of polygons q) (polygon_of polygons r) (sym same)) (not_from_false (q == r) (ne_eqb q r (λ e. differ (sym e))))))
              (elim (first_true (is_over t by_z.first r) (is_over t by_z.second r) over) [
                | inl first ↦ found by_z.first by_z.fits_first by_z.of_first first
                | inr second ↦ found by_z.second by_z.fits_second by_z.of_second second
              ]))
            where
              found : (e : ℕ) → e < length t.ends → has t q e ≡ true → is_over t e r ≡ true → list_any (λ d. has t q d && lies_inside polygons t (λ k. k == r) d) (edge_numbers t) ≡ true
              found e le has_q above = any-found (λ d. has t q d && lies_inside polygons t (λ k. k == r) d) (edge_numbers t) e (in_numbers e (length t.ends) le)
                  (and_from _ _ has_q (inside_one (λ k. k == r) r q e lr lq differ (λ x lx. number_swap x r) le has_q ∙ above))

          never : ⊥
          never = elim (cases_Bool (is_hole polygons r)) [ inl other ↦ not_hole other | inr off ↦ not_exterior off ]

        -- no two segments of one polygon cross
        segments_calm : (r q : ℕ) (s z : Edge) → r < length (feature_rings polygons) → q < length (feature_rings polygons) → polygon_of polygons r ≡ polygon_of polygons q → IsOf r s → IsOf q z → Cross s z → ⊥
        unfolding Cross
        segments_calm r q s z lr lq same of_s of_z crossing =
            let met : Meeting cs (corners_rise layer) s z = corner_between r q s z of_s of_z crossing in
            let c = number_of cs met.at in
            let lc : c < length t.corners = c_fits met.at met.is_corner in
            let by_s : Goes r s c = goes met.at met.is_corner r s of_s met.in_first in
            let by_z : Goes q z c = goes met.at met.is_corner q z of_z met.in_second in
            elim (cases_eq r q) [
              | inl one_ring_both ↦ one_apart r c s z lr lc of_s (subst (λ k. IsOf k z) (sym one_ring_both) of_z) crossing by_s (subst (λ k. Goes k z c) (sym one_ring_both) by_z)
              | inr differ ↦ elim (cases_Bool (is_hole polygons q)) [
                | inl hole ↦ never r q c s z lr lq differ lc of_s of_z crossing by_s by_z same hole
                | inr off_q ↦ elim (cases_Bool (is_hole polygons r)) [
                  | inl hole ↦ never q r c z s lq lr (λ e. differ (sym e)) lc of_z of_s (crossing.1, crossing.0) by_z by_s (sym same) hole
                  | inr off_r ↦ differ (one_exterior 0 polygons r q lr lq same off_r off_q)
                ]
              ]
            ]

        -- ---- the table of one polygon
        module _ (n : ℕ) (ln : n < length polygons) where
          abbrev rings : Rings
          rings = get_or polygons n []

          abbrev alone : List Rings
          alone = rings ∷ []

          abbrev u : Table
          u = noded_table_of alone

          rise : is_rising before (layer_corners alone) ≡ true
          rise = corners_rise alone

          -- the segment and the ring of an edge
          record Source (e : Edge) : Type 0 where
            segment : Edge
            j : ℕ
            ring : Numbered 0 polygons n j
            of : IsOf ring.number segment
            sound : is_good (layer_corners alone) segment ≡ true
            part : IsPiece (layer_corners alone) rise segment e

          source : (k : ℕ) → k < length u.ends → Source (edge u k)
          source k fits =
              let hit : Edge → Bool = is_hit (cut_at (layer_corners alone)) (edge u k) in
              let found = some_ring hit rings (ap (list_any hit) (sym (append-nil (segments rings))) ∙ some_has alone 0 k fits) in
              let at = some_edge hit (ring_segments (get_or rings found.0 [])) found.2 in
              let number : Numbered 0 polygons n found.0 = numbered 0 polygons n found.0 ln found.1 in
              let sound : is_good (layer_corners alone) at.0 ≡ true = every_edge (is_good (layer_corners alone)) (segments rings) at.0 (feature_part (is_good (layer_corners alone)) alone 0 (layer_good alone)) (ring_part (same_edge at.0) rings found.0 at.1) in
              record {
                segment = at.0;
                j = found.0;
                ring = number;
                of = ap (λ ring. list_any (same_edge at.0) (ring_segments ring)) number.is_ring ∙ at.1;
                sound = sound;
                part = is_piece (layer_corners alone) rise at.0 sound (edge u k) at.2;
              }

          -- so no two of its edges cross
          edges_calm : (a b : ℕ) → a < length u.ends → b < length u.ends → cross (edge u a) (edge u b) ≡ true → ⊥
          unfolding Cross
          edges_calm a b la lb h =
              let first : Source (edge u a) = source a la in
              let second : Source (edge u b) = source b lb in
              let crossing : Cross (edge u a) (edge u b) = (cross_decides (edge u a) (edge u b)).0 h in
              let s = first.segment in let z = second.segment in
              segments_calm first.ring.number second.ring.number s z first.ring.fits second.ring.fits
              (ap (λ (place : ℕ × Bool). place.0) (first.ring.place ∙ ap (λ b. (0 + n, b)) refl) ∙ sym (ap (λ (place : ℕ × Bool). place.0) second.ring.place))
              first.of second.of (
                wider s z (edge u b).lo (edge u b).hi (goes z second.sound) second.part.low second.part.high second.part.up (parted_whole (layer_corners alone) rise s first.sound (edge u a) first.part (edge u b).lo (edge u b).hi crossing.0),
                wider z s (edge u a).lo (edge u a).hi (goes s first.sound) first.part.low first.part.high first.part.up (parted_whole (layer_corners alone) rise z second.sound (edge u b) second.part (edge u a).lo (edge u a).hi crossing.1),
              )
            where
              goes : (d : Edge) → is_good (layer_corners alone) d ≡ true → IsEdge d
              goes d sound = (before_decides d.lo d.hi).0 (and_parts (goes_up d) (has_ends (layer_corners alone) d) sound).0

          pub polygon_calm : NoConflict u
          polygon_calm a b la lb = not_from_false (conflict (edge u a) (edge u b)) (false_from_ne_true (conflict (edge u a) (edge u b)) (λ h. edges_calm a b la lb (conflict_is_cross alone a b la lb h)))

pub rings_calm : RingsCalm
unfolding ring_table
rings_calm polygons uncrossed = ring_table_calm polygons uncrossed

pub polygons_calm : PolygonsCalm
unfolding ring_table polygon_table
polygons_calm polygons even uncrossed once unpinched kept unnested n ln = polygon_calm polygons uncrossed even once unpinched kept unnested n ln

pub conflicts_cross : ConflictsCross
unfolding ring_table
conflicts_cross polygons = (
  λ a b less lb h. and_from _ _ (lt-ltb a b less) (conflict_is_cross (layer polygons) a b (omega arith) lb h),
  λ calm a b la lb. not_from_false (is_crossing (t polygons) a b) (false_from_ne_true (is_crossing (t polygons) a b) (λ h. both_ways (conflict (edge (t polygons) a) (edge (t polygons) b)) (not-true (conflict (edge (t polygons) a) (edge (t polygons) b)) (calm a b la lb)) (cross-conflict (edge (t polygons) a) (edge (t polygons) b) (and_parts (nat_lt a b) (cross (edge (t polygons) a) (edge (t polygons) b)) h).1))),
)
