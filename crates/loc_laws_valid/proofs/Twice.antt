-- The least edge that is a piece of more than one segment: of all pieces in order, the first that stands there twice.
use Rattle.std.proofs.Common.{◌≡◌, ℕ, ◌<◌, ◌≤◌, Bool, true, false, List, [], ◌||◌, ◌∷◌, length, filter, get_or, map, refl, sym, ◌∙◌, ap, ap₂, subst, inl, inr, arith}
use Rattle.std.specs.Prelude.{nat_lt, count_by, find, Option, Some, None, option_map}
use Rattle.std.specs.List.{list_any, list_all, flat_map}
use Rattle.std.proofs.lemmas.Bool.{and_parts, cases_Bool, both_ways, false_from_ne_true, le-ltb, lt-ltb, or_left, or_right}
use Rattle.std.proofs.lemmas.List.Sums.{sum_by-append, sum_by-cons}
use Rattle.loc_spec_plane.specs.{Lists.is_rising, Lists.numbers, Rings.Rings, Rings.segments}
use Rattle.loc_spec_plane.specs.Points.{Point, Edge, before, edge_before, lies_on, same_edge}
use Rattle.loc_spec_plane.specs.Tables.{Table, table_by, noded_table_of, cut_at, edge, layer_corners, neighbour_edges}
use Rattle.loc_spec_valid.specs.Breaches.{feature_rings, is_twice, ring_table}
use Rattle.loc_laws_order.proofs.{Kept.rising_kept, TableOrder.rises, Tests.same_edge_decides}
use Rattle.loc_laws_noding.proofs.{Chains.edges_rise, Layers.corners_rise, Noded.cutting_noded, Orders.edges_by_before}
use Rattle.loc_laws_noding.proofs.SortedSet.{irrefl}
use Rattle.loc_laws_noding.proofs.Tables.{any_of_pieces, as_many_ends, edge_is_piece, pieces, pieces_rise}
use Rattle.loc_laws_repeats.specs.Repeats.{IsFirstTwice}
use Rattle.loc_laws_valid.specs.Laws.{TwiceByPieces}
use Rattle.loc_laws_valid.proofs.{Calm.edge_place, Least.first_at, Least.first_none, Once.one_if}
use Rattle.loc_laws_valid.proofs.OneRing.{all_segments, no_edge, single}

-- ---- an edge is at most one piece of a segment
cut_rises : (corners : List Point) (s : Edge) → is_rising before corners ≡ true → is_rising edge_before (cut_at corners s) ≡ true
cut_rises corners s rise = chain (filter (lies_on s) corners) (rising_kept (lies_on s) before corners rise)
  where
    chain : (ps : List Point) → is_rising before ps ≡ true → is_rising edge_before (neighbour_edges ps) ≡ true
    chain [] rise = refl
    chain (p ∷ ps) rise = edges_rise p ps rise

-- behind an edge it does not stand again
none_behind : (x : Edge) (es : List Edge) → list_all (edge_before x) es ≡ true → (count_by (same_edge x) es ≡ 0) × (list_any (same_edge x) es ≡ false)
none_behind x [] all = (refl, refl)
none_behind x (e ∷ es) all =
    let parts = and_parts (edge_before x e) (list_all (edge_before x) es) all in
    let off : same_edge x e ≡ false = false_from_ne_true (same_edge x e) (λ h. both_ways (edge_before x x) (irrefl edges_by_before x) (subst (λ y. edge_before x y ≡ true) (sym ((same_edge_decides x e).0 h)) parts.0)) in
    let rest = none_behind x es parts.1 in
    let none : one_if (same_edge x e) ≡ 0 = ap one_if off in
    (omega (arith, sum_by-cons (λ y. one_if (same_edge x y)) e es, none, rest.0), ap₂ (λ a b. a || b) off rest.1)

once : (x : Edge) (es : List Edge) → is_rising edge_before es ≡ true → count_by (same_edge x) es ≡ one_if (list_any (same_edge x) es)
once x [] rise = refl
once x (e ∷ es) rise =
    let parts = and_parts (list_all (edge_before e) es) (is_rising edge_before es) rise in
    elim (cases_Bool (same_edge x e)) [
      | inl here ↦ (let is : x ≡ e = (same_edge_decides x e).0 here in
          let rest = none_behind x es (subst (λ y. list_all (edge_before y) es ≡ true) (sym is) parts.0) in
          let one : one_if (same_edge x e) ≡ 1 = ap one_if here in
          let all : one_if (list_any (same_edge x) (e ∷ es)) ≡ 1 = ap one_if (or_left (same_edge x e) (list_any (same_edge x) es) here) in
          omega (arith, sum_by-cons (λ y. one_if (same_edge x y)) e es, one, all, rest.0))
      | inr off ↦ (let none : one_if (same_edge x e) ≡ 0 = ap one_if off in
          let all : one_if (list_any (same_edge x) (e ∷ es)) ≡ one_if (list_any (same_edge x) es) = ap (λ b. one_if (b || list_any (same_edge x) es)) off in
          omega (arith, sum_by-cons (λ y. one_if (same_edge x y)) e es, none, all, once x es parts.1))
    ]

-- so the pieces that are the edge are as many as the segments that have it
by_segments : (corners : List Point) → is_rising before corners ≡ true → (x : Edge) (ss : List Edge) → count_by (same_edge x) (flat_map (cut_at corners) ss) ≡ count_by (λ s. list_any (same_edge x) (cut_at corners s)) ss
by_segments corners rise x [] = refl
by_segments corners rise x (s ∷ ss) =
    let front = sum_by-append (λ y. one_if (same_edge x y)) (cut_at corners s) (flat_map (cut_at corners) ss) in
    let whole = sum_by-cons (λ d. one_if (list_any (same_edge x) (cut_at corners d))) s ss in
    omega (arith, front, whole, once x (cut_at corners s) (cut_rises corners s rise), by_segments corners rise x ss)

-- what is counted stands there
counted_there : (p : Edge → Bool) (es : List Edge) → 0 < count_by p es → list_any p es ≡ true
counted_there p [] some = absurd (omega (arith, some))
counted_there p (e ∷ es) some = elim (cases_Bool (p e)) [
  | inl here ↦ or_left (p e) (list_any p es) here
  | inr off ↦ (let none : one_if (p e) ≡ 0 = ap one_if off in or_right (p e) (list_any p es) (counted_there p es (omega (arith, some, none, sum_by-cons (λ y. one_if (p y)) e es))))
]

module _ (polygons : List Rings) where
  abbrev layer : List Rings
  layer = map single (feature_rings polygons)

  abbrev t : Table
  t = noded_table_of layer

  abbrev cs : List Point
  cs = layer_corners layer

  abbrev all : List Edge
  all = flat_map (cut_at cs) (segments (feature_rings polygons))

  twice_is : (e : ℕ) → is_twice polygons t e ≡ nat_lt 1 (count_by (same_edge (edge t e)) all)
  unfolding table_by
  twice_is e = ap (nat_lt 1) (sym (by_segments cs (corners_rise layer) (edge t e) (segments (feature_rings polygons))))

  few : (e : ℕ) → count_by (same_edge (edge t e)) all ≤ 1 → is_twice polygons t e ≡ false
  few e le = twice_is e ∙ le-ltb 1 (count_by (same_edge (edge t e)) all) le

  found : (answer : Option Edge) → IsFirstTwice all answer → option_map (edge t) (find (is_twice polygons t) (numbers (length t.ends))) ≡ answer
  found None none = ap (option_map (edge t)) (first_none (is_twice polygons t) (length t.ends) (λ e lt. few e (none (edge t e))))
  found (Some x) first = ap (option_map (edge t)) (first_at (is_twice polygons t) (length t.ends) place.0 fits (twice_is place.0 ∙ (ap (λ e. nat_lt 1 (count_by (same_edge e) all)) is ∙ lt-ltb 1 (count_by (same_edge x) all) first.0)) (λ j less. few j (first.1 (edge t j) (earlier j less))))
      ∙ ap (λ e. Some e) is
    where
      there : list_any (same_edge x) (pieces (cut_at cs) layer) ≡ true
      there = any_of_pieces (cut_at cs) layer (same_edge x)
          ∙ (ap (list_any (λ s. list_any (same_edge x) (cut_at cs s))) (all_segments (feature_rings polygons))
          ∙ counted_there (λ s. list_any (same_edge x) (cut_at cs s)) (segments (feature_rings polygons)) (omega (arith, first.0, by_segments cs (corners_rise layer) x (segments (feature_rings polygons)))))

      place : (n : ℕ) × (n < length (pieces (cut_at cs) layer)) × (get_or (pieces (cut_at cs) layer) n no_edge ≡ x)
      place = edge_place x (pieces (cut_at cs) layer) there

      fits : place.0 < length t.ends
      fits = omega (arith, place.1, as_many_ends (cut_at cs) layer)

      is : edge t place.0 ≡ x
      is = sym (edge_is_piece (cut_at cs) layer (cutting_noded layer) place.0 no_edge place.1) ∙ place.2

      earlier : (j : ℕ) → j < place.0 → edge_before (edge t j) x ≡ true
      earlier j less =
          let lj : j < length (pieces (cut_at cs) layer) = omega (arith, less, place.1) in
          subst (λ e. edge_before e x ≡ true) (edge_is_piece (cut_at cs) layer (cutting_noded layer) j no_edge lj)
          (subst (λ e. edge_before (get_or (pieces (cut_at cs) layer) j no_edge) e ≡ true) place.2 (rises edge_before no_edge (pieces (cut_at cs) layer) j place.0 (pieces_rise (cut_at cs) layer) less place.1))

pub twice_by_pieces : TwiceByPieces
unfolding ring_table table_by
twice_by_pieces polygons answer first = found polygons answer first
