-- The noded table: no two of its edges touch, and where no two plain edges conflict it is the plain table.
use Rattle.std.proofs.Common.{◌≡◌, ℕ, suc, ◌+◌, ◌<◌, Bool, true, false, not, ◌||◌, List, [], ◌∷◌, ◌++◌, length, get_or, map, refl, sym, ◌∙◌, ap, ap₂, subst, inl, inr, arith}
use Rattle.std.specs.Prelude.{if◌then◌else◌, Option, Some, None, find, unwrap_or}
use Rattle.std.specs.List.{list_any, list_all, flat_map, filter_map, enumerate_from, cons_option}
use Rattle.std.proofs.lemmas.Bool.{and_parts, both_ways, false_from_ne_true, not-true, or_cases, or_from, or_left, or_right, true≢false}
use Rattle.std.proofs.lemmas.List.Folds.{list_any-append, list_any_at}
use Rattle.loc_spec_plane.specs.Points.{Point, Edge, same_point, same_edge, edge_before, inside, ends_inside, touch, cross, conflict}
use Rattle.loc_spec_plane.specs.{Lists.exactly_one, Lists.odd_many, Lists.sorted_set, Rings.Rings, Rings.segments}
use Rattle.loc_spec_plane.specs.Tables.{Table, NoConflict, table_by, table_of, noded_table_of, whole, cut_at, edge, edge_marks, mark_of, layer_segments, layer_corners, pieces_of, number_of, numbered_ends, source_in}
use Rattle.loc_laws_order.proofs.{Tests.same_edge_decides, Tests.touch-conflict, TableOrder.origin_point}
use Rattle.loc_laws_order.specs.Numbered.{has_ends}
use Rattle.loc_laws_noding.specs.Laws.{IsCutting, goes_up, is_good}
use Rattle.loc_laws_noding.proofs.Layers.{any-corners, corners_rise, cutting_at, layer_good}
use Rattle.loc_laws_noding.proofs.{Orders.edges_by_before, Pieces.none_inside, Pieces.one_piece, Pieces.whole_cut}
use Rattle.loc_laws_noding.proofs.SortedSet.{any-sorted_set}
use Rattle.loc_laws_noding.proofs.Tables.{any_of_pieces, as_many_ends, edge_is_piece, piece_there, pieces}

-- ---- the two cuts
-- cutting nothing is a cut
pub cutting_whole : (layer : List Rings) → IsCutting (layer_corners layer) whole
cutting_whole layer s good =
    let parts = and_parts (goes_up s) (has_ends (layer_corners layer) s) good in
    let ends = and_parts (list_any (same_point s.lo) (layer_corners layer)) (list_any (same_point s.hi) (layer_corners layer)) parts.1 in
    whole_cut (layer_corners layer) (corners_rise layer) s parts.0 ends.0 ends.1

-- cutting at the corners is one
pub cutting_noded : (layer : List Rings) → IsCutting (layer_corners layer) (cut_at (layer_corners layer))
cutting_noded layer = cutting_at (layer_corners layer) (corners_rise layer)

-- ---- members and numbers
none_at : {X : Type 0} (test : X → Bool) (xs : List X) (n : ℕ) (d : X) → list_any test xs ≡ false → n < length xs → test (get_or xs n d) ≡ false
none_at test xs n d none fits = false_from_ne_true (test (get_or xs n d)) (λ h. both_ways (list_any test xs) none (list_any_at test xs n d fits h))

pub number_in : {X : Type 0} (test : X → Bool) (xs : List X) (d : X) → list_any test xs ≡ true → (n : ℕ) × (n < length xs) × (test (get_or xs n d) ≡ true)
number_in test [] d h = absurd (true≢false (sym h))
number_in test (x ∷ xs) d h = elim (or_cases (test x) (list_any test xs) h) [
  | inl here ↦ (0, omega arith, here)
  | inr later ↦ (let found = number_in test xs d later in (suc found.0, omega (arith, found.1), found.2))
]

no_edge : Edge
no_edge = record { lo = origin_point; hi = origin_point }

-- ---- no touch
module _ (layer : List Rings) where
  abbrev cs : List Point
  cs = layer_corners layer

  abbrev cut : Edge → List Edge
  cut = cut_at cs

  abbrev noded : Table
  noded = table_by cut layer

  -- no corner lies inside a piece of a segment
  nothing_inside : (c : Point) → list_any (same_point c) cs ≡ true → (ss : List Edge) → list_all (is_good cs) ss ≡ true → list_any (λ s. list_any (λ e. inside e c) (cut s)) ss ≡ false
  nothing_inside c there [] all = refl
  nothing_inside c there (s ∷ ss) all =
      let parts = and_parts (is_good cs s) (list_all (is_good cs) ss) all in
      let good = and_parts (goes_up s) (has_ends cs s) parts.0 in
      let ends = and_parts (list_any (same_point s.lo) cs) (list_any (same_point s.hi) cs) good.1 in
      or_from _ _ (none_inside cs (corners_rise layer) s good.0 ends.0 ends.1 c there) (nothing_inside c there ss parts.1)

  -- so no corner lies inside an edge
  corner_outside : (n : ℕ) (c : Point) → n < length (pieces cut layer) → list_any (same_point c) cs ≡ true → inside (get_or (pieces cut layer) n no_edge) c ≡ false
  corner_outside n c fits there = none_at (λ e. inside e c) (pieces cut layer) n no_edge (any_of_pieces cut layer (λ e. inside e c) ∙ nothing_inside c there (layer_segments layer) (layer_good layer)) fits

  piece_apart : (a b : ℕ) → a < length (pieces cut layer) → b < length (pieces cut layer) → ends_inside (get_or (pieces cut layer) a no_edge) (get_or (pieces cut layer) b no_edge) ≡ false
  piece_apart a b fa fb =
      let e : Edge = get_or (pieces cut layer) a no_edge in
      let there = and_parts (list_any (same_point e.lo) cs) (list_any (same_point e.hi) cs) (piece_there cut layer (cutting_noded layer) a no_edge fa) in
      or_from _ _ (corner_outside b e.lo fb there.0) (corner_outside b e.hi fb there.1)

  -- no two edges touch
  pub never_touch : (a b : ℕ) → a < length noded.ends → b < length noded.ends → touch (edge noded a) (edge noded b) ≡ false
  never_touch a b la lb =
      let fa : a < length (pieces cut layer) = omega (arith, as_many_ends cut layer) in
      let fb : b < length (pieces cut layer) = omega (arith, as_many_ends cut layer) in
      let same_a = edge_is_piece cut layer (cutting_noded layer) a no_edge fa in
      let same_b = edge_is_piece cut layer (cutting_noded layer) b no_edge fb in
      sym (ap (λ e. touch e (get_or (pieces cut layer) b no_edge)) same_a ∙ ap (touch (edge noded a)) same_b)
      ∙ or_from _ _ (piece_apart a b fa fb) (piece_apart b a fb fa)

  -- so a conflict of two edges is a crossing
  pub conflict_is_cross : (a b : ℕ) → a < length noded.ends → b < length noded.ends → conflict (edge noded a) (edge noded b) ≡ true → cross (edge noded a) (edge noded b) ≡ true
  conflict_is_cross a b la lb h =
      let parts = and_parts (not (same_edge (edge noded a) (edge noded b))) (touch (edge noded a) (edge noded b) || cross (edge noded a) (edge noded b)) h in
      elim (or_cases (touch (edge noded a) (edge noded b)) (cross (edge noded a) (edge noded b)) parts.1) [
        | inl touches ↦ absurd (both_ways (touch (edge noded a) (edge noded b)) (never_touch a b la lb) touches)
        | inr crosses ↦ crosses
      ]

-- ---- two cuts that agree
-- the two cuts agree on the segments
abbrev Agree : (Edge → List Edge) → (Edge → List Edge) → List Edge → Type 0
Agree f g ss = (s : Edge) → list_any (same_edge s) ss ≡ true → f s ≡ g s

module _ (f g : Edge → List Edge) where
  first_agree : (s : Edge) (ss : List Edge) → Agree f g (s ∷ ss) → f s ≡ g s
  first_agree s ss agree = agree s (or_left (same_edge s s) (list_any (same_edge s) ss) ((same_edge_decides s s).1 refl))

  rest_agree : (s : Edge) (ss : List Edge) → Agree f g (s ∷ ss) → Agree f g ss
  rest_agree s ss agree r there = agree r (or_right (same_edge r s) (list_any (same_edge r) ss) there)

  flat_same : (ss : List Edge) → Agree f g ss → flat_map f ss ≡ flat_map g ss
  flat_same [] agree = refl
  flat_same (s ∷ ss) agree = ap₂ (λ xs ys. xs ++ ys) (first_agree s ss agree) (flat_same ss (rest_agree s ss agree))

  any_same : (e : Edge) (ss : List Edge) → Agree f g ss → list_any (λ s. list_any (same_edge e) (f s)) ss ≡ list_any (λ s. list_any (same_edge e) (g s)) ss
  any_same e [] agree = refl
  any_same e (s ∷ ss) agree = ap₂ (λ a b. a || b) (ap (list_any (same_edge e)) (first_agree s ss agree)) (any_same e ss (rest_agree s ss agree))

  odd_same : (e : Edge) (ss : List Edge) → Agree f g ss → odd_many (λ s. list_any (same_edge e) (f s)) ss ≡ odd_many (λ s. list_any (same_edge e) (g s)) ss
  odd_same e [] agree = refl
  odd_same e (s ∷ ss) agree = ap₂ exactly_one (ap (list_any (same_edge e)) (first_agree s ss agree)) (odd_same e ss (rest_agree s ss agree))

  mark_same : (e : Edge) (n : ℕ) (ss : List Edge) → Agree f g ss → mark_of f e n ss ≡ mark_of g e n ss
  mark_same e n ss agree = ap₂ (λ some odd. if some then Some (record { feature = n; odd = odd }) else None) (any_same e ss agree) (odd_same e ss agree)

  marks_same : (e : Edge) (a : ℕ) (layer : List Rings) → Agree f g (layer_segments layer) → filter_map (λ (numbered : ℕ × Rings). mark_of f e numbered.0 (segments numbered.1)) (enumerate_from a layer) ≡ filter_map (λ (numbered : ℕ × Rings). mark_of g e numbered.0 (segments numbered.1)) (enumerate_from a layer)
  marks_same e a [] agree = refl
  marks_same e a (r ∷ rs) agree = ap₂ cons_option
      (mark_same e a (segments r) (λ s there. agree s (list_any-append (same_edge s) (segments r) (layer_segments rs) ∙ or_left _ _ there)))
      (marks_same e (a + 1) rs (λ s there. agree s (list_any-append (same_edge s) (segments r) (layer_segments rs) ∙ or_right (list_any (same_edge s) (segments r)) _ there)))

  find_same : (e : Edge) (ss : List Edge) → Agree f g ss → find (λ s. list_any (same_edge e) (f s)) ss ≡ find (λ s. list_any (same_edge e) (g s)) ss
  find_same e [] agree = refl
  find_same e (s ∷ ss) agree = ap₂ (λ (hit : Bool) (rest : Option Edge). if hit then Some s else rest) (ap (list_any (same_edge e)) (first_agree s ss agree)) (find_same e ss (rest_agree s ss agree))

  source_same : (e : Edge) (layer : List Rings) → Agree f g (layer_segments layer) → source_in f layer e ≡ source_in g layer e
  source_same e layer agree = ap (λ o. unwrap_or o e) (find_same e (sorted_set edge_before (layer_segments layer)) (λ s there. agree s (sym (any-sorted_set edges_by_before (same_edge s) (layer_segments layer)) ∙ there)))

  pub map_same : {X Y : Type 0} (h k : X → Y) → ((x : X) → h x ≡ k x) → (xs : List X) → map h xs ≡ map k xs
  map_same h k same [] = refl
  map_same h k same (x ∷ xs) = ap₂ (λ y ys. y ∷ ys) (same x) (map_same h k same xs)

  -- cuts that agree on the segments of a layer give one table
  pub one_table : (layer : List Rings) → Agree f g (layer_segments layer) → table_by f layer ≡ table_by g layer
  unfolding table_by
  one_table layer agree =
      let cs : List Point = layer_corners layer in
      let number : Edge → ℕ × ℕ = λ e. (number_of cs e.lo, number_of cs e.hi) in
      let same : pieces_of f layer ≡ pieces_of g layer = ap (sorted_set edge_before) (flat_same (layer_segments layer) agree) in
      ap (λ es. record { corners = cs; ends = map number es; marks = map (edge_marks f layer) es; sources = map (λ (e : Edge). numbered_ends layer (source_in f layer e)) es }) same
      ∙ (ap (λ rows. record { corners = cs; ends = map number (pieces_of g layer); marks = rows; sources = map (λ (e : Edge). numbered_ends layer (source_in f layer e)) (pieces_of g layer) }) (map_same (edge_marks f layer) (edge_marks g layer) (λ e. marks_same e 0 layer agree) (pieces_of g layer))
      ∙ ap (λ rows. record { corners = cs; ends = map number (pieces_of g layer); marks = map (edge_marks g layer) (pieces_of g layer); sources = rows }) (map_same (λ (e : Edge). numbered_ends layer (source_in f layer e)) (λ (e : Edge). numbered_ends layer (source_in g layer e)) (λ e. ap (numbered_ends layer) (source_same e layer agree)) (pieces_of g layer)))

-- ---- where nothing conflicts
module _ (layer : List Rings) (calm : NoConflict (table_of layer)) where
  -- two segments do not touch
  segments_apart : (a b : Edge) → list_any (same_edge a) (pieces whole layer) ≡ true → list_any (same_edge b) (pieces whole layer) ≡ true → touch a b ≡ false
  segments_apart a b in_a in_b =
      let na = number_in (same_edge a) (pieces whole layer) no_edge in_a in
      let nb = number_in (same_edge b) (pieces whole layer) no_edge in_b in
      let t : Table = table_by whole layer in
      let is_a : a ≡ edge t na.0 = (same_edge_decides a (get_or (pieces whole layer) na.0 no_edge)).0 na.2 ∙ edge_is_piece whole layer (cutting_whole layer) na.0 no_edge na.1 in
      let is_b : b ≡ edge t nb.0 = (same_edge_decides b (get_or (pieces whole layer) nb.0 no_edge)).0 nb.2 ∙ edge_is_piece whole layer (cutting_whole layer) nb.0 no_edge nb.1 in
      false_from_ne_true (touch a b) (λ h. both_ways (conflict (edge t na.0) (edge t nb.0))
      (not-true (conflict (edge t na.0) (edge t nb.0)) (calm na.0 nb.0 (omega (arith, na.1, as_many_ends whole layer)) (omega (arith, nb.1, as_many_ends whole layer))))
      (subst (λ d. conflict d (edge t nb.0) ≡ true) is_a (subst (λ d. conflict a d ≡ true) is_b (touch-conflict a b h))))

  -- a segment is an edge of the plain table
  is_edge : (s : Edge) → list_any (same_edge s) (layer_segments layer) ≡ true → list_any (same_edge s) (pieces whole layer) ≡ true
  is_edge s there = any_of_pieces whole layer (same_edge s) ∙ each (layer_segments layer) there
    where
      each : (ss : List Edge) → list_any (same_edge s) ss ≡ true → list_any (λ r. list_any (same_edge s) (whole r)) ss ≡ true
      each [] h = h
      each (r ∷ rs) h = elim (or_cases (same_edge s r) (list_any (same_edge s) rs) h) [
        | inl here ↦ or_left (list_any (same_edge s) (whole r)) _ (or_left (same_edge s r) false here)
        | inr later ↦ or_right (list_any (same_edge s) (whole r)) _ (each rs later)
      ]

  -- no corner lies inside a segment
  no_corner_inside : (s : Edge) → list_any (same_edge s) (layer_segments layer) ≡ true → list_any (inside s) (layer_corners layer) ≡ false
  no_corner_inside s there = any-corners (inside s) layer ∙ none (layer_segments layer) (λ r here. here)
    where
      none : (ss : List Edge) → ((r : Edge) → list_any (same_edge r) ss ≡ true → list_any (same_edge r) (layer_segments layer) ≡ true) → list_any (λ (r : Edge). inside s r.lo || inside s r.hi) ss ≡ false
      none [] part = refl
      none (r ∷ rs) part =
          let within = part r (or_left (same_edge r r) (list_any (same_edge r) rs) ((same_edge_decides r r).1 refl)) in
          or_from _ _
          (false_from_ne_true (inside s r.lo || inside s r.hi) (λ h. both_ways (touch r s) (segments_apart r s (is_edge r within) (is_edge s there)) (or_left (ends_inside r s) (ends_inside s r) h)))
          (none rs (λ z here. part z (or_right (same_edge z r) (list_any (same_edge z) rs) here)))

  -- each segment is its own one piece
  pub uncut : Agree (cut_at (layer_corners layer)) whole (layer_segments layer)
  uncut s there =
      let good = and_parts (goes_up s) (has_ends (layer_corners layer) s) (of_member (layer_segments layer) (layer_good layer) there) in
      let ends = and_parts (list_any (same_point s.lo) (layer_corners layer)) (list_any (same_point s.hi) (layer_corners layer)) good.1 in
      one_piece (layer_corners layer) (corners_rise layer) s good.0 ends.0 ends.1 (no_corner_inside s there)
    where
      of_member : (ss : List Edge) → list_all (is_good (layer_corners layer)) ss ≡ true → list_any (same_edge s) ss ≡ true → is_good (layer_corners layer) s ≡ true
      of_member [] all here = absurd (true≢false (sym here))
      of_member (r ∷ rs) all here =
          let parts = and_parts (is_good (layer_corners layer) r) (list_all (is_good (layer_corners layer)) rs) all in
          elim (or_cases (same_edge s r) (list_any (same_edge s) rs) here) [
            | inl at ↦ subst (λ d. is_good (layer_corners layer) d ≡ true) (sym ((same_edge_decides s r).0 at)) parts.0
            | inr later ↦ of_member rs parts.1 later
          ]

  -- the noded table is the plain one
  pub plain_is_noded : noded_table_of layer ≡ table_of layer
  plain_is_noded = one_table (cut_at (layer_corners layer)) whole layer uncut
