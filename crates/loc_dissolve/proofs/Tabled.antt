-- The parts of the table of the edges that pass a test: its corners, its ends, and a mark on each edge.
use Rattle.std.proofs.Common.{◌≡◌, ℕ, zero, suc, ◌+◌, ◌<◌, ◌≤◌, Bool, true, ◌&&◌, ◌||◌, List, [], ◌∷◌, length, get_or, map, filter, refl, sym, ◌∙◌, ap, ap₂, subst, inl, inr, arith}
use Rattle.std.specs.Prelude.{◌==◌, All, nat_lt}
use Rattle.std.specs.List.{list_all, list_any, range_with_len}
use Rattle.std.proofs.lemmas.Bool.{and_from, and_parts, cases_eq, cond-true, cond-false, eq-eqb, eqb-true, ne_eqb, or_cases, or_left, or_right, true≢false}
use Rattle.std.proofs.lemmas.List.{get_or-map, get_or_default, length-map, same_lists}
use Rattle.std.proofs.lemmas.List.FromFn.{get_or-map-range_with_len, length-map-range_with_len, length-range_with_len}
use Rattle.std.proofs.lemmas.List.Sums.{count_by-le-length, length-filter}
use Rattle.loc_spec_plane.specs.{declared.Mark.Mark, Points.Point, Points.Edge, Points.before}
use Rattle.loc_spec_plane.specs.Lists.{is_in, is_rising, numbers, sorted_set}
use Rattle.loc_spec_plane.specs.Tables.{Table, IsTable, corner, corner_numbers, edge, edge_numbers, ends_at, hi_of, lo_of, number_of, pair_before}
use Rattle.loc_laws_order.proofs.{Booleans.same-from_both, Kept.is_in-filter, Kept.numbers_rise}
use Rattle.loc_laws_rays.proofs.{Covering.any-found, Members.in_numbers}
use Rattle.loc_laws_noding.specs.Laws.{ends_of}
use Rattle.loc_laws_noding.proofs.{Orders.points_by_before, SortedSet.is-sorted_set}
use Rattle.loc_spec_groups.specs.Groups.{chosen_corners, chosen_edges, chosen_table}
use Rattle.loc_laws_dissolve.proofs.Chosen.{chosen_is_table, old_is, place_of, rising-map}
use Rattle.loc_edges.specs.{Ending.row_of, Parts.GoesUpBelow, Parts.edge_mark_before, Parts.table_of_parts}

-- one odd mark, and that of edge k
abbrev pub one_mark : Mark
one_mark = record { feature = 0; odd = true }

abbrev pub marked : ℕ → ℕ × Mark
marked k = (k, one_mark)

-- ---- a mark for each of some numbers
marks_none : (a n c : ℕ) → c < a → row_of (map marked (range_with_len a n)) c ≡ []
marks_none a zero c lt = refl
marks_none a (suc n) c lt = ap (map (λ (pair : ℕ × Mark). pair.1)) (cond-false (a == c) _ _ (ne_eqb a c (λ same. omega (arith, same, lt)))) ∙ marks_none (a + 1) n c (omega (arith, lt))

marks_one : (a n c : ℕ) → a ≤ c → c < a + n → row_of (map marked (range_with_len a n)) c ≡ one_mark ∷ []
marks_one a zero c le lt = absurd (omega (arith, le, lt))
marks_one a (suc n) c le lt = elim (cases_eq a c) [
  | inl same ↦ ap (map (λ (pair : ℕ × Mark). pair.1)) (cond-true (a == c) _ _ (eq-eqb a c same)) ∙ ap (λ (l : List Mark). one_mark ∷ l) (marks_none (a + 1) n c (omega (arith, same)))
  | inr other ↦ ap (map (λ (pair : ℕ × Mark). pair.1)) (cond-false (a == c) _ _ (ne_eqb a c other)) ∙ marks_one (a + 1) n c (omega (arith, le, other)) (omega (arith, lt))
]

pub marks_rise : (n : ℕ) → is_rising edge_mark_before (map marked (numbers n)) ≡ true
marks_rise n = rising-map nat_lt edge_mark_before marked (λ _. true) (λ x y _ _ less. or_left (nat_lt x y) _ less) (numbers n) (all_true (numbers n)) (numbers_rise n)
  where
    all_true : (ns : List ℕ) → list_all (λ _. true) ns ≡ true
    all_true [] = refl
    all_true (m ∷ ns) = all_true ns

-- ---- the parts of the table
module _ (t : Table) (ok : IsTable t) (keep : ℕ → Bool) where
  -- the edges that pass, by their points
  abbrev pub points_of_chosen : List Edge
  points_of_chosen = map (edge t) (chosen_edges t keep)

  abbrev pub ends_by : List Point → Edge → ℕ × ℕ
  ends_by corners e = (number_of corners e.lo, number_of corners e.hi)

  map_twice : (f : Edge → ℕ × ℕ) (es : List ℕ) → map f (map (edge t) es) ≡ map (λ e. f (edge t e)) es
  map_twice f [] = refl
  map_twice f (e ∷ es) = ap (λ l. f (edge t e) ∷ l) (map_twice f es)

  -- an end of the edges is one that stands in a list of them
  end_found : (p : Point → Bool) (es : List ℕ) (e : ℕ) → is_in e es ≡ true → p (edge t e).lo ≡ true → list_any p (ends_of (map (edge t) es)) ≡ true
  end_found p [] e here passes = absurd (true≢false (sym here))
  end_found p (d ∷ es) e here passes = elim (or_cases (d == e) (is_in e es) here) [
    | inl same ↦ or_left (p (edge t d).lo) _ (subst (λ k. p (edge t k).lo ≡ true) (sym (eqb-true d e same)) passes)
    | inr later ↦ or_right (p (edge t d).lo) _ (or_right (p (edge t d).hi) _ (end_found p es e later passes))
  ]

  high_found : (p : Point → Bool) (es : List ℕ) (e : ℕ) → is_in e es ≡ true → p (edge t e).hi ≡ true → list_any p (ends_of (map (edge t) es)) ≡ true
  high_found p [] e here passes = absurd (true≢false (sym here))
  high_found p (d ∷ es) e here passes = elim (or_cases (d == e) (is_in e es) here) [
    | inl same ↦ or_right (p (edge t d).lo) _ (or_left (p (edge t d).hi) _ (subst (λ k. p (edge t k).hi ≡ true) (sym (eqb-true d e same)) passes))
    | inr later ↦ or_right (p (edge t d).lo) _ (or_right (p (edge t d).hi) _ (high_found p es e later passes))
  ]

  -- and the other way
  end_of_one : (p : Point → Bool) (es : List ℕ) → list_any p (ends_of (map (edge t) es)) ≡ true → (e : ℕ) × (is_in e es ≡ true) × ((p (edge t e).lo || p (edge t e).hi) ≡ true)
  end_of_one p [] h = absurd (true≢false (sym h))
  end_of_one p (d ∷ es) h = elim (or_cases (p (edge t d).lo) _ h) [
    | inl low ↦ (d, or_left (d == d) (is_in d es) (eq-eqb d d refl), or_left (p (edge t d).lo) (p (edge t d).hi) low)
    | inr more ↦ elim (or_cases (p (edge t d).hi) _ more) [
      | inl high ↦ (d, or_left (d == d) (is_in d es) (eq-eqb d d refl), or_right (p (edge t d).lo) (p (edge t d).hi) high)
      | inr later ↦ (let rest = end_of_one p es later in (rest.0, or_right (d == rest.0) (is_in rest.0 es) rest.1, rest.2))
    ]
  ]

  corner_found : (p : Point → Bool) (cs : List ℕ) (c : ℕ) → is_in c cs ≡ true → p (corner t c) ≡ true → list_any p (map (corner t) cs) ≡ true
  corner_found p [] c here passes = absurd (true≢false (sym here))
  corner_found p (d ∷ cs) c here passes = elim (or_cases (d == c) (is_in c cs) here) [
    | inl same ↦ or_left (p (corner t d)) _ (subst (λ k. p (corner t k) ≡ true) (sym (eqb-true d c same)) passes)
    | inr later ↦ or_right (p (corner t d)) _ (corner_found p cs c later passes)
  ]

  one_corner : (p : Point → Bool) (cs : List ℕ) → list_any p (map (corner t) cs) ≡ true → (c : ℕ) × (is_in c cs ≡ true) × (p (corner t c) ≡ true)
  one_corner p [] h = absurd (true≢false (sym h))
  one_corner p (d ∷ cs) h = elim (or_cases (p (corner t d)) _ h) [
    | inl here ↦ (d, or_left (d == d) (is_in d cs) (eq-eqb d d refl), here)
    | inr later ↦ (let rest = one_corner p cs later in (rest.0, or_right (d == rest.0) (is_in rest.0 cs) rest.1, rest.2))
  ]

  abbrev is_chosen_end : ℕ → Bool
  is_chosen_end c = list_any (λ e. keep e && ends_at t c e) (edge_numbers t)

  -- the edges that pass
  chosen_is : (e : ℕ) → is_in e (chosen_edges t keep) ≡ true → (e < length t.ends) × (keep e ≡ true)
  chosen_is e here = let place = place_of (chosen_edges t keep) e 0 here in let old = old_is t ok keep place.0 place.1 in (subst (λ k. k < length t.ends) place.2 old.0, subst (λ k. keep k ≡ true) place.2 old.1)

  stays : (c e : ℕ) → c < length t.corners → e < length t.ends → keep e ≡ true → ends_at t c e ≡ true → is_in c (filter is_chosen_end (corner_numbers t)) ≡ true
  stays c e lc le passes at = is_in-filter is_chosen_end c (corner_numbers t) ∙ and_from (is_in c (corner_numbers t)) (is_chosen_end c) (in_numbers c (length t.corners) lc)
      (any-found (λ e. keep e && ends_at t c e) (edge_numbers t) e (in_numbers e (length t.ends) le) (and_from (keep e) (ends_at t c e) passes at))

  some_edge : (c : ℕ) (es : List ℕ) → list_any (λ e. keep e && ends_at t c e) es ≡ true → (e : ℕ) × (is_in e es ≡ true) × (keep e ≡ true) × (ends_at t c e ≡ true)
  some_edge c [] h = absurd (true≢false (sym h))
  some_edge c (d ∷ es) h = elim (or_cases (keep d && ends_at t c d) _ h) [
    | inl here ↦ (let parts = and_parts (keep d) (ends_at t c d) here in (d, or_left (d == d) (is_in d es) (eq-eqb d d refl), parts.0, parts.1))
    | inr later ↦ (let rest = some_edge c es later in (rest.0, or_right (d == rest.0) (is_in rest.0 es) rest.1, rest.2, rest.3))
  ]

  -- the corners that stay are the ends of the edges that pass
  same_ends : (p : Point → Bool) → list_any p (chosen_corners t keep) ≡ list_any p (ends_of points_of_chosen)
  same_ends p = same-from_both _ _ to from
    where
      to : list_any p (chosen_corners t keep) ≡ true → list_any p (ends_of points_of_chosen) ≡ true
      to h =
          let found = one_corner p (filter is_chosen_end (corner_numbers t)) h in
          let c = found.0 in
          let staying = and_parts (is_in c (corner_numbers t)) (is_chosen_end c) (sym (is_in-filter is_chosen_end c (corner_numbers t)) ∙ found.1) in
          let some = some_edge c (edge_numbers t) staying.1 in
          let chosen : is_in some.0 (chosen_edges t keep) ≡ true = is_in-filter keep some.0 (edge_numbers t) ∙ and_from (is_in some.0 (edge_numbers t)) (keep some.0) some.1 some.2 in
          elim (or_cases (lo_of t some.0 == c) (hi_of t some.0 == c) some.3) [
            | inl low ↦ end_found p (chosen_edges t keep) some.0 chosen (subst (λ k. p (corner t k) ≡ true) (sym (eqb-true (lo_of t some.0) c low)) found.2)
            | inr high ↦ high_found p (chosen_edges t keep) some.0 chosen (subst (λ k. p (corner t k) ≡ true) (sym (eqb-true (hi_of t some.0) c high)) found.2)
          ]

      from : list_any p (ends_of points_of_chosen) ≡ true → list_any p (chosen_corners t keep) ≡ true
      from h =
          let found = end_of_one p (chosen_edges t keep) h in
          let e = found.0 in
          let is = chosen_is found.0 found.1 in
          let up = ok.goes_up found.0 is.0 in
          elim (or_cases (p (edge t e).lo) (p (edge t e).hi) found.2) [
            | inl low ↦ corner_found p (filter is_chosen_end (corner_numbers t)) (lo_of t e) (stays (lo_of t e) e (omega (arith, up.0, up.1)) is.0 is.1 (or_left (lo_of t e == lo_of t e) _ (eq-eqb (lo_of t e) (lo_of t e) refl))) low
            | inr high ↦ corner_found p (filter is_chosen_end (corner_numbers t)) (hi_of t e) (stays (hi_of t e) e up.1 is.0 is.1 (or_right (lo_of t e == hi_of t e) _ (eq-eqb (hi_of t e) (hi_of t e) refl))) high
          ]

  corners_up : is_rising before (chosen_corners t keep) ≡ true
  unfolding chosen_table
  corners_up = (chosen_is_table t ok keep).corners_rise

  -- the parts of the table were made
  pub record IsMade (edges : List Edge) (corners : List Point) (ends : List (ℕ × ℕ)) (marks : List (ℕ × Mark)) : Type 0 where
    pub edges_are : edges ≡ points_of_chosen
    pub corners_are : corners ≡ sorted_set before (ends_of edges)
    pub ends_are : ends ≡ map (ends_by corners) edges
    pub marks_are : marks ≡ map marked (numbers (length edges))

  -- the edges that pass are edges of the table
  pub all_in_range : All (λ e. e < length t.ends) (chosen_edges t keep)
  all_in_range k d lt = let at = get_or_default (chosen_edges t keep) k d 0 lt in omega (arith, at, (old_is t ok keep k lt).0)

  pub corners_is : (edges : List Edge) (corners : List Point) → edges ≡ points_of_chosen → corners ≡ sorted_set before (ends_of edges) → corners ≡ chosen_corners t keep
  corners_is edges corners are is = is ∙ (ap (λ (es : List Edge). sorted_set before (ends_of es)) are ∙ sym (is-sorted_set points_by_before (ends_of points_of_chosen) (chosen_corners t keep) corners_up same_ends))

  pub few_corners : (edges : List Edge) (corners : List Point) → edges ≡ points_of_chosen → corners ≡ sorted_set before (ends_of edges) → length corners ≤ length t.corners
  few_corners edges corners are is = omega (arith, ap length (corners_is edges corners are is), length-map (filter is_chosen_end (corner_numbers t)) (corner t), length-filter is_chosen_end (corner_numbers t), count_by-le-length is_chosen_end (corner_numbers t), length-range_with_len 0 (length t.corners))

  pub few_edges : (edges : List Edge) → edges ≡ points_of_chosen → (length edges ≡ length (chosen_edges t keep)) × (length edges ≤ length t.ends)
  few_edges edges are = let same : length edges ≡ length (chosen_edges t keep) = ap length are ∙ length-map (chosen_edges t keep) (edge t) in (same, omega (arith, same, length-filter keep (edge_numbers t), count_by-le-length keep (edge_numbers t), length-range_with_len 0 (length t.ends)))

  pub corners_rise : (edges : List Edge) (corners : List Point) → edges ≡ points_of_chosen → corners ≡ sorted_set before (ends_of edges) → is_rising before corners ≡ true
  corners_rise edges corners are is = subst (λ (cs : List Point). is_rising before cs ≡ true) (sym (corners_is edges corners are is)) corners_up

  module _ (edges : List Edge) (corners : List Point) (ends : List (ℕ × ℕ)) (marks : List (ℕ × Mark)) (made : IsMade edges corners ends marks) where
    ends_is : ends ≡ map (λ e. ends_by (chosen_corners t keep) (edge t e)) (chosen_edges t keep)
    ends_is = made.ends_are ∙ (ap₂ (λ (cs : List Point) (es : List Edge). map (ends_by cs) es) (corners_is edges corners made.edges_are made.corners_are) made.edges_are ∙ map_twice (ends_by (chosen_corners t keep)) (chosen_edges t keep))

    pub many_ends : length ends ≡ length edges
    many_ends = ap length made.ends_are ∙ length-map edges (ends_by corners)

    pub ends_rise : is_rising pair_before ends ≡ true
    unfolding chosen_table
    ends_rise = subst (λ (es : List (ℕ × ℕ)). is_rising pair_before es ≡ true) (sym ends_is) (chosen_is_table t ok keep).edges_rise

    pub ends_go_up : All (GoesUpBelow (length corners)) ends
    unfolding chosen_table
    ends_go_up k d lt =
        let up = (chosen_is_table t ok keep).goes_up k (subst (λ (es : List (ℕ × ℕ)). k < length es) ends_is lt) in
        let at : get_or ends k d ≡ get_or (map (λ e. ends_by (chosen_corners t keep) (edge t e)) (chosen_edges t keep)) k (0, 0) = get_or_default ends k d (0, 0) lt ∙ ap (λ (es : List (ℕ × ℕ)). get_or es k (0, 0)) ends_is in
        let same = ap length (corners_is edges corners made.edges_are made.corners_are) in
        subst (λ (pair : ℕ × ℕ). (pair.0 < pair.1) × (pair.1 < length corners)) (sym at) (up.0, omega (arith, up.1, same))

    pub marks_up : is_rising edge_mark_before marks ≡ true
    marks_up = subst (λ (ms : List (ℕ × Mark)). is_rising edge_mark_before ms ≡ true) (sym made.marks_are) (marks_rise (length edges))

    pub marks_on : All (λ (mark : ℕ × Mark). mark.0 < length ends) marks
    marks_on k d lt =
        let short : k < length edges = omega (arith, lt, ap length made.marks_are, length-map-range_with_len marked 0 (length edges)) in
        let at : (get_or marks k d).0 ≡ k = ap (λ (ms : List (ℕ × Mark)). (get_or ms k d).0) made.marks_are ∙ ap (λ (m : ℕ × Mark). m.0) (get_or-map-range_with_len marked 0 (length edges) k k d short (omega arith)) in
        omega (arith, at, short, many_ends)

    marks_is : map (row_of marks) (numbers (length ends)) ≡ map (λ e. one_mark ∷ []) (chosen_edges t keep)
    marks_is = same_lists _ _ (omega (arith, length-map-range_with_len (row_of marks) 0 (length ends), length-map (chosen_edges t keep) (λ e. one_mark ∷ []), many_ends, (few_edges edges made.edges_are).0))
        (λ k d lt. (let short : k < length edges = omega (arith, lt, length-map-range_with_len (row_of marks) 0 (length ends), many_ends) in
        get_or-map-range_with_len (row_of marks) 0 (length ends) k k d (omega (arith, short, many_ends)) (omega arith)
        ∙ (ap (λ (ms : List (ℕ × Mark)). row_of ms k) made.marks_are ∙ (marks_one 0 (length edges) k (omega arith) (omega (arith, short))
        ∙ sym (get_or-map (λ e. one_mark ∷ []) (chosen_edges t keep) k 0 d (omega (arith, short, (few_edges edges made.edges_are).0)))))))

    pub table_is : (sources : List (ℕ × ℕ)) → sources ≡ ends → table_of_parts corners ends marks sources ≡ chosen_table t keep
    unfolding chosen_table
    table_is sources own =
        ap₂ (λ (cs : List Point) (ss : List (ℕ × ℕ)). record { corners = cs; ends = ends; marks = map (row_of marks) (numbers (length ends)); sources = ss }) (corners_is edges corners made.edges_are made.corners_are) own
        ∙ ap₂ (λ (es : List (ℕ × ℕ)) (ms : List (List Mark)). record { corners = chosen_corners t keep; ends = es; marks = ms; sources = es }) ends_is marks_is
