-- The order of points behind numbers along a way, and where in it the points on an edge stand.
use Rattle.std.proofs.Common.{◌≡◌, ℕ, zero, suc, ◌+◌, ◌<◌, ◌-◌, ◌≤◌, true, false, ◌&&◌, List, [], ◌∷◌, filter, get_or, length, map, take, refl, sym, ◌∙◌, ap, subst, inl, inr, arith, ℤ, pos, ◌<ℤ◌, Ordering, Less, Equal, Greater, int_cmp}
use Rattle.std.specs.{Prelude.All, Prelude.int_lt, Cmp.int_ranks, List.Sorted.IsSorted, List.Sorted.IsSortedBy}
use Rattle.std.specs.Ordering.{MatchOrdering, int_eq, is_lt, ordering_then}
use Rattle.std.proofs.lemmas.Bool.{and_from, and_parts, both_ways, cases_Bool, false_from_ne_true, not-true, not_from_false, or_cases, or_left, or_right, true≢false}
use Rattle.std.proofs.{lemmas.Bool.Decides.Decides-int_eq, lemmas.Int.ints}
use Rattle.std.proofs.{lemmas.List.get_or-map, lemmas.List.length-map, lemmas.List.Elements.All-cons}
use Rattle.loc_algebra.proofs.Signs.{trichotomy}
use Rattle.loc_spec_plane.specs.Points.{Point, Edge, before, up_to, is_on, lies_on}
use Rattle.loc_laws_order.proofs.{Ranks.point_rank, TableOrder.origin_point, Tests.up_to_trans}
use Rattle.loc_laws_order.proofs.Sides.{before-asym_test, before_irrefl, before_trans, lt_decides}
use Rattle.loc_laws_noding.specs.Search.{is_parallel, number_along}
use Rattle.loc_laws_noding.proofs.{Orders.point_cmp, Orders.points_by_before, Search.way_law}
use Rattle.loc_laws_noding.proofs.SortedSet.{same_from_neither}
use Rattle.loc_node.specs.Ways.{IsWayOrder, WayOrder, points_along, way_before}
use Rattle.loc_node.proofs.Skipping.{fail_all}

-- ---- the order
-- what is no later than something that comes before t comes before t
pub weaker_before : (a b t : ℤ × Point) → way_before b a ≡ false → way_before b t ≡ true → way_before a t ≡ true
weaker_before a b t no_less h = elim (trichotomy a.0 b.0) [
  | inl lt ↦ or_left (int_lt a.0 t.0) _ ((lt_decides a.0 t.0).1 (elim (or_cases (int_lt b.0 t.0) (int_eq b.0 t.0 && before b.1 t.1) h) [
    | inl first ↦ omega (arith, ints, lt, (lt_decides b.0 t.0).0 first)
    | inr tied ↦ omega (arith, ints, lt, (Decides-int_eq b.0 t.0).0 (and_parts (int_eq b.0 t.0) (before b.1 t.1) tied).0)
  ]))
  | inr v ↦ elim v [
    | inl same ↦ elim (or_cases (int_lt b.0 t.0) (int_eq b.0 t.0 && before b.1 t.1) h) [
      | inl first ↦ or_left (int_lt a.0 t.0) _ ((lt_decides a.0 t.0).1 (omega (arith, ints, same, (lt_decides b.0 t.0).0 first)))
      | inr tied ↦ (let parts = and_parts (int_eq b.0 t.0) (before b.1 t.1) tied in
          or_right (int_lt a.0 t.0) _ (and_from (int_eq a.0 t.0) (before a.1 t.1) ((Decides-int_eq a.0 t.0).1 (same ∙ (Decides-int_eq b.0 t.0).0 parts.0)) (point_step same parts.1)))
    ]
    | inr gt ↦ absurd (both_ways (way_before b a) no_less (or_left (int_lt b.0 a.0) _ ((lt_decides b.0 a.0).1 gt)))
  ]
]
  where
    point_step : a.0 ≡ b.0 → before b.1 t.1 ≡ true → before a.1 t.1 ≡ true
    point_step same k =
        let not_before = false_from_ne_true (before b.1 a.1) (λ less. both_ways (way_before b a) no_less (or_right (int_lt b.0 a.0) _ (and_from (int_eq b.0 a.0) (before b.1 a.1) ((Decides-int_eq b.0 a.0).1 (sym same)) less))) in
        elim (cases_Bool (before a.1 b.1)) [
          | inl less ↦ before_trans a.1 b.1 t.1 less k
          | inr not_less ↦ subst (λ p. before p t.1 ≡ true) (sym (same_from_neither points_by_before a.1 b.1 not_less not_before)) k
        ]

-- nothing comes before itself
way_irrefl : (a : ℤ × Point) → way_before a a ≡ false
way_irrefl a = false_from_ne_true (way_before a a) (λ h. elim (or_cases (int_lt a.0 a.0) (int_eq a.0 a.0 && before a.1 a.1) h) [
  | inl less ↦ (let lt = (lt_decides a.0 a.0).0 less in omega (arith, ints, lt))
  | inr tied ↦ both_ways (before a.1 a.1) (before_irrefl a.1) (and_parts (int_eq a.0 a.0) (before a.1 a.1) tied).1
])

-- of points in order none comes before an earlier one
pub far : (order : List (ℤ × Point)) → IsSortedBy way_before order → (i m : ℕ) (d : ℤ × Point) → i + m < length order → way_before (get_or order (i + m) d) (get_or order i d) ≡ false
far order sorted i zero d fits = (let e : i + 0 ≡ i = omega arith in ap (λ k. way_before (get_or order k d) (get_or order i d)) e ∙ way_irrefl (get_or order i d))
far order sorted i (suc m) d fits =
    let e : i + suc m ≡ (i + m) + 1 = omega arith in
    ap (λ k. way_before (get_or order k d) (get_or order i d)) e
    ∙ false_from_ne_true _ (λ h. both_ways _ (far order sorted i m d (omega arith)) (weaker_before (get_or order (i + m) d) (get_or order ((i + m) + 1) d) (get_or order i d) (sorted (i + m) d (omega arith) (omega arith)) h))

-- so what stands in front of something that comes before a place comes before it
pub earlier_before : (order : List (ℤ × Point)) → IsSortedBy way_before order → (place : ℤ × Point) (k m : ℕ) (d : ℤ × Point) → k ≤ m → m < length order → way_before (get_or order m d) place ≡ true → way_before (get_or order k d) place ≡ true
earlier_before order sorted place k m d le fits h =
    let e : k + (m - k) ≡ m = omega (arith, le) in
    weaker_before (get_or order k d) (get_or order m d) place (ap (λ j. way_before (get_or order j d) (get_or order k d)) (sym e) ∙ far order sorted k (m - k) d (omega (arith, e, fits))) h

-- the derived order, by which points behind numbers are sorted
abbrev pub way_cmp : ℤ × Point → ℤ × Point → Ordering
way_cmp a b = ordering_then (int_cmp a.0 b.0) (point_cmp a.1 b.1)

not_before_by : (a b : ℤ × Point) (r s : Ordering) → MatchOrdering r (a.0 <ℤ b.0) (a.0 ≡ b.0) (b.0 <ℤ a.0) → MatchOrdering s (before a.1 b.1 ≡ true) (a.1 ≡ b.1) (before b.1 a.1 ≡ true) → is_lt (ordering_then r s) ≡ false → way_before a b ≡ false
not_before_by a b Less s h k none = absurd (true≢false none)
not_before_by a b Greater s h k none = false_from_ne_true (way_before a b) (λ w. elim (or_cases (int_lt a.0 b.0) (int_eq a.0 b.0 && before a.1 b.1) w) [
  | inl less ↦ (let lt = (lt_decides a.0 b.0).0 less in omega (arith, ints, lt, h))
  | inr tied ↦ (let same = (Decides-int_eq a.0 b.0).0 (and_parts (int_eq a.0 b.0) (before a.1 b.1) tied).0 in omega (arith, ints, same, h))
])
not_before_by a b Equal Less h k none = absurd (true≢false none)
not_before_by a b Equal Equal h k none = false_from_ne_true (way_before a b) (λ w. elim (or_cases (int_lt a.0 b.0) (int_eq a.0 b.0 && before a.1 b.1) w) [
  | inl less ↦ (let lt = (lt_decides a.0 b.0).0 less in omega (arith, ints, lt, h))
  | inr tied ↦ both_ways (before b.1 b.1) (before_irrefl b.1) (subst (λ p. before p b.1 ≡ true) k (and_parts (int_eq a.0 b.0) (before a.1 b.1) tied).1)
])
not_before_by a b Equal Greater h k none = false_from_ne_true (way_before a b) (λ w. elim (or_cases (int_lt a.0 b.0) (int_eq a.0 b.0 && before a.1 b.1) w) [
  | inl less ↦ (let lt = (lt_decides a.0 b.0).0 less in omega (arith, ints, lt, h))
  | inr tied ↦ both_ways (before b.1 a.1) (before-asym_test a.1 b.1 (and_parts (int_eq a.0 b.0) (before a.1 b.1) tied).1) k
])

-- so sorted they stand in order
pub way_sorted : (order : List (ℤ × Point)) → IsSorted way_cmp order → IsSortedBy way_before order
way_sorted order sorted k d low lt = not_before_by (get_or order (k + 1) d) (get_or order k d) _ _ (int_ranks (get_or order (k + 1) d).0 (get_or order k d).0) (point_rank (get_or order (k + 1) d).1 (get_or order k d).1) (sorted k d low lt)

-- ---- the points on an edge
module _ (r s : Edge) (up_r : before r.lo r.hi ≡ true) (up_s : before s.lo s.hi ≡ true) (parallel : is_parallel r s ≡ true) where
  -- a point on the edge has the number of its lower end
  number_is : (p : Point) → is_on s p ≡ true → number_along r p ≡ number_along r s.lo
  number_is p on = (Decides-int_eq (number_along r p) (number_along r s.lo)).0 (sym (way_law r s up_r up_s parallel p) ∙ on)

  -- what comes before the lower end does not lie on the edge
  pub early : (x : ℤ × Point) → x.0 ≡ number_along r x.1 → way_before x (number_along r s.lo, s.lo) ≡ true → lies_on s x.1 ≡ false
  early x is h = false_from_ne_true (lies_on s x.1) (λ lies.
      (let parts = and_parts (is_on s x.1 && up_to s.lo x.1) (up_to x.1 s.hi) lies in
      let on = and_parts (is_on s x.1) (up_to s.lo x.1) parts.0 in
      let same = is ∙ number_is x.1 on.0 in
      elim (or_cases (int_lt x.0 (number_along r s.lo)) (int_eq x.0 (number_along r s.lo) && before x.1 s.lo) h) [
        | inl less ↦ (let lt = (lt_decides x.0 (number_along r s.lo)).0 less in omega (arith, ints, lt, same))
        | inr tied ↦ both_ways (before x.1 s.lo) (not-true (before x.1 s.lo) on.1) (and_parts (int_eq x.0 (number_along r s.lo)) (before x.1 s.lo) tied).1
      ]))

  -- behind one that does not lie on it and does not come before its lower end none does
  pub late : (x y : ℤ × Point) → x.0 ≡ number_along r x.1 → y.0 ≡ number_along r y.1 → way_before x (number_along r s.lo, s.lo) ≡ false → way_before y x ≡ false → lies_on s x.1 ≡ false → lies_on s y.1 ≡ false
  late x y x_is y_is not_early in_order off = false_from_ne_true (lies_on s y.1) (λ lies.
      (let parts = and_parts (is_on s y.1 && up_to s.lo y.1) (up_to y.1 s.hi) lies in
      let on = and_parts (is_on s y.1) (up_to s.lo y.1) parts.0 in
      let n = number_along r s.lo in
      let y_number = y_is ∙ number_is y.1 on.0 in
      let same : x.0 ≡ number_along r s.lo = elim (trichotomy x.0 n) [
        | inl less ↦ absurd (both_ways _ not_early (or_left (int_lt x.0 n) _ ((lt_decides x.0 n).1 less)))
        | inr v ↦ elim v [
          | inl equal ↦ equal
          | inr more ↦ absurd (both_ways _ in_order (or_left (int_lt y.0 x.0) _ ((lt_decides y.0 x.0).1 (omega (arith, ints, more, y_number)))))
        ]
      ] in
      let level = way_law r s up_r up_s parallel x.1 ∙ (Decides-int_eq (number_along r x.1) n).1 (sym x_is ∙ same) in
      let from = not_from_false (before x.1 s.lo) (false_from_ne_true (before x.1 s.lo) (λ less. both_ways _ not_early (or_right (int_lt x.0 n) _ (and_from (int_eq x.0 n) (before x.1 s.lo) ((Decides-int_eq x.0 n).1 same) less)))) in
      let to = not_from_false (before y.1 x.1) (false_from_ne_true (before y.1 x.1) (λ less. both_ways _ in_order (or_right (int_lt y.0 x.0) _ (and_from (int_eq y.0 x.0) (before y.1 x.1) ((Decides-int_eq y.0 x.0).1 (y_number ∙ sym same)) less)))) in
      both_ways (lies_on s x.1) off (and_from (is_on s x.1 && up_to s.lo x.1) (up_to x.1 s.hi) (and_from (is_on s x.1) (up_to s.lo x.1) level from) (up_to_trans x.1 y.1 s.hi to parts.1))))

-- ---- points behind their numbers
pub numbered_all : (e : Edge) (ps : List Point) → All (λ (k : ℤ × Point). k.0 ≡ number_along e k.1) (map (λ (p : Point). (number_along e p, p)) ps)
numbered_all e [] = λ k d lt. absurd (omega arith)
numbered_all e (p ∷ ps) = All-cons (λ (k : ℤ × Point). k.0 ≡ number_along e k.1) (number_along e p, p) (map (λ (q : Point). (number_along e q, q)) ps) refl (numbered_all e ps)

pub numbered_points : (e : Edge) (ps : List Point) → points_along (map (λ (p : Point). (number_along e p, p)) ps) ≡ ps
numbered_points e [] = refl
numbered_points e (p ∷ ps) = ap (λ qs. p ∷ qs) (numbered_points e ps)

-- ---- in a list along a way
module _ (way : WayOrder) (h : IsWayOrder way) (order : List (ℤ × Point)) (same : order ≡ way.order) (s : Edge) (up_s : before s.lo s.hi ≡ true) (parallel : is_parallel way.edge s ≡ true) where
  numbers : (k : ℕ) (d : ℤ × Point) → k < length order → (get_or order k d).0 ≡ number_along way.edge (get_or order k d).1
  numbers = subst (All (λ (x : ℤ × Point). x.0 ≡ number_along way.edge x.1)) (sym same) h.numbers

  in_order : IsSortedBy way_before order
  in_order = subst (IsSortedBy way_before) (sym same) h.sorted

  -- none of those that come before the lower end lies on the edge
  pub none_early : (start : ℕ) → start ≤ length order → ((k : ℕ) (d : ℤ × Point) → k < start → way_before (get_or order k d) (number_along way.edge s.lo, s.lo) ≡ true) → filter (lies_on s) (take start (points_along order)) ≡ []
  none_early start within passed =
      let d : ℤ × Point = (pos 0, origin_point) in
      let e : 0 + start ≡ start = omega arith in
      let many = length-map order (λ (x : ℤ × Point). x.1) in
      ap (λ n. filter (lies_on s) (take n (points_along order))) (sym e)
      ∙ fail_all (lies_on s) (points_along order) origin_point 0 start (omega (arith, within, many)) (λ k from to.
      (let fits : k < length order = omega (arith, within, to) in
      ap (lies_on s) (get_or-map (λ (x : ℤ × Point). x.1) order k d origin_point fits) ∙ early way.edge s h.goes_up up_s parallel (get_or order k d) (numbers k d fits) (passed k d (omega (arith, to)))))

  -- behind one that does not lie on it none does
  pub none_late : (start : ℕ) → ((k : ℕ) (d : ℤ × Point) → start ≤ k → k < length order → way_before (get_or order k d) (number_along way.edge s.lo, s.lo) ≡ false) → (i j : ℕ) (d : ℤ × Point) → start ≤ i → i ≤ j → j < length order → lies_on s (get_or order i d).1 ≡ false → lies_on s (get_or order j d).1 ≡ false
  none_late start from i j d low le fits off =
      let e : i + (j - i) ≡ j = omega (arith, le) in
      let ordered = ap (λ k. way_before (get_or order k d) (get_or order i d)) (sym e) ∙ far order in_order i (j - i) d (omega (arith, e, fits)) in
      late way.edge s h.goes_up up_s parallel (get_or order i d) (get_or order j d) (numbers i d (omega (arith, le, fits))) (numbers j d fits) (from i d low (omega (arith, le, fits))) ordered off
