-- What a group covers on the two sides of an edge, by counts of its members among the list above the edge and among the odd marks.
use Rattle.std.proofs.Common.{◌≡◌, ℕ, zero, suc, ◌+◌, ◌<◌, ◌≤◌, Bool, true, false, ◌&&◌, ◌||◌, List, [], ◌∷◌, length, get_or, map, filter, refl, sym, ◌∙◌, ap, ap₂, subst, inl, inr, arith}
use Rattle.std.specs.Prelude.{◌==◌, All, Some, count_by, nat_lt, slice_get}
use Rattle.std.specs.List.{list_any}
use Rattle.std.proofs.lemmas.Bool.{cases_Bool, cases_lt, cond-true, cond-false, lt-ltb, le-ltb, ltb-true, and_from, and_parts, eqb-true, or_cases, true≢false}
use Rattle.std.proofs.lemmas.Option.{get_or_from_slice_get}
use Rattle.loc_spec_plane.specs.{declared.Mark.Mark, Lists.exactly_one, Lists.is_in, Lists.numbers}
use Rattle.loc_spec_plane.specs.Tables.{Table, IsTable, has_odd, mark_before}
use Rattle.loc_spec_plane.specs.Covers.{cover_above, feature_count, is_over}
use Rattle.loc_spec_plane.proofs.Checks.{is_in-past}
use Rattle.loc_laws_order.proofs.{Booleans.same-from_both, Kept.is_in-filter, Kept.numbers_rise, Kept.rising_kept}
use Rattle.loc_laws_order.proofs.{TableOrder.numbers_within, Unique.rising-unique}
use Rattle.loc_laws_rays.proofs.Members.{feature_below, in_numbers as in_numbers-below}
use Rattle.loc_spec_groups.specs.Groups.{covers_lower, covers_upper, is_kept}
use Rattle.loc_laws_dissolve.proofs.Chosen.{member_at}
use Rattle.loc_faces.proofs.Lines.{filter_within}
use Rattle.loc_cover.specs.Legends.{IsTrueLegend, LegendRows}
use Rattle.loc_cover.proofs.Gathered.{are_features}
use Rattle.loc_dissolve.specs.Grouping.{AreMembers, IsGroupRow, in_group}
use Rattle.loc_dissolve.specs.Keeping.{IsCrossing, changes, keeps, odd_features}
use Rattle.loc_dissolve.specs.declared.crossing.Crossing.{Crossing}
use Rattle.loc_dissolve.proofs.Counted.{across, any-count, count-filter, count_same, count_within}

-- the features of the odd marks
odd_members : (n : ℕ) (ms : List Mark) → is_in n (odd_features ms) ≡ list_any (λ (m : Mark). (m.feature == n) && m.odd) ms
odd_members n [] = refl
odd_members n (m ∷ ms) = elim (cases_Bool m.odd) [
  | inl odd ↦ ap (λ (l : List Mark). is_in n (map (λ (k : Mark). k.feature) l)) (cond-true m.odd (m ∷ filter (λ (k : Mark). k.odd) ms) (filter (λ (k : Mark). k.odd) ms) odd) ∙ (ap (λ b. (m.feature == n) || b) (odd_members n ms) ∙ by_odd (m.feature == n) m.odd (list_any (λ (k : Mark). (k.feature == n) && k.odd) ms) odd)
  | inr even ↦ ap (λ (l : List Mark). is_in n (map (λ (k : Mark). k.feature) l)) (cond-false m.odd (m ∷ filter (λ (k : Mark). k.odd) ms) (filter (λ (k : Mark). k.odd) ms) even) ∙ (odd_members n ms ∙ by_even (m.feature == n) m.odd (list_any (λ (k : Mark). (k.feature == n) && k.odd) ms) even)
]
  where
    by_odd : (a o r : Bool) → o ≡ true → (a || r) ≡ ((a && o) || r)
    by_odd true o r is = ap (λ b. b || r) (sym is)
    by_odd false o r is = refl

    by_even : (a o r : Bool) → o ≡ false → r ≡ ((a && o) || r)
    by_even true o r is = ap (λ b. b || r) (sym is)
    by_even false o r is = refl

-- a feature with an odd mark has a mark
odd_has : (n : ℕ) (ms : List Mark) → list_any (λ (m : Mark). (m.feature == n) && m.odd) ms ≡ true → list_any (λ (m : Mark). m.feature == n) ms ≡ true
odd_has n [] h = h
odd_has n (m ∷ ms) h = by (m.feature == n) m.odd h (odd_has n ms)
  where
    by : (a o : Bool) → ((a && o) || list_any (λ (k : Mark). (k.feature == n) && k.odd) ms) ≡ true → (list_any (λ (k : Mark). (k.feature == n) && k.odd) ms ≡ true → list_any (λ (k : Mark). k.feature == n) ms ≡ true) → (a || list_any (λ (k : Mark). k.feature == n) ms) ≡ true
    by true o h rest = refl
    by false o h rest = rest h

-- the place of a member that passes
some_at : (p : ℕ → Bool) (fs : List ℕ) → list_any p fs ≡ true → (i : ℕ) × (i < length fs) × (p (get_or fs i 0) ≡ true)
some_at p [] h = absurd (true≢false (sym h))
some_at p (f ∷ fs) h = elim (or_cases (p f) (list_any p fs) h) [
  | inl here ↦ (0, omega arith, here)
  | inr later ↦ (let rest = some_at p fs later in (suc rest.0, omega (arith, rest.1), rest.2))
]

no_less : (a b : ℕ) → nat_lt a b ≡ true → nat_lt b a ≡ true → ⊥
no_less a b h k = let lt : a < b = ltb-true a b h in let gt : b < a = ltb-true b a k in omega arith

module _ (t : Table) (ok : IsTable t) (e : ℕ) where
  abbrev count : ℕ
  count = feature_count t

  in_numbers : (n : ℕ) → is_in n (numbers count) ≡ nat_lt n count
  in_numbers n = elim (cases_lt n count) [
    | inl lt ↦ in_numbers-below n count lt ∙ sym (lt-ltb n count lt)
    | inr ge ↦ is_in-past (numbers count) count n (numbers_within count) ge ∙ sym (le-ltb n count ge)
  ]

  pub odd_below : (n : ℕ) → has_odd t n e ≡ true → n < count
  odd_below n h = feature_below t n e (odd_has n (get_or t.marks e []) h)

  -- they are the features with an odd mark, in order
  pub odd_are : odd_features (get_or t.marks e []) ≡ filter (λ f. has_odd t f e) (numbers count)
  odd_are = rising-unique nat_lt no_less _ _ (are_features (filter (λ (m : Mark). m.odd) (get_or t.marks e [])) (rising_kept (λ (m : Mark). m.odd) mark_before (get_or t.marks e []) (ok.marks_rise e))).rising (rising_kept (λ f. has_odd t f e) nat_lt (numbers count) (numbers_rise count))
      (λ n. odd_members n (get_or t.marks e []) ∙ sym (is_in-filter (λ f. has_odd t f e) n (numbers count) ∙ (ap (λ b. b && has_odd t n e) (in_numbers n)
      ∙ same-from_both (nat_lt n count && has_odd t n e) (has_odd t n e) (λ h. (and_parts (nat_lt n count) (has_odd t n e) h).1) (λ h. and_from (nat_lt n count) (has_odd t n e) (lt-ltb n count (odd_below n h)) h))))

  module _ (groups : List ℕ) (named : count ≤ length groups) (g : ℕ) where
    abbrev has_group : ℕ → Bool
    has_group f = get_or groups f 0 == g

    group_is : (f : ℕ) → f < count → in_group groups g f ≡ has_group f
    group_is f lt = ap (λ b. b && has_group f) (lt-ltb f (length groups) (omega (arith, lt, named)))

    abbrev above : ℕ
    above = count_by has_group (cover_above t e)

    abbrev odd : ℕ
    odd = count_by has_group (odd_features (get_or t.marks e []))

    abbrev inside : ℕ
    inside = count_by has_group (filter (λ f. is_in f (cover_above t e)) (odd_features (get_or t.marks e [])))

    above_is : above ≡ count_by (λ f. is_over t e f && has_group f) (numbers count)
    above_is = count-filter has_group (is_over t e) (numbers count)

    odd_is : odd ≡ count_by (λ f. has_odd t f e && has_group f) (numbers count)
    odd_is = ap (count_by has_group) odd_are ∙ count-filter has_group (λ f. has_odd t f e) (numbers count)

    listed_is : (f : ℕ) → f < count → is_in f (cover_above t e) ≡ is_over t e f
    listed_is f lt = is_in-filter (is_over t e) f (numbers count) ∙ ap (λ b. b && is_over t e f) (in_numbers f ∙ lt-ltb f count lt)

    inside_is : inside ≡ count_by (λ f. has_odd t f e && (is_over t e f && has_group f)) (numbers count)
    inside_is = ap (λ (l : List ℕ). count_by has_group (filter (λ f. is_in f (cover_above t e)) l)) odd_are
        ∙ (count-filter has_group (λ f. is_in f (cover_above t e)) (filter (λ f. has_odd t f e) (numbers count))
        ∙ (count-filter (λ f. is_in f (cover_above t e) && has_group f) (λ f. has_odd t f e) (numbers count)
        ∙ count_same _ _ count (λ f lt. ap (λ b. has_odd t f e && (b && has_group f)) (listed_is f lt))))

    -- the group covers the upper side where a member is in the list above
    pub upper_is : covers_upper t (in_group groups g) e ≡ nat_lt 0 above
    upper_is = any-count (in_group groups g) (cover_above t e)
        ∙ ap (nat_lt 0) (count-filter (in_group groups g) (is_over t e) (numbers count) ∙ (count_same _ _ count (λ f lt. ap (λ b. is_over t e f && b) (group_is f lt)) ∙ sym above_is))

    abbrev below : ℕ
    below = count_by (λ f. has_group f && exactly_one (is_over t e f) (has_odd t f e)) (numbers count)

    lower_is : covers_lower t (in_group groups g) e ≡ nat_lt 0 below
    lower_is = any-count (λ f. in_group groups g f && exactly_one (is_in f (cover_above t e)) (has_odd t f e)) (numbers count)
        ∙ ap (nat_lt 0) (count_same _ _ count (λ f lt. ap₂ (λ a b. a && exactly_one b (has_odd t f e)) (group_is f lt) (listed_is f lt)))

    below_is : nat_lt 0 below ≡ nat_lt (inside + inside) (above + odd)
    below_is =
        let sum = across (is_over t e) (λ f. has_odd t f e) has_group (numbers count) in
        same-from_both (nat_lt 0 below) (nat_lt (inside + inside) (above + odd))
        (λ h. lt-ltb _ _ (let lt : 0 < below = ltb-true 0 below h in omega (arith, sum, above_is, odd_is, inside_is, lt)))
        (λ h. lt-ltb _ _ (let lt : inside + inside < above + odd = ltb-true (inside + inside) (above + odd) h in omega (arith, sum, above_is, odd_is, inside_is, lt)))

    -- so it is kept where the counts say so
    pub kept_is : is_kept t (in_group groups g) e ≡ changes above odd inside
    kept_is = ap₂ exactly_one upper_is (lower_is ∙ below_is)

    -- a group without an odd mark covers both sides or none
    pub kept_odd : odd ≡ 0 → changes above odd inside ≡ false
    kept_odd none =
        let few : inside ≡ 0 = omega (arith, count_within has_group (λ f. is_in f (cover_above t e)) (odd_features (get_or t.marks e [])), none) in
        ap₂ (λ m n. exactly_one (nat_lt 0 above) (nat_lt (n + n) (above + m))) none few ∙ both_same above
      where
        never : (b : Bool) → exactly_one b b ≡ false
        never true = refl
        never false = refl

        both_same : (n : ℕ) → exactly_one (nat_lt 0 n) (nat_lt 0 (n + 0)) ≡ false
        both_same n = ap (λ m. exactly_one (nat_lt 0 n) (nat_lt 0 m)) (let is : n + 0 ≡ n = omega arith in is) ∙ never (nat_lt 0 n)

  -- a group keeps the edge where the rows of the edge say so
  pub keeps_is : (groups : List ℕ) → feature_count t ≤ length groups → (g : ℕ) (above : List ℕ) (crossing : Crossing) → IsGroupRow groups (cover_above t e) above → IsCrossing groups (cover_above t e) (get_or t.marks e []) crossing
      → keeps crossing above g ≡ is_kept t (in_group groups g) e
  keeps_is groups named g row crossing over is =
      ap₂ (λ a b. a && b) (is.distinct.exact g ∙ (any-count (λ h. h == g) crossing.odd_groups.items ∙ ap (nat_lt 0) (is.odd.counted g)))
      (ap₂ (λ m n. changes m n (count_by (λ h. h == g) crossing.inside_groups.items)) (over.counted g) (is.odd.counted g) ∙ ap (changes (above groups named g) (odd groups named g)) (is.inside.counted g))
      ∙ by_odd (odd groups named g) refl
    where
      by_odd : (n : ℕ) → n ≡ odd groups named g → (nat_lt 0 (odd groups named g) && changes (above groups named g) (odd groups named g) (inside groups named g)) ≡ is_kept t (in_group groups g) e
      by_odd zero none = ap (λ m. nat_lt 0 m && changes (above groups named g) (odd groups named g) (inside groups named g)) (sym none) ∙ sym (kept_is groups named g ∙ kept_odd groups named g (sym none))
      by_odd (suc n) some = ap (λ m. nat_lt 0 m && changes (above groups named g) (odd groups named g) (inside groups named g)) (sym some) ∙ (ap (λ b. b && changes (above groups named g) (odd groups named g) (inside groups named g)) (lt-ltb 0 (suc n) (omega arith)) ∙ sym (kept_is groups named g))

  -- features with an odd mark have a group
  pub odd_named : (groups : List ℕ) → feature_count t ≤ length groups → All (λ f. f < length groups) (odd_features (get_or t.marks e []))
  odd_named groups named = subst (All (λ f. f < length groups)) (sym odd_are) (λ k d lt. (let below = filter_within (λ f. has_odd t f e) count k d lt in omega (arith, below, named)))

  -- a group that stands among those of the odd marks is one of a feature
  group_below : (groups : List ℕ) (most g : ℕ) → feature_count t ≤ length groups → All (λ g. g < most) groups → (i : ℕ) × (i < length (odd_features (get_or t.marks e []))) × ((get_or groups (get_or (odd_features (get_or t.marks e [])) i 0) 0 == g) ≡ true) → g < most
  group_below groups most g named all found =
      let fits = odd_named groups named found.0 0 found.1 in
      let low = all (get_or (odd_features (get_or t.marks e [])) found.0 0) 0 fits in
      omega (arith, eqb-true _ g found.2, low)

  -- the groups of an edge are groups
  pub groups_within : (groups above : List ℕ) (most : ℕ) (crossing : Crossing) → feature_count t ≤ length groups → All (λ g. g < most) groups → IsCrossing groups above (get_or t.marks e []) crossing → All (λ g. g < most) crossing.groups.items
  groups_within groups above most crossing named all is k d lt =
      let g = get_or crossing.groups.items k d in
      group_below groups most g named all (some_at (λ f. get_or groups f 0 == g) (odd_features (get_or t.marks e []))
      (any-count _ (odd_features (get_or t.marks e [])) ∙ (ap (nat_lt 0) (sym (is.odd.counted g)) ∙ (sym (any-count (λ h. h == g) crossing.odd_groups.items) ∙ (sym (is.distinct.exact g) ∙ member_at crossing.groups.items k d lt)))))

-- the row of the groups of the list above an edge
pub row_is : (t : Table) (groups : List ℕ) (rows : LegendRows) (members : List (List ℕ)) → IsTrueLegend t rows → AreMembers groups rows.lists members → (e n : ℕ) → e < length t.ends → slice_get rows.above e ≡ Some n → n < length rows.lists
    → (row : List ℕ) → slice_get members n ≡ Some row → IsGroupRow groups (cover_above t e) row
row_is t groups rows members is are e n lt at fits row here =
    subst (λ (fs : List ℕ). IsGroupRow groups fs row) (ap (λ k. get_or rows.lists k []) (sym (get_or_from_slice_get rows.above e n 0 at)) ∙ is.above e lt)
    (subst (IsGroupRow groups (get_or rows.lists n [])) (get_or_from_slice_get members n row [] here) (are.each n fits))
