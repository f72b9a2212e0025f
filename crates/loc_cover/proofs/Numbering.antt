-- The list above an edge, made from the list above the edge just below it, and its number.
use Rattle.std.proofs.Common.{◌≡◌, ◌≢◌, ℕ, ◌+◌, ◌<◌, Bool, true, List, [], ◌∷◌, length, get_or, refl, sym, ◌∙◌, ap, subst, inl, inr, arith, Option, Some, None}
use Rattle.std.specs.{Prelude.nat_lt, Prelude.IfSome, List.list_all, List.list_any, Option.is_some}
use Rattle.std.proofs.{Math.ListN.set, lemmas.List.Folds.list_any-append, lemmas.List.Folds.list_any_at}
use Rattle.std.proofs.lemmas.Bool.{and_parts, or_cases, cases_eq, true≢false, ltb-true}
use Rattle.std.proofs.lemmas.List.{get_or-set_other, get_or-set_same, get_or_append_left, get_or_read, length-append, length-set}
use Rattle.loc_spec_plane.specs.Lists.{exactly_one, is_in, is_rising, numbers, sorted_set, IsRisingListOf}
use Rattle.loc_spec_plane.specs.Tables.{Table, IsTable, AllEnds, AllEven, NoConflict, edge_numbers, has_odd}
use Rattle.loc_spec_plane.specs.Places.{IsJustBelow}
use Rattle.loc_spec_plane.specs.Covers.{cover_above, cover_lists, cover_of_floor, feature_count, is_over, list_before}
use Rattle.loc_laws_order.proofs.{Kept.numbers_rise, Kept.rising_kept, Booleans.or_none, Unique.rising-unique}
use Rattle.loc_laws_rays.proofs.{Members.in_cover, Parity.exactly_one-false}
use Rattle.loc_edges.proofs.SortedSet.{any-sorted_set, rising-sorted_set}
use Rattle.loc_cover.specs.declared.fault.LegendFault.{LegendFault}
use Rattle.loc_cover.specs.declared.fault.LegendFault.TheVariants.{ManyCovers, NoMemory}
use Rattle.loc_cover.specs.{Legends.IsRefused, Numbered.IsNumbered, Numbered.IsWithin, Numbered.covers_of}
use Rattle.loc_cover.specs.Stores.{StoreRows, IsStore, IsPast, GainsAtMost, lists_in, lists_of}
use Rattle.loc_cover.proofs.{Gathered.any_range, JustBelow.over_just_below, JustBelow.over_nothing}
use Rattle.loc_cover.proofs.Lexicographic.{any_map, lists_by_before, sum_within}

-- ---- the list
-- the list above an edge rises
pub above_rises : (t : Table) (e : ℕ) → is_rising nat_lt (cover_above t e) ≡ true
above_rises t e = rising_kept (is_over t e) nat_lt (numbers (feature_count t)) (numbers_rise (feature_count t))

-- also where there may be no edge
pub under_rises : (t : Table) (below : Option ℕ) → is_rising nat_lt (cover_of_floor t below) ≡ true
under_rises t None = refl
under_rises t (Some d) = above_rises t d

module _ (t : Table) (ok : IsTable t) (ended : AllEnds t) (even : AllEven t) (apart : NoConflict t) (e : ℕ) (le : e < length t.ends) where
  members : (below : Option ℕ) → IsJustBelow t e below → (f : ℕ) → exactly_one (has_odd t f e) (is_in f (cover_of_floor t below)) ≡ is_over t e f
  members None is f = exactly_one-false (has_odd t f e) ∙ sym (over_nothing t ok ended even apart e le f is)
  members (Some d) is f = ap (exactly_one (has_odd t f e)) (in_cover t d f) ∙ sym (over_just_below t ok ended even apart e le f d is)

  -- the list under an edge, with the features exchanged that the edge marks odd, is the list above it
  pub list_is : (below : Option ℕ) (made : List ℕ) → IsJustBelow t e below → IsRisingListOf nat_lt (λ f. exactly_one (has_odd t f e) (is_in f (cover_of_floor t below))) made → made ≡ cover_above t e
  list_is below made is rising = rising-unique nat_lt (λ a b h k. (let lt : a < b = ltb-true a b h in let gt : b < a = ltb-true b a k in omega arith)) made (cover_above t e) rising.rising (above_rises t e)
      (λ f. rising.exact f ∙ (members below is f ∙ sym (in_cover t e f)))

-- ---- its number
-- the list above an edge is one of the lists above all edges
pub one_of_covers : (t : Table) (e : ℕ) → e < length t.ends → (p : List ℕ → Bool) → p (cover_above t e) ≡ true → list_any p (covers_of t) ≡ true
one_of_covers t e le p h = any_map p (cover_above t) (edge_numbers t) ∙ any_range (λ d. p (cover_above t d)) 0 (length t.ends) e (omega arith) (omega arith) h

module _ (t : Table) (rows : List (List ℕ)) (known : List (Option ℕ)) (numbered : IsNumbered t rows known) (e : ℕ) (le : e < length t.ends) (list : List ℕ) (is : list ≡ cover_above t e) where
  -- one edge more has its number
  pub numbered_more : (longer : List (List ℕ)) (n : ℕ) → GainsAtMost list rows longer → n < length longer → get_or longer n [] ≡ list → IsNumbered t longer (set known e (Some n))
  numbered_more longer n gains lt found = record {
    as_many = length-set known e (Some n) ∙ numbered.as_many;
    known = λ d m ld at. elim (cases_eq d e) [
      | inl same ↦ (let here : get_or (set known e (Some n)) e None ≡ Some n = get_or-set_same known e (Some n) None (omega (arith, numbered.as_many)) in
          let number : n ≡ m = cc (here, ap (λ k. get_or (set known e (Some n)) k None) same, at) in
          (subst (λ k. k < length longer) number lt, subst (λ k. get_or longer k [] ≡ cover_above t d) number (found ∙ (is ∙ ap (cover_above t) (sym same)))))
      | inr other ↦ (let old = numbered.known d m ld (sym (get_or-set_other known e d (Some n) None other) ∙ at) in kept m old.0 old.1 gains)
    ];
    covers = λ p h. all_are p h gains;
  }
    where
      kept : (m : ℕ) → m < length rows → {c : List ℕ} → get_or rows m [] ≡ c → GainsAtMost list rows longer → (m < length longer) × (get_or longer m [] ≡ c)
      kept m lm at (inl same) = (subst (λ xs. m < length xs) (sym same) lm, ap (λ xs. get_or xs m []) same ∙ at)
      kept m lm at (inr more) = ((let size = ap length more ∙ length-append rows (list ∷ []) in omega arith), ap (λ xs. get_or xs m []) more ∙ (get_or_append_left rows (list ∷ []) [] m lm ∙ at))

      all_are : (p : List ℕ → Bool) → list_any p longer ≡ true → GainsAtMost list rows longer → list_any p (covers_of t) ≡ true
      all_are p h (inl same) = numbered.covers p (ap (list_any p) (sym same) ∙ h)
      all_are p h (inr more) = elim (or_cases (list_any p rows) (list_any p (list ∷ [])) (sym (list_any-append p rows (list ∷ [])) ∙ (ap (list_any p) (sym more) ∙ h))) [
        | inl old ↦ numbered.covers p old
        | inr last ↦ one_of_covers t e le p (subst (λ xs. p xs ≡ true) is (sym (or_none (p list)) ∙ last))
      ]

-- the lists named by an order are rows
pub named_within : (rows : List (List ℕ)) (order : List ℕ) → list_all (λ n. nat_lt n (length rows)) order ≡ true → IsWithin (lists_in rows order) rows
named_within rows [] fits p h = absurd (true≢false (sym h))
named_within rows (n ∷ order) fits p h =
    let parts = and_parts (nat_lt n (length rows)) (list_all (λ n. nat_lt n (length rows)) order) fits in
    elim (or_cases (p (get_or rows n [])) (list_any p (lists_in rows order)) h) [
      | inl here ↦ list_any_at p rows n [] (ltb-true n (length rows) parts.0) here
      | inr later ↦ named_within rows order parts.1 p later
    ]

-- where the lists found so far and one more are too long together, so are the distinct lists of the table
pub refused_is : (t : Table) (s : StoreRows) (known : List (Option ℕ)) (e : ℕ) (list : List ℕ) (fault : LegendFault) → IsStore s → IsNumbered t s.rows known → e < length t.ends → list ≡ cover_above t e → IsPast (list ∷ lists_of s) fault → IsRefused t fault
refused_is t s known e list NoMemory stands numbered le is past = tt
refused_is t s known e list ManyCovers stands numbered le is past =
    (let less = sum_within lists_by_before length (sorted_set list_before (list ∷ lists_of s)) (cover_lists t) (rising-sorted_set lists_by_before (list ∷ lists_of s)) (rising-sorted_set lists_by_before (covers_of t)) inside in omega (arith, past, less))
  where
    inside : IsWithin (sorted_set list_before (list ∷ lists_of s)) (cover_lists t)
    inside p h = any-sorted_set lists_by_before p (covers_of t) ∙ elim (or_cases (p list) (list_any p (lists_of s)) (sym (any-sorted_set lists_by_before p (list ∷ lists_of s)) ∙ h)) [
      | inl here ↦ one_of_covers t e le p (subst (λ xs. p xs ≡ true) is here)
      | inr old ↦ numbered.covers p (named_within s.rows s.order stands.within p old)
    ]

-- the number found for an edge that may be missing is that of the list above it
pub number_found : (t : Table) (rows : List (List ℕ)) (known : List (Option ℕ)) → IsNumbered t rows known → (below found : Option ℕ) → IfSome below (λ d. d < length t.ends) → (below ≡ None → found ≡ None) → ((d : ℕ) → below ≡ Some d → found ≡ get_or known d None) → (n : ℕ) → found ≡ Some n → (n < length rows) × (get_or rows n [] ≡ cover_of_floor t below)
number_found t rows known numbered None found lt none some n is = cc (none refl, is)
number_found t rows known numbered (Some d) found lt none some n is = numbered.known d n lt (sym (some d refl) ∙ is)

-- no rows are there at first
pub numbered_none : (t : Table) (known : List (Option ℕ)) → length known ≡ length t.ends → ((e : ℕ) → e < length t.ends → get_or known e None ≡ None) → IsNumbered t [] known
numbered_none t known size none = record {
  as_many = size;
  known = λ e n le is. absurd (let no = none e le in cc (no, is));
  covers = λ p h. absurd (true≢false (sym h));
}

-- what is read and is some is known
pub known_there : (known : List (Option ℕ)) (e : ℕ) (read : Option ℕ) → e < length known → read ≡ get_or known e read → is_some read ≡ true → get_or known e None ≢ None
known_there known e read fits at some none = true≢false (sym some ∙ ap is_some (get_or_read known e read fits at None ∙ none))

-- with the edges before it an edge that is known makes one more
pub known_next : (known : List (Option ℕ)) (i : ℕ) → ((e : ℕ) → e < i → get_or known e None ≢ None) → get_or known i None ≢ None → (e : ℕ) → e < i + 1 → get_or known e None ≢ None
known_next known i before here e lt = elim (cases_eq e i) [
  | inl same ↦ subst (λ k. get_or known k None ≢ None) (sym same) here
  | inr other ↦ before e (omega (arith, lt, other))
]
