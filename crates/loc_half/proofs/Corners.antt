-- The edges at a corner, as the table lists them: those that begin there, and then those that end there.
use Rattle.std.proofs.Common.{◌≡◌, ◌≢◌, ℕ, ◌+◌, ◌-◌, ◌<◌, ◌≤◌, Bool, true, false, not, ◌&&◌, ◌||◌, List, [], ◌∷◌, ◌++◌, length, get_or, filter, refl, sym, ◌∙◌, ap, subst, inl, inr, arith}
use Rattle.std.specs.Prelude.{◌==◌, nat_lt}
use Rattle.std.specs.List.{list_all, range_with_len}
use Rattle.std.proofs.lemmas.Bool.{false_from_ne_true, not-true, and_parts, and_from, or_cases, or_left, or_right, both_ways, eqb-true, eq-eqb, ne_eqb, lt-ltb, le-ltb, ltb-true, not_from_false, or_from}
use Rattle.std.proofs.lemmas.List.Folds.{list_all-append, list_any-append, list_any_at}
use Rattle.std.proofs.lemmas.List.FromFn.{get_or-range_with_len, length-range_with_len, map-range_with_len_more}
use Rattle.std.proofs.lemmas.List.{map-id}
use Rattle.loc_spec_plane.specs.{Lists.is_in, Lists.is_rising, Lists.numbers, Places.is_edge}
use Rattle.loc_spec_plane.specs.Tables.{Table, IsTable, edge_numbers, lo_of, hi_of, ends_at}
use Rattle.loc_laws_order.proofs.Kept.{all_filter, all_range, numbers_rise, range_rises, rising_kept}
use Rattle.loc_laws_order.proofs.{Sets.all_weaker, TableOrder.numbers_within, TableOrder.rises, Unique.all-at}
use Rattle.loc_laws_rays.proofs.Members.{in_numbers, is_in-filter}
use Rattle.loc_laws_order.proofs.Booleans.{same-from_both}
use Rattle.loc_edges.specs.Ending.{IsBeginning}
use Rattle.loc_half.specs.Turns.{stands_at, AreEdgesAt}

rising_weaker : (p q : ℕ → ℕ → Bool) → ((a b : ℕ) → p a b ≡ true → q a b ≡ true) → (ns : List ℕ) → is_rising p ns ≡ true → is_rising q ns ≡ true
rising_weaker p q weaker [] up = refl
rising_weaker p q weaker (n ∷ ns) up = let parts = and_parts (list_all (p n) ns) (is_rising p ns) up in and_from (list_all (q n) ns) (is_rising q ns) (all_weaker (p n) (q n) (weaker n) ns parts.0) (rising_weaker p q weaker ns parts.1)

rising-append : (p : ℕ → ℕ → Bool) (xs ys : List ℕ) → is_rising p xs ≡ true → is_rising p ys ≡ true → list_all (λ x. list_all (p x) ys) xs ≡ true → is_rising p (xs ++ ys) ≡ true
rising-append p [] ys up_x up_y across = up_y
rising-append p (x ∷ xs) ys up_x up_y across =
    let parts = and_parts (list_all (p x) xs) (is_rising p xs) up_x in
    let over = and_parts (list_all (p x) ys) (list_all (λ x. list_all (p x) ys) xs) across in
    and_from (list_all (p x) (xs ++ ys)) (is_rising p (xs ++ ys)) (list_all-append (p x) xs ys ∙ and_from (list_all (p x) xs) (list_all (p x) ys) parts.0 over.0) (rising-append p xs ys parts.1 up_y over.1)

-- a range with one more number
pub range_more : (a n j : ℕ) → a + n ≡ j → range_with_len a (n + 1) ≡ range_with_len a n ++ j ∷ []
range_more a n j last = sym (map-id (range_with_len a (n + 1))) ∙ (map-range_with_len_more (λ k. k) a n j last ∙ ap (λ ns. ns ++ j ∷ []) (map-id (range_with_len a n)))

module _ (t : Table) (ok : IsTable t) (c first past : ℕ) (range : IsBeginning t c first past) where
  -- what begins at the corner stands before what does not, and else the lesser number before the greater
  abbrev listed_before : ℕ → ℕ → Bool
  listed_before a b = nat_lt a b || ((lo_of t a == c) && not (lo_of t b == c))

  in_range : (e : ℕ) → first ≤ e → e < first + (past - first) → (e < length t.ends) × (lo_of t e ≡ c)
  in_range e from lt =
      let fits : e < length t.ends = omega (arith, lt, range.in_order, range.within) in
      (fits, (range.exact e fits).1 (from, omega (arith, lt, range.in_order)))

  begins : list_all (λ e. (lo_of t e == c) && is_edge t e) (range_with_len first (past - first)) ≡ true
  begins = all_range (λ e. (lo_of t e == c) && is_edge t e) first (past - first) (λ e from lt. (let at = in_range e from lt in and_from (lo_of t e == c) (is_edge t e) (eq-eqb (lo_of t e) c at.1) (lt-ltb e (length t.ends) at.0)))

  begins_not : list_all (λ e. not (lo_of t e == c)) (filter (λ e. hi_of t e == c) (edge_numbers t)) ≡ true
  begins_not = all_filter (λ e. hi_of t e == c) (λ e. nat_lt e (length t.ends)) (λ e. not (lo_of t e == c))
      (λ e lt high. not_from_false (lo_of t e == c) (ne_eqb (lo_of t e) c (λ low. (let start : lo_of t e ≡ c = low in let end : hi_of t e ≡ c = eqb-true (hi_of t e) c high in let up = (ok.goes_up e (ltb-true e (length t.ends) lt)).0 in omega (arith, start, end, up)))))
      (numbers (length t.ends)) (numbers_within (length t.ends))

  lists : is_rising listed_before (range_with_len first (past - first) ++ filter (λ e. hi_of t e == c) (edge_numbers t)) ≡ true
  lists = rising-append listed_before (range_with_len first (past - first)) (filter (λ e. hi_of t e == c) (edge_numbers t))
      (rising_weaker nat_lt listed_before (λ a b less. or_left (nat_lt a b) ((lo_of t a == c) && not (lo_of t b == c)) less) (range_with_len first (past - first)) (range_rises first (past - first)))
      (rising_weaker nat_lt listed_before (λ a b less. or_left (nat_lt a b) ((lo_of t a == c) && not (lo_of t b == c)) less) (filter (λ e. hi_of t e == c) (edge_numbers t)) (rising_kept (λ e. hi_of t e == c) nat_lt (numbers (length t.ends)) (numbers_rise (length t.ends))))
      (all_weaker (λ e. (lo_of t e == c) && is_edge t e) (λ a. list_all (listed_before a) (filter (λ e. hi_of t e == c) (edge_numbers t)))
      (λ a low. all_weaker (λ e. not (lo_of t e == c)) (listed_before a) (λ b high. or_right (nat_lt a b) ((lo_of t a == c) && not (lo_of t b == c)) (and_from (lo_of t a == c) (not (lo_of t b == c)) (and_parts (lo_of t a == c) (is_edge t a) low).0 high)) (filter (λ e. hi_of t e == c) (edge_numbers t)) begins_not)
      (range_with_len first (past - first)) begins)

  not_before_itself : (e : ℕ) → listed_before e e ≡ false
  not_before_itself e = or_from (nat_lt e e) ((lo_of t e == c) && not (lo_of t e == c)) (le-ltb e e (omega arith)) (false_from_ne_true _ (λ h. (let parts = and_parts (lo_of t e == c) (not (lo_of t e == c)) h in both_ways _ (not-true _ parts.1) parts.0)))

  module _ (row : List ℕ) (is : row ≡ range_with_len first (past - first) ++ filter (λ e. hi_of t e == c) (edge_numbers t)) where
    apart : (i j : ℕ) → i < j → j < length row → get_or row i 0 ≢ get_or row j 0
    apart i j less lt same = both_ways (listed_before (get_or row i 0) (get_or row i 0)) (not_before_itself (get_or row i 0))
        (subst (λ e. listed_before (get_or row i 0) e ≡ true) (sym same) (rises listed_before 0 row i j (subst (λ es. is_rising listed_before es ≡ true) (sym is) lists) less lt))

    parts_of : (e : ℕ) → is_in e row ≡ (is_in e (range_with_len first (past - first)) || (is_in e (numbers (length t.ends)) && (hi_of t e == c)))
    parts_of e = ap (is_in e) is ∙ (list_any-append (λ m. m == e) (range_with_len first (past - first)) (filter (λ e. hi_of t e == c) (edge_numbers t)) ∙ ap (λ b. is_in e (range_with_len first (past - first)) || b) (is_in-filter (λ e. hi_of t e == c) e (numbers (length t.ends))))

    found : (e : ℕ) → stands_at t c e ≡ true → is_in e row ≡ true
    found e at =
        let both = and_parts (is_edge t e) (ends_at t c e) at in
        let fits = ltb-true e (length t.ends) both.0 in
        parts_of e ∙ elim (or_cases (lo_of t e == c) (hi_of t e == c) both.1) [
          | inl low ↦ (let within = (range.exact e fits).0 (eqb-true (lo_of t e) c low) in
              let place : first + (e - first) ≡ e = omega (arith, within.0) in
              let short : e - first < past - first = omega (arith, within.0, within.1) in
              or_left (is_in e (range_with_len first (past - first))) (is_in e (numbers (length t.ends)) && (hi_of t e == c))
              (list_any_at (λ m. m == e) (range_with_len first (past - first)) (e - first) 0 (let size = length-range_with_len first (past - first) in omega (arith, size, short))
              (eq-eqb (get_or (range_with_len first (past - first)) (e - first) 0) e (get_or-range_with_len first (past - first) (e - first) 0 short ∙ place))))
          | inr high ↦ or_right (is_in e (range_with_len first (past - first))) (is_in e (numbers (length t.ends)) && (hi_of t e == c)) (and_from (is_in e (numbers (length t.ends))) (hi_of t e == c) (in_numbers e (length t.ends) fits) high)
        ]

    stands : (e : ℕ) → is_in e row ≡ true → stands_at t c e ≡ true
    stands e here = elim (or_cases (is_in e (range_with_len first (past - first))) (is_in e (numbers (length t.ends)) && (hi_of t e == c)) (sym (parts_of e) ∙ here)) [
      | inl begun ↦ (let at = and_parts (lo_of t e == c) (is_edge t e) (all-at (λ e. (lo_of t e == c) && is_edge t e) (range_with_len first (past - first)) e begins begun) in and_from (is_edge t e) (ends_at t c e) at.1 (or_left (lo_of t e == c) (hi_of t e == c) at.0))
      | inr ended ↦ (let at = and_parts (is_in e (numbers (length t.ends))) (hi_of t e == c) ended in and_from (is_edge t e) (ends_at t c e) (all-at (λ k. nat_lt k (length t.ends)) (numbers (length t.ends)) e (numbers_within (length t.ends)) at.0) (or_right (lo_of t e == c) (hi_of t e == c) at.1))
    ]

    -- they are the edges at the corner, each once
    pub are_edges_at : AreEdgesAt t c row
    are_edges_at = record { exact = λ e. same-from_both (is_in e row) (stands_at t c e) (stands e) (found e); apart = apart }
