-- What is left when the lists above all edges are known.
use Rattle.std.proofs.Common.{◌≡◌, ◌≢◌, ℕ, ◌+◌, ◌<◌, ◌≤◌, ◌==◌, Bool, true, false, List, [], ◌∷◌, length, get_or, set, take, map, refl, sym, ◌∙◌, ap, subst, inl, inr, arith, get_or-set_same, get_or-set_other, length-set, Option, Some, None}
use Rattle.std.specs.{Prelude.nat_lt, Prelude.sum_by, List.list_all, List.list_any}
use Rattle.std.proofs.lemmas.Bool.{and_parts, or_cases, cases_eq, cases_lt, true≢false, eq-eqb, eqb-true, ltb-true}
use Rattle.std.proofs.lemmas.List.{get_or-map, get_or_past, length-map, take_all, take_more}
use Rattle.std.proofs.lemmas.List.Folds.{list_any-append, list_any_at}
use Rattle.loc_spec_plane.specs.{Lists.is_in, Tables.Table, Tables.edge_numbers, Covers.cover_above, Covers.cover_lists}
use Rattle.loc_laws_order.proofs.{TableOrder.numbers_within, Unique.all-at, Booleans.same-from_both}
use Rattle.loc_laws_rays.proofs.Covering.{any-found}
use Rattle.loc_edges.proofs.SortedSet.{same-sorted_set}
use Rattle.loc_cover.specs.{Legends.IsFew, Numbered.IsNumbered, Numbered.covers_of}
use Rattle.loc_cover.specs.Stores.{StoreRows, IsStore, IsAt, lists_in, lists_of}
use Rattle.loc_cover.proofs.Lexicographic.{any_map, lists_by_before, sorted_set-rising}
use Rattle.loc_cover.proofs.Numbering.{named_within}

-- ---- rows in their order
-- the list of a row that the order names is one of the lists
named : (rows : List (List ℕ)) (order : List ℕ) (p : List ℕ → Bool) (n : ℕ) → is_in n order ≡ true → p (get_or rows n []) ≡ true → list_any p (lists_in rows order) ≡ true
named rows order p n here h = any_map p (λ m. get_or rows m []) order ∙ any-found (λ m. p (get_or rows m [])) order n here h

-- an option that is not none
is_some : (o : Option ℕ) → o ≢ None → (n : ℕ) × (o ≡ Some n)
is_some None other = absurd (other refl)
is_some (Some n) other = (n, refl)

module _ (t : Table) (s : StoreRows) (known : List (Option ℕ)) (stands : IsStore s) (numbered : IsNumbered t s.rows known) (all : (e : ℕ) → e < length t.ends → get_or known e None ≢ None) where
  covers_named : (p : List ℕ → Bool) (ns : List ℕ) → list_all (λ e. nat_lt e (length t.ends)) ns ≡ true → list_any p (map (cover_above t) ns) ≡ true → list_any p (lists_of s) ≡ true
  covers_named p [] fits h = absurd (true≢false (sym h))
  covers_named p (e ∷ ns) fits h =
      let parts = and_parts (nat_lt e (length t.ends)) (list_all (λ e. nat_lt e (length t.ends)) ns) fits in
      let le : e < length t.ends = ltb-true e (length t.ends) parts.0 in
      elim (or_cases (p (cover_above t e)) (list_any p (map (cover_above t) ns)) h) [
        | inl here ↦ (let number = is_some (get_or known e None) (all e le) in
            let row = numbered.known e number.0 le number.1 in
            named s.rows s.order p number.0 (stands.placed number.0 row.0) (subst (λ xs. p xs ≡ true) (sym row.1) here))
        | inr later ↦ covers_named p ns parts.1 later
      ]

  -- the lists of the store are the distinct lists of the table
  pub lists_are : lists_of s ≡ cover_lists t
  lists_are = sym (sorted_set-rising lists_by_before (lists_of s) stands.rising) ∙ same-sorted_set lists_by_before (lists_of s) (covers_of t) (λ p. same-from_both _ _
      (λ h. numbered.covers p (named_within s.rows s.order stands.within p h))
      (λ h. covers_named p (edge_numbers t) (numbers_within (length t.ends)) h))

  -- and there are few enough of them
  pub few_are : IsFew t
  few_are = (let same = stands.counted ∙ ap (sum_by length) lists_are in omega (arith, same, stands.few))

  -- the place of the list of the number of an edge is that of the list above it
  pub above_at : (above : List ℕ) (e : ℕ) → e < length t.ends → ((e n : ℕ) → get_or known e None ≡ Some n → IsAt (lists_of s) (get_or s.rows n []) (get_or above e 0)) → IsAt (cover_lists t) (cover_above t e) (get_or above e 0)
  above_at above e le each =
      let number = is_some (get_or known e None) (all e le) in
      let row = numbered.known e number.0 le number.1 in
      let at = each e number.0 number.1 in
      record {
        fits = subst (λ lists. get_or above e 0 < length lists) lists_are at.fits;
        at = sym (ap (λ lists. get_or lists (get_or above e 0) []) lists_are) ∙ (at.at ∙ row.1);
      }

-- numbers that are known are those of rows
pub known_fits : (t : Table) (rows : List (List ℕ)) (known : List (Option ℕ)) → IsNumbered t rows known → (e n : ℕ) → get_or known e None ≡ Some n → n < length rows
known_fits t rows known numbered e n is = elim (cases_lt e (length t.ends)) [
  | inl lt ↦ (numbered.known e n lt is).0
  | inr le ↦ (let none : get_or known e None ≡ None = get_or_past known e None (omega (arith, numbered.as_many)) in cc (none, is))
]

-- ---- places
-- the rows that the first i places of the order name have their places
pub record ArePlaced (s : StoreRows) (i : ℕ) (places : List ℕ) : Type 0 where
  pub as_many : length places ≡ length s.rows
  pub each : (n : ℕ) → is_in n (take i s.order) ≡ true → IsAt (lists_of s) (get_or s.rows n []) (get_or places n 0)

-- the order names rows
pub order_fits : (s : StoreRows) (i : ℕ) → IsStore s → i < length s.order → get_or s.order i 0 < length s.rows
order_fits s i stands lt = ltb-true (get_or s.order i 0) _ (all-at (λ m. nat_lt m (length s.rows)) s.order (get_or s.order i 0) stands.within (list_any_at (λ m. m == get_or s.order i 0) s.order i 0 lt (eq-eqb _ _ refl)))

-- none has it at first
pub placed_start : (s : StoreRows) (places : List ℕ) → length places ≡ length s.rows → ArePlaced s 0 places
placed_start s places size = record { as_many = size; each = λ n h. absurd (true≢false (sym h)) }

-- and place i gives the next its own
pub placed_more : (s : StoreRows) (i : ℕ) (places : List ℕ) → IsStore s → ArePlaced s i places → i < length s.order → ArePlaced s (i + 1) (set places (get_or s.order i 0) i)
placed_more s i places stands are lt =
    let k = get_or s.order i 0 in
    let within : k < length s.rows = order_fits s i stands lt in
    record {
      as_many = length-set places k i ∙ are.as_many;
      each = λ n h. elim (cases_eq k n) [
        | inl same ↦ subst (λ v. IsAt (lists_of s) (get_or s.rows n []) v) (sym (ap (λ m. get_or (set places k i) m 0) (sym same) ∙ get_or-set_same places k i 0 (omega (arith, within, are.as_many)))) (record {
          fits = omega (arith, lt, length-map s.order (λ m. get_or s.rows m []));
          at = get_or-map (λ m. get_or s.rows m []) s.order i 0 [] lt ∙ ap (λ m. get_or s.rows m []) same;
        })
        | inr other ↦ subst (λ v. IsAt (lists_of s) (get_or s.rows n []) v) (sym (get_or-set_other places k n i 0 (λ e. other (sym e)))) (are.each n (elim (or_cases (is_in n (take i s.order)) (is_in n (k ∷ [])) (sym (list_any-append (λ m. m == n) (take i s.order) (k ∷ [])) ∙ (ap (is_in n) (sym (take_more s.order i 0 lt)) ∙ h))) [
          | inl before ↦ before
          | inr last ↦ absurd (other (eqb-true k n (elim (or_cases (k == n) false last) [ inl e ↦ e | inr none ↦ absurd (true≢false (sym none)) ])))
        ]))
      ];
    }

-- so at the end each row has its place
pub placed_all : (s : StoreRows) (i : ℕ) (places : List ℕ) → IsStore s → ArePlaced s i places → length s.order ≤ i → (n : ℕ) → n < length s.rows → IsAt (lists_of s) (get_or s.rows n []) (get_or places n 0)
placed_all s i places stands are all n lt = are.each n (ap (is_in n) (take_all i s.order all) ∙ stands.placed n lt)

-- ---- the places of the numbers of edges
-- an edge with a number is one of the edges
pub some_fits : (known : List (Option ℕ)) (e n count : ℕ) → length known ≤ count → get_or known e None ≡ Some n → e < count
some_fits known e n count all is = elim (cases_lt e (length known)) [
  | inl lt ↦ omega (arith, lt, all)
  | inr le ↦ absurd (let none : get_or known e None ≡ None = get_or_past known e None le in cc (none, is))
]
