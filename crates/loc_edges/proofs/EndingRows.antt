-- Items behind keys in order: the rows of the keys, as one item after another is put there, and the order in them.
use Rattle.std.proofs.Common.{◌≡◌, ℕ, ◌+◌, ◌-◌, ◌<◌, ◌≤◌, Bool, true, not, List, [], ◌∷◌, ◌++◌, length, get_or, set, map, replicate, refl, sym, ◌∙◌, ap, subst, inl, inr, arith, length-append}
use Rattle.std.specs.Prelude.{nat_lt, ◌==◌, ◌&&◌, ◌||◌, filter}
use Rattle.std.specs.{List.list_all, List.Sorted.IsNonDecreasingBy, List.Sorted.IsStableByKey}
use Rattle.std.specs.Ordering.{nat_cmp, is_lt}
use Rattle.std.proofs.lemmas.Bool.{cases_eq, cases_lt, cases_order, cases_Bool, cond-true, cond-false, eq-eqb, ne_eqb, eqb-true, ltb-true, or_cases, and_parts, and_from}
use Rattle.std.proofs.lemmas.List.{append-nil, map-append, get_or_append_left, get_or-append_right, get_or-replicate, length-replicate, same_lists}
use Rattle.std.proofs.lemmas.List.Elements.{filter-append, filter_agree}
use Rattle.std.proofs.lemmas.List.FromFn.{length-map-range_with_len, get_or-map-range_with_len}
use Rattle.loc_spec_plane.specs.Lists.{numbers, is_rising}
use Rattle.loc_laws_order.proofs.TableOrder.{rises}
use Rattle.loc_edges.specs.Ending.{row_of}
use Rattle.loc_edges.proofs.RowLists.{set_number}

-- ---- numbers behind their keys
-- the rows of edges behind a number of each
pub row_of-numbered : (key : ℕ → ℕ) (es : List ℕ) (c : ℕ) → row_of (map (λ e. (key e, e)) es) c ≡ filter (λ e. key e == c) es
row_of-numbered key [] c = refl
row_of-numbered key (e ∷ es) c = elim (cases_Bool (key e == c)) [
  | inl here ↦ ap (map (λ (pair : ℕ × ℕ). pair.1)) (cond-true _ _ _ here) ∙ (ap (λ ns. e ∷ ns) (row_of-numbered key es c) ∙ sym (cond-true _ _ _ here))
  | inr other ↦ ap (map (λ (pair : ℕ × ℕ). pair.1)) (cond-false _ _ _ other) ∙ (row_of-numbered key es c ∙ sym (cond-false _ _ _ other))
]

-- two keys tie where they are equal
tie_is : (c n : ℕ) → (not (is_lt (nat_cmp c n)) && not (is_lt (nat_cmp n c))) ≡ (n == c)
tie_is c n = elim (cases_order c n) [
  | inl same ↦ grind arith
  | inr differ ↦ elim differ [
    | inl less ↦ grind arith
    | inr greater ↦ grind arith
  ]
]

-- a stable sort by the keys keeps the rows
pub row_of-stable : (xs ys : List (ℕ × ℕ)) → IsStableByKey (λ (pair : ℕ × ℕ). pair.0) nat_cmp xs ys → (c : ℕ) → row_of ys c ≡ row_of xs c
row_of-stable xs ys stable c = ap (map (λ (pair : ℕ × ℕ). pair.1)) (sym (agree ys) ∙ (stable (c, 0) ∙ agree xs))
  where
    agree : (zs : List (ℕ × ℕ)) → filter (λ (pair : ℕ × ℕ). not (is_lt (nat_cmp c pair.0)) && not (is_lt (nat_cmp pair.0 c))) zs ≡ filter (λ (pair : ℕ × ℕ). pair.0 == c) zs
    agree zs = filter_agree _ _ (λ pair. tie_is c pair.0) zs

-- ---- rows that grow
-- rows as far as some key, behind which there is none
pub record IsGrown {X : Type 0} (keyed : List (ℕ × X)) (rows : List (List X)) : Type 0 where
  pub rows_are : rows ≡ map (row_of keyed) (numbers (length rows))
  pub none_behind : (c : ℕ) → length rows ≤ c → row_of keyed c ≡ []

-- with empty rows behind them
pub rows_behind : {X : Type 0} (keyed : List (ℕ × X)) (rows : List (List X)) (count : ℕ) → IsGrown keyed rows → length rows ≤ count → rows ++ replicate (count - length rows) [] ≡ map (row_of keyed) (numbers count)
rows_behind {X} keyed rows count h le = same_lists _ _ (omega (arith, long, length-map-range_with_len (row_of keyed) 0 count)) (λ n d lt. at n d (omega (arith, long)))
  where
    no_items : List X
    no_items = []

    long : length (rows ++ replicate (count - length rows) []) ≡ count
    long = omega (arith, length-append rows (replicate (count - length rows) []), length-replicate (count - length rows) no_items)

    at : (n : ℕ) (d : List X) → n < count → get_or (rows ++ replicate (count - length rows) []) n d ≡ get_or (map (row_of keyed) (numbers count)) n d
    at n d lt = elim (cases_lt n (length rows)) [
      | inl before ↦ get_or_append_left rows (replicate (count - length rows) []) d n before ∙ (ap (λ rs. get_or rs n d) h.rows_are ∙ get_or-map-range_with_len (row_of keyed) 0 (length rows) n n d before (omega arith))
      | inr past ↦ get_or-append_right rows (replicate (count - length rows) []) (length rows) n d refl past ∙ (get_or-replicate (count - length rows) (n - length rows) [] d (omega arith) ∙ sym (h.none_behind n past))
    ] ∙ sym (get_or-map-range_with_len (row_of keyed) 0 count n n d lt (omega arith))

module _ {X : Type 0} (keyed : List (ℕ × X)) (key : ℕ) (x : X) where
  -- the row of the key gets the number, and no other does
  row_here : row_of (keyed ++ (key, x) ∷ []) key ≡ row_of keyed key ++ x ∷ []
  row_here = ap (map (λ (pair : ℕ × X). pair.1)) (filter-append (λ (pair : ℕ × X). pair.0 == key) keyed ((key, x) ∷ []) ∙ ap (λ ps. filter (λ (pair : ℕ × X). pair.0 == key) keyed ++ ps) (cond-true _ _ _ (eq-eqb key key refl))) ∙ map-append _ _ _

  row_elsewhere : (c : ℕ) → (key ≡ c → ⊥) → row_of (keyed ++ (key, x) ∷ []) c ≡ row_of keyed c
  row_elsewhere c other = ap (map (λ (pair : ℕ × X). pair.1)) (filter-append (λ (pair : ℕ × X). pair.0 == c) keyed ((key, x) ∷ []) ∙ (ap (λ ps. filter (λ (pair : ℕ × X). pair.0 == c) keyed ++ ps) (cond-false _ _ _ (ne_eqb _ _ other)) ∙ append-nil _))

  -- rows up to the key are started, and the last gets the number
  pub grown_more : (rows started grown : List (List X)) → IsGrown keyed rows → length rows ≤ key + 1 → started ≡ rows ++ replicate (key + 1 - length rows) [] → grown ≡ set started (length started - 1) (get_or started (length started - 1) [] ++ x ∷ []) → IsGrown (keyed ++ (key, x) ∷ []) grown × (length grown ≡ key + 1)
  grown_more rows started grown h le started_is grown_is = (record { rows_are = are ∙ ap (λ n. map (row_of (keyed ++ (key, x) ∷ [])) (numbers n)) (sym many); none_behind = λ c past. row_elsewhere c (λ same. omega (arith, many)) ∙ h.none_behind c (omega (arith, many)) }, many)
    where
      now : started ≡ map (row_of keyed) (numbers (key + 1))
      now = started_is ∙ rows_behind keyed rows (key + 1) h le

      last : length started - 1 ≡ key
      last = omega (arith, ap length now, length-map-range_with_len (row_of keyed) 0 (key + 1))

      old : get_or started (length started - 1) [] ≡ row_of keyed key
      old = ap (λ n. get_or started n []) last ∙ (ap (λ rs. get_or rs key []) now ∙ get_or-map-range_with_len (row_of keyed) 0 (key + 1) key key [] (omega arith) (omega arith))

      are : grown ≡ map (row_of (keyed ++ (key, x) ∷ [])) (numbers (key + 1))
      are =
          grown_is
          ∙ (ap (λ row. set started (length started - 1) (row ++ x ∷ [])) old
          ∙ (ap (λ n. set started n (row_of keyed key ++ x ∷ [])) last
          ∙ (ap (λ row. set started key row) (sym row_here)
          ∙ (ap (λ rs. set rs key (row_of (keyed ++ (key, x) ∷ []) key)) now
          ∙ set_number (row_of keyed) (row_of (keyed ++ (key, x) ∷ [])) (key + 1) key (omega arith) (λ c other _. sym (row_elsewhere c (λ same. other (sym same))))))))

      many : length grown ≡ key + 1
      many = ap length are ∙ length-map-range_with_len (row_of (keyed ++ (key, x) ∷ [])) 0 (key + 1)

-- ---- pairs in order
module _ {X : Type 0} (tie : X → X → Bool) where
  -- by the first number, and then by what stands behind it
  abbrev keyed_before : ℕ × X → ℕ × X → Bool
  keyed_before a b = nat_lt a.0 b.0 || ((a.0 == b.0) && tie a.1 b.1)

  -- a pair that comes before another has no greater first number
  first_up : (a b : ℕ × X) → keyed_before a b ≡ true → a.0 ≤ b.0
  first_up a b h = elim (or_cases (nat_lt a.0 b.0) ((a.0 == b.0) && tie a.1 b.1) h) [
    | inl less ↦ (let lt : a.0 < b.0 = ltb-true a.0 b.0 less in omega arith)
    | inr tied ↦ (let same : a.0 ≡ b.0 = eqb-true a.0 b.0 (and_parts (a.0 == b.0) (tie a.1 b.1) tied).0 in omega arith)
  ]

  -- pairs in order have their first numbers in order
  pub firsts_rise : (pairs : List (ℕ × X)) → is_rising keyed_before pairs ≡ true → IsNonDecreasingBy (λ (p : ℕ × X). p.0) pairs
  firsts_rise pairs up i j d le fits = elim (cases_eq i j) [
    | inl same ↦ (let e : (get_or pairs i d).0 ≡ (get_or pairs j d).0 = ap (λ k. (get_or pairs k d).0) same in omega arith)
    | inr differ ↦ first_up (get_or pairs i d) (get_or pairs j d) (rises keyed_before d pairs i j up (omega arith) fits)
  ]

  -- what stands behind a number comes after one that stands before it behind the same
  row_later : (x : X) (c : ℕ) (pairs : List (ℕ × X)) → list_all (keyed_before (c, x)) pairs ≡ true → list_all (tie x) (row_of pairs c) ≡ true
  row_later x c [] h = refl
  row_later x c (p ∷ ps) h =
      let parts = and_parts (keyed_before (c, x) p) (list_all (keyed_before (c, x)) ps) h in
      elim (cases_Bool (p.0 == c)) [
        | inl here ↦ ap (λ qs. list_all (tie x) (map (λ (q : ℕ × X). q.1) qs)) (cond-true _ _ _ here) ∙ and_from (tie x p.1) _ (tied (eqb-true p.0 c here) parts.0) (row_later x c ps parts.1)
        | inr other ↦ ap (λ qs. list_all (tie x) (map (λ (q : ℕ × X). q.1) qs)) (cond-false _ _ _ other) ∙ row_later x c ps parts.1
      ]
    where
      tied : p.0 ≡ c → keyed_before (c, x) p ≡ true → tie x p.1 ≡ true
      tied same lies = elim (or_cases (nat_lt c p.0) ((c == p.0) && tie x p.1) lies) [
        | inl less ↦ (let lt : c < p.0 = ltb-true c p.0 less in absurd (omega arith))
        | inr at ↦ (and_parts (c == p.0) (tie x p.1) at).1
      ]

  -- what stands behind a number is in order
  pub row_rises : (c : ℕ) (pairs : List (ℕ × X)) → is_rising keyed_before pairs ≡ true → is_rising tie (row_of pairs c) ≡ true
  row_rises c [] h = refl
  row_rises c (p ∷ ps) h =
      let parts = and_parts (list_all (keyed_before p) ps) (is_rising keyed_before ps) h in
      elim (cases_Bool (p.0 == c)) [
        | inl here ↦ ap (λ qs. is_rising tie (map (λ (q : ℕ × X). q.1) qs)) (cond-true _ _ _ here) ∙ and_from (list_all (tie p.1) (row_of ps c)) _ (row_later p.1 c ps (subst (λ n. list_all (keyed_before (n, p.1)) ps ≡ true) (eqb-true p.0 c here) parts.0)) (row_rises c ps parts.1)
        | inr other ↦ ap (λ qs. is_rising tie (map (λ (q : ℕ × X). q.1) qs)) (cond-false _ _ _ other) ∙ row_rises c ps parts.1
      ]
