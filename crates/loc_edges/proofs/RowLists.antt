-- Rows in one list, as a row is started and as the last row grows.
use Rattle.std.proofs.Common.{◌≡◌, ℕ, zero, suc, ◌+◌, ◌-◌, ◌<◌, ◌≤◌, Some, List, [], ◌∷◌, ◌++◌, length, get_or, set, map, drop, replicate, refl, sym, ◌∙◌, ap, subst, inl, inr, arith, rules, length-append}
use Rattle.std.specs.Prelude.{Result, Ok, Err, OnOk, is_ok, if◌then◌else◌}
use Rattle.std.specs.List.{between, slice_get}
use Rattle.std.proofs.lemmas.Bool.{cases_lt, cases_eq}
use Rattle.std.proofs.lemmas.List.{get_or_at, set_at, get_or_default, get_or_past, get_or_append_left, get_or-append_right, get_or-replicate, length-replicate, length-set, get_or-set_same, get_or-set_other, same_lists, take-append-le, drop-append-le}
use Rattle.std.proofs.lemmas.List.FromFn.{length-map-range_with_len, get_or-map-range_with_len}
use Rattle.std.proofs.{lemmas.Option.slice_get-get_or, lemmas.Slice.between_is, lemmas.Slice.between_to_end}
use Rattle.loc_spec_plane.specs.Lists.{numbers}
use Rattle.loc_edges.specs.RowLists.{start_of, row_at, rows_of, AreStarts}

-- two functions that agree at each member
pub map_alike : {X Y : Type 0} (f g : X → Y) (xs : List X) → ((k : ℕ) → (d : X) → k < length xs → f (get_or xs k d) ≡ g (get_or xs k d)) → map f xs ≡ map g xs
map_alike f g [] h = refl
map_alike f g (x ∷ xs) h = ap (λ y. y ∷ map f xs) (h 0 x (omega arith)) ∙ ap (λ ys. g x ∷ ys) (map_alike f g xs (λ k d lt. h (suc k) d (omega arith)))

-- a list that a call changes only where it succeeds
pub on_ok : {A E P Q : Type 0} (r : Result A E) → (P → Q) → OnOk r P → OnOk r Q
on_ok (Ok a) f h = f h
on_ok (Err e) f h = tt

pub is_changed : {A E X : Type 0} (r : Result A E) (xs changed old : List X) → xs ≡ (if is_ok r then changed else old) → OnOk r (xs ≡ changed)
is_changed (Ok a) xs changed old is = is
is_changed (Err e) xs changed old is = tt

pub in_both : {A E X : Type 0} (P : List X → Type 0) (r : Result A E) (xs changed old : List X) → xs ≡ (if is_ok r then changed else old) → P changed → P old → P xs
in_both P (Ok a) xs changed old is new were = subst P (sym is) new
in_both P (Err e) xs changed old is new were = subst P (sym is) were

-- a new row, and items in it
pub rows_put : {X : Type 0} (rows started grown : List (List X)) (row : List X) → started ≡ rows ++ [] ∷ [] → grown ≡ set started (length started - 1) (get_or started (length started - 1) [] ++ row) → grown ≡ rows ++ row ∷ []
rows_put {X} rows started grown row started_is grown_is =
    let place : length rows ≡ length started - 1 = omega (arith, ap length started_is, length-append rows ([] ∷ [])) in
    let empty : get_or started (length started - 1) [] ≡ [] = ap (λ rs. get_or rs (length started - 1) []) started_is ∙ get_or_at rows [] [] [] (length started - 1) place in
    grown_is
    ∙ (ap (λ r. set started (length started - 1) (r ++ row)) empty
    ∙ (ap (λ rs. set rs (length started - 1) row) started_is
    ∙ set_at rows [] [] row (length started - 1) place))

-- another function at one number
pub set_number : {X : Type 0} (f g : ℕ → X) (count c : ℕ) → c < count → ((n : ℕ) → (n ≡ c → ⊥) → n < count → f n ≡ g n) → set (map f (numbers count)) c (g c) ≡ map g (numbers count)
set_number {X} f g count c fits others = same_lists _ _ (omega (arith, length-set (map f (numbers count)) c (g c), length-map-range_with_len f 0 count, length-map-range_with_len g 0 count)) (λ n d lt. at n d (omega (arith, lt, length-set (map f (numbers count)) c (g c), length-map-range_with_len f 0 count)) ∙ sym (get_or-map-range_with_len g 0 count n n d (omega (arith, lt, length-set (map f (numbers count)) c (g c), length-map-range_with_len f 0 count)) (omega arith)))
  where
    at : (n : ℕ) (d : X) → n < count → get_or (set (map f (numbers count)) c (g c)) n d ≡ g n
    at n d lt = elim (cases_eq n c) [
      | inl same ↦ ap (λ k. get_or (set (map f (numbers count)) c (g c)) k d) same ∙ (get_or-set_same (map f (numbers count)) c (g c) d (omega (arith, length-map-range_with_len f 0 count)) ∙ ap g (sym same))
      | inr other ↦ get_or-set_other (map f (numbers count)) c n (g c) d other ∙ (get_or-map-range_with_len f 0 count n n d lt (omega arith) ∙ others n other lt)
    ]

-- a list that goes on by its default
goes_on : {X : Type 0} (xs : List X) (k n : ℕ) (d : X) → get_or (xs ++ replicate k d) n d ≡ get_or xs n d
goes_on [] zero n d = refl
goes_on [] (suc k) zero d = refl
goes_on [] (suc k) (suc n) d = goes_on [] k n d
goes_on (x ∷ xs) k zero d = refl
goes_on (x ∷ xs) k (suc n) d = goes_on xs k n d

module _ {X : Type 0} (items : List X) (starts : List ℕ) where
  -- ---- the rows
  pub length-rows_of : length (rows_of items starts) ≡ length starts
  length-rows_of = length-map-range_with_len (row_at items starts) 0 (length starts)

  pub slice_get-rows_of : (n : ℕ) → n < length starts → slice_get (rows_of items starts) n ≡ Some (row_at items starts n)
  slice_get-rows_of n lt = slice_get-get_or (rows_of items starts) n [] (omega (arith, length-rows_of)) ∙ ap Some (get_or-map-range_with_len (row_at items starts) 0 (length starts) n n [] lt (omega arith))

  -- ---- more rows, that start at the end
  start-started : (k n : ℕ) → start_of items (starts ++ replicate k (length items)) n ≡ start_of items starts n
  start-started k n = goes_on starts k n (length items)

  -- the rows still start in order
  pub are_starts-started : (k : ℕ) → AreStarts items starts → AreStarts items (starts ++ replicate k (length items))
  are_starts-started k h = record {
    in_order = λ n. omega (arith, h.in_order n, start-started k n, start-started k (n + 1));
    within = λ n. omega (arith, h.within n, start-started k n);
  }

  -- rows of all such starts, as far as the old ones go and behind them
  row-started : (k n : ℕ) → row_at items (starts ++ replicate k (length items)) n ≡ row_at items starts n
  row-started k n = ap (λ i. between i (start_of items (starts ++ replicate k (length items)) (n + 1)) items) (start-started k n) ∙ ap (λ i. between (start_of items starts n) i items) (start-started k (n + 1))

  no_row : (n : ℕ) → length starts ≤ n → row_at items starts n ≡ []
  no_row n past = ap (λ i. between i (start_of items starts (n + 1)) items) (get_or_past starts n (length items) past) ∙ (ap (λ i. between (length items) i items) (get_or_past starts (n + 1) (length items) (omega arith)) ∙ search rules)

  -- the rows of before and empty ones
  pub rows-started : (k : ℕ) → rows_of items (starts ++ replicate k (length items)) ≡ rows_of items starts ++ replicate k []
  rows-started k = same_lists _ _ (omega (arith, many, length-append (rows_of items starts) (replicate k []), few, length-replicate k no_items)) (λ n d lt. at n d (omega (arith, many)))
    where
      no_items : List X
      no_items = []

      count : length (starts ++ replicate k (length items)) ≡ length starts + k
      count = omega (arith, length-append starts (replicate k (length items)), length-replicate k (length items))

      many : length (rows_of items (starts ++ replicate k (length items))) ≡ length starts + k
      many = length-map-range_with_len (row_at items (starts ++ replicate k (length items))) 0 (length (starts ++ replicate k (length items))) ∙ count

      few : length (rows_of items starts) ≡ length starts
      few = length-map-range_with_len (row_at items starts) 0 (length starts)

      at : (n : ℕ) (d : List X) → n < length starts + k → get_or (rows_of items (starts ++ replicate k (length items))) n d ≡ get_or (rows_of items starts ++ replicate k []) n d
      at n d lt = get_or-map-range_with_len (row_at items (starts ++ replicate k (length items))) 0 (length (starts ++ replicate k (length items))) n n d (omega (arith, count)) (omega arith) ∙ (row-started k n ∙ elim (cases_lt n (length starts)) [
        | inl before ↦ sym (get_or_append_left (rows_of items starts) (replicate k []) d n (omega (arith, few)) ∙ get_or-map-range_with_len (row_at items starts) 0 (length starts) n n d before (omega arith))
        | inr past ↦ no_row n past ∙ sym (get_or-append_right (rows_of items starts) (replicate k []) (length starts) n d few past ∙ get_or-replicate k (n - length starts) [] d (omega arith))
      ])

  -- ---- more items in the last row
  module _ (more : List X) where
    -- a start before the end stays
    start-extended : (n : ℕ) → n < length starts → start_of (items ++ more) starts n ≡ start_of items starts n
    start-extended n lt = get_or_default starts n (length (items ++ more)) (length items) lt

    start_past : (n : ℕ) → length starts ≤ n → start_of (items ++ more) starts n ≡ length items + length more
    start_past n past = get_or_past starts n (length (items ++ more)) past ∙ length-append items more

    -- the rows still start in order
    pub are_starts-extended : AreStarts items starts → AreStarts (items ++ more) starts
    are_starts-extended h = record { in_order = up; within = in_list }
      where
        in_list : (n : ℕ) → start_of (items ++ more) starts n ≤ length (items ++ more)
        in_list n = elim (cases_lt n (length starts)) [
          | inl before ↦ omega (arith, h.within n, start-extended n before, length-append items more)
          | inr past ↦ omega (arith, start_past n past, length-append items more)
        ]

        up : (n : ℕ) → start_of (items ++ more) starts n ≤ start_of (items ++ more) starts (n + 1)
        up n = elim (cases_lt (n + 1) (length starts)) [
          | inl before ↦ omega (arith, h.in_order n, start-extended n (omega arith), start-extended (n + 1) before)
          | inr past ↦ omega (arith, in_list n, start_past (n + 1) past, length-append items more)
        ]

    -- the last row gets them
    pub rows-extended : AreStarts items starts → (last : ℕ) → last + 1 ≡ length starts → rows_of (items ++ more) starts ≡ set (rows_of items starts) last (get_or (rows_of items starts) last [] ++ more)
    rows-extended h last is = sym (ap (set (rows_of items starts) last) (ap (λ row. row ++ more) row ∙ sym grown) ∙ set_number (row_at items starts) (row_at (items ++ more) starts) (length starts) last (omega arith) (λ n other short. sym (stays n (omega (arith, other)))))
      where
        row : get_or (rows_of items starts) last [] ≡ row_at items starts last
        row = get_or-map-range_with_len (row_at items starts) 0 (length starts) last last [] (omega arith) (omega arith)

        stays : (n : ℕ) → n + 1 < length starts → row_at (items ++ more) starts n ≡ row_at items starts n
        stays n lt =
            ap (λ i. between i (start_of (items ++ more) starts (n + 1)) (items ++ more)) (start-extended n (omega arith))
            ∙ (ap (λ i. between (start_of items starts n) i (items ++ more)) (start-extended (n + 1) lt)
            ∙ (between_is (items ++ more) (start_of items starts n) (start_of items starts (n + 1))
            ∙ (ap (drop (start_of items starts n)) (take-append-le (start_of items starts (n + 1)) items more (h.within (n + 1)))
            ∙ sym (between_is items (start_of items starts n) (start_of items starts (n + 1))))))

        grown : row_at (items ++ more) starts last ≡ row_at items starts last ++ more
        grown =
            ap (λ i. between i (start_of (items ++ more) starts (last + 1)) (items ++ more)) (start-extended last (omega arith))
            ∙ (between_to_end (items ++ more) (start_of items starts last) (start_of (items ++ more) starts (last + 1)) (omega (arith, start_past (last + 1) (omega arith), length-append items more))
            ∙ (drop-append-le (start_of items starts last) items more (h.within last)
            ∙ ap (λ xs. xs ++ more) (sym (between_to_end items (start_of items starts last) (start_of items starts (last + 1)) (omega (arith, get_or_past starts (last + 1) (length items) (omega arith)))))))
