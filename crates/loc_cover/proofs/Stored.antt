-- A list that is put into a store.
use Rattle.std.proofs.Common.{◌≡◌, ℕ, suc, ◌+◌, ◌<◌, ◌≤◌, true, false, List, [], ◌∷◌, ◌++◌, length, get_or, take, drop, map, refl, sym, ◌∙◌, ap, subst, inl, inr, arith, ◌≢◌, Some, None, Ordering, Less, Equal, Greater}
use Rattle.std.specs.Prelude.{nat_lt, ◌==◌, sum_by}
use Rattle.std.specs.List.{drop-map, insert, list_all, take-map}
use Rattle.std.specs.{BTreeMap.insert_entry, Map.lookup, Cmp.Lexicographic.slice_cmp}
use Rattle.std.proofs.{Math.Seq.get_or-append_seam, lemmas.List.Edits.length-insert}
use Rattle.std.proofs.lemmas.Bool.{and_parts, and_from, or_from, or_left, or_parts, or_right, true≢false, false_from_ne_true, eq-eqb, lt-ltb, ltb-true, cases_Bool, cases_eq, cond-true, cond-false}
use Rattle.std.proofs.lemmas.List.{get_or_append_left, length-append, length-map, map-append, take-append-drop}
use Rattle.std.proofs.lemmas.List.Sorted.{IsPermutation-insert, list_any-IsPermutation}
use Rattle.std.proofs.lemmas.List.Sums.{sum_by-cons, sum_by-insert}
use Rattle.std.specs.Ordering.{MatchOrdering, is_eq, match_ordering, nat_cmp}
use Rattle.loc_spec_plane.specs.{Lists.is_rising, Lists.sorted_set, Lists.with_member, Covers.list_before}
use Rattle.loc_edges.proofs.SortedSet.{rising-sorted_set}
use Rattle.loc_spec_text.specs.Limits.{most_members}
use Rattle.loc_cover.specs.Stores.{StoreRows, IsStore, is_among, lists_in, lists_of}
use Rattle.loc_laws_order.proofs.Sets.{all_joined}
use Rattle.loc_cover.proofs.Exchanging.{all_below, all_parts}
use Rattle.loc_cover.proofs.Lexicographic.{lists_by_before, lists_ranked, sorted_set-rising}

-- ---- how many lists there are
no_empty : (x : List ℕ) (xs : List (List ℕ)) → list_all (list_before x) xs ≡ true → length xs ≤ sum_by length xs
no_empty x [] h = omega arith
no_empty x ([] ∷ xs) h = absurd (true≢false (sym (and_parts (list_before x []) (list_all (list_before x) xs) h).0))
no_empty x ((y ∷ ys) ∷ xs) h =
    let rest = no_empty x xs (and_parts (list_before x (y ∷ ys)) (list_all (list_before x) xs) h).1 in
    let cons = sum_by-cons length (y ∷ ys) xs in omega arith

-- of lists that rise the first alone may be empty
pub few_lists : (xs : List (List ℕ)) → is_rising list_before xs ≡ true → length xs ≤ 1 + sum_by length xs
few_lists [] h = omega arith
few_lists (x ∷ xs) h =
    let rest = no_empty x xs (and_parts (list_all (list_before x) xs) (is_rising list_before xs) h).0 in
    let cons = sum_by-cons length x xs in omega arith

-- ---- maps of lists
-- a map over a map
pub map-map : {X Y Z : Type 0} (f : X → Y) (g : Y → Z) (xs : List X) → map g (map f xs) ≡ map (λ x. g (f x)) xs
map-map f g [] = refl
map-map f g (x ∷ xs) = ap (λ zs. g (f x) ∷ zs) (map-map f g xs)

-- a map over a list with one member more
map-insert : {X Y : Type 0} (g : X → Y) (xs : List X) (k : ℕ) (x : X) → map g (insert xs k x) ≡ insert (map g xs) k (g x)
map-insert g xs k x = map-append g (take k xs) (x ∷ drop k xs) ∙ cc (take-map g k xs, drop-map g k xs)

-- ---- one more list
-- the rows named are the same where there is one more
rows_more : (rows : List (List ℕ)) (list : List ℕ) (ns : List ℕ) → list_all (λ n. nat_lt n (length rows)) ns ≡ true → lists_in (rows ++ list ∷ []) ns ≡ lists_in rows ns
rows_more rows list [] h = refl
rows_more rows list (n ∷ ns) h =
    let parts = and_parts (nat_lt n (length rows)) (list_all (λ n. nat_lt n (length rows)) ns) h in
    cc (get_or_append_left rows (list ∷ []) [] n (ltb-true n (length rows) parts.0), rows_more rows list ns parts.1)

module _ (s : StoreRows) (list : List ℕ) (k : ℕ) (stands : IsStore s) (fits : k ≤ length s.order) (at : with_member list_before list (lists_of s) ≡ insert (lists_of s) k list) where
  -- the lists with the new one at its place
  lists_put : lists_in (s.rows ++ list ∷ []) (insert s.order k (length s.rows)) ≡ insert (lists_of s) k list
  lists_put =
      map-insert (λ n. get_or (s.rows ++ list ∷ []) n []) s.order k (length s.rows)
      ∙ (ap (λ xs. insert xs k (get_or (s.rows ++ list ∷ []) (length s.rows) [])) (rows_more s.rows list s.order stands.within) ∙ ap (insert (lists_of s) k) (get_or-append_seam s.rows list [] []))

  -- they are the sorted set of the lists and the new one
  pub set_put : insert (lists_of s) k list ≡ sorted_set list_before (list ∷ lists_of s)
  set_put = sym (ap (with_member list_before list) (sorted_set-rising lists_by_before (lists_of s) stands.rising) ∙ at)

  -- where there is room the store stands
  pub put_stands : s.members + length list ≤ most_members → IsStore (record { rows = s.rows ++ list ∷ []; lists = insert s.lists k list; order = insert s.order k (length s.rows); members = s.members + length list })
  put_stands room =
      let many = length-append s.rows (list ∷ []) in
      let old = all_below _ (length s.rows + 1) s.order (omega arith) stands.within in
      let parts = all_parts (λ m. nat_lt m (length s.rows + 1)) (take k s.order) (drop k s.order) (ap (list_all (λ m. nat_lt m (length s.rows + 1))) (take-append-drop k s.order) ∙ old) in
      record {
        rising = ap (is_rising list_before) (lists_put ∙ set_put) ∙ rising-sorted_set lists_by_before (list ∷ lists_of s);
        named = ap (λ xs. insert xs k list) stands.named ∙ sym lists_put;
        as_many = length-insert s.order k (length s.rows) fits ∙ (ap (λ n. n + 1) stands.as_many ∙ sym many);
        within = subst (λ n. list_all (λ m. nat_lt m n) (insert s.order k (length s.rows)) ≡ true) (sym many)
            (all_joined (λ m. nat_lt m (length s.rows + 1)) (take k s.order) (length s.rows ∷ drop k s.order) parts.0 (and_from _ _ (lt-ltb (length s.rows) (length s.rows + 1) (omega arith)) parts.1));
        placed = λ n lt. sym (list_any-IsPermutation (λ m. m == n) (length s.rows ∷ s.order) _ (IsPermutation-insert s.order k (length s.rows))) ∙ elim (cases_eq n (length s.rows)) [
          | inl same ↦ or_left (length s.rows == n) _ (eq-eqb (length s.rows) n (sym same))
          | inr other ↦ (let ne : n ≢ length s.rows = other in or_right (length s.rows == n) _ (stands.placed n (omega (arith, lt, many))))
        ];
        counted = ap (λ n. n + length list) stands.counted ∙ (sym (sum_by-insert length (lists_of s) k list) ∙ ap (sum_by length) (sym lists_put));
        few = room;
      }

  -- where there is none the lists are too long together
  pub put_past : most_members < s.members + length list → most_members < sum_by length (sorted_set list_before (list ∷ lists_of s))
  put_past past = (let sum : sum_by length (sorted_set list_before (list ∷ lists_of s)) ≡ s.members + length list = ap (sum_by length) (sym set_put) ∙ (sum_by-insert length (lists_of s) k list ∙ ap (λ n. n + length list) (sym stands.counted)) in omega arith)

-- there are not many rows
pub few_rows : (s : StoreRows) → IsStore s → length s.rows ≤ 16777217
few_rows s stands = let few = few_lists (lists_of s) stands.rising in let size = length-map s.order (λ n. get_or s.rows n []) in omega (arith, few, size, stands.as_many, stands.counted, stands.few)

-- ---- the number of a list
-- two lists that compare as equal are one
pub equal_is : (xs ys : List ℕ) → slice_cmp nat_cmp xs ys ≡ Equal → xs ≡ ys
equal_is xs ys h = subst (λ r. MatchOrdering r (list_before xs ys ≡ true) (xs ≡ ys) (list_before ys xs ≡ true)) h (lists_ranked xs ys)

is_equal : (r : Ordering) → is_eq r ≡ true → r ≡ Equal
is_equal Less h = absurd cc
is_equal Equal h = refl
is_equal Greater h = absurd cc

module _ {K : Type 0} (f : K → List ℕ) (list : List ℕ) where
  -- a list that the entries have no number for is none of their lists
  pub is_new : (es : List (K × ℕ)) → lookup (λ x. is_eq (slice_cmp nat_cmp list (f x))) es ≡ None → is_among list (map (λ e. f e.0) es) ≡ false
  is_new [] h = refl
  is_new (e ∷ es) h = elim (cases_Bool (is_eq (slice_cmp nat_cmp list (f e.0)))) [
    | inl here ↦ absurd (let some = cond-true _ (Some e.1) (lookup (λ x. is_eq (slice_cmp nat_cmp list (f x))) es) here in cc (some, h))
    | inr other ↦ or_from _ _ other (is_new es (sym (cond-false _ _ _ other) ∙ h))
  ]

  -- the number that the entries have for a list is that of its row
  pub number_is : (es : List (K × ℕ)) (rows : List (List ℕ)) (n : ℕ) → map (λ e. f e.0) es ≡ lists_in rows (map (λ e. e.1) es) → list_all (λ m. nat_lt m (length rows)) (map (λ e. e.1) es) ≡ true → lookup (λ x. is_eq (slice_cmp nat_cmp list (f x))) es ≡ Some n → (n < length rows) × (get_or rows n [] ≡ list)
  number_is [] rows n named within h = absurd cc
  number_is (e ∷ es) rows n named within h =
      let parts = and_parts (nat_lt e.1 (length rows)) (list_all (λ m. nat_lt m (length rows)) (map (λ e. e.1) es)) within in
      elim (cases_Bool (is_eq (slice_cmp nat_cmp list (f e.0)))) [
        | inl here ↦ (let at : e.1 ≡ n = (let some = cond-true _ (Some e.1) (lookup (λ x. is_eq (slice_cmp nat_cmp list (f x))) es) here in cc (some, h)) in
            let same = equal_is list (f e.0) (is_equal (slice_cmp nat_cmp list (f e.0)) here) in
            (subst (λ m. m < length rows) at (ltb-true e.1 (length rows) parts.0), cc (at, same, named)))
        | inr other ↦ number_is es rows n (cc) parts.1 (sym (cond-false _ _ _ other) ∙ h)
      ]

-- the entry of a new key goes to place k, and the set of the lists has its list there too
pub record IsPut {K : Type 0} (f : K → List ℕ) (key : K) (n : ℕ) (es : List (K × ℕ)) (k : ℕ) : Type 0 where
  pub fits : k ≤ length es
  pub entries : insert_entry (λ x y. slice_cmp nat_cmp (f x) (f y)) es key n ≡ insert es k (key, n)
  pub lists : with_member list_before (f key) (map (λ e. f e.0) es) ≡ insert (map (λ e. f e.0) es) k (f key)

module _ {K : Type 0} (f : K → List ℕ) (key : K) (n : ℕ) where
  -- the entries, by how the key compares to the first
  first_put : (e : K × ℕ) (es : List (K × ℕ)) (r : Ordering) → slice_cmp nat_cmp (f key) (f e.0) ≡ r → insert_entry (λ x y. slice_cmp nat_cmp (f x) (f y)) (e ∷ es) key n ≡ match_ordering r ((key, n) ∷ e ∷ es) ((e.0, n) ∷ es) (e ∷ insert_entry (λ x y. slice_cmp nat_cmp (f x) (f y)) es key n)
  first_put e es r h = ap (λ o. match_ordering o ((key, n) ∷ e ∷ es) ((e.0, n) ∷ es) (e ∷ insert_entry (λ x y. slice_cmp nat_cmp (f x) (f y)) es key n)) h

  -- a new key has such a place before the first entry, or behind it
  first_at : (e : K × ℕ) (es : List (K × ℕ)) (r : Ordering) → slice_cmp nat_cmp (f key) (f e.0) ≡ r → MatchOrdering r (list_before (f key) (f e.0) ≡ true) (f key ≡ f e.0) (list_before (f e.0) (f key) ≡ true) → is_eq (slice_cmp nat_cmp (f key) (f e.0)) ≡ false → (k : ℕ) × IsPut f key n es k → (k : ℕ) × IsPut f key n (e ∷ es) k
  first_at e es Less is before new rest = (0, record { fits = omega arith; entries = first_put e es Less is; lists = cond-true _ _ _ before })
  first_at e es Equal is same new rest = absurd (true≢false (sym (ap is_eq is) ∙ new))
  first_at e es Greater is behind new rest = (
    suc rest.0,
    record {
      fits = (let le = rest.1.fits in omega arith);
      entries = first_put e es Greater is ∙ ap (λ xs. e ∷ xs) rest.1.entries;
      lists = cond-false _ _ _ (false_from_ne_true (list_before (f key) (f e.0)) (λ h. lists_by_before.asym (f key) (f e.0) h behind)) ∙ (cond-true _ _ _ behind ∙ ap (λ xs. f e.0 ∷ xs) rest.1.lists);
    },
  )

  -- so it has one
  pub put_at : (es : List (K × ℕ)) → is_among (f key) (map (λ e. f e.0) es) ≡ false → (k : ℕ) × IsPut f key n es k
  put_at [] new = (0, record { fits = omega arith; entries = refl; lists = refl })
  put_at (e ∷ es) new =
      let parts = or_parts (is_eq (slice_cmp nat_cmp (f key) (f e.0))) (is_among (f key) (map (λ e. f e.0) es)) new in
      first_at e es (slice_cmp nat_cmp (f key) (f e.0)) refl (lists_ranked (f key) (f e.0)) parts.0 (put_at es parts.1)

-- ---- the entry of a new list
-- a store with these rows and these entries
abbrev pub stored : {K : Type 0} → (K → List ℕ) → List (List ℕ) → List (K × ℕ) → ℕ → StoreRows
stored f rows es members = record { rows = rows; lists = map (λ e. f e.0) es; order = map (λ e. e.1) es; members = members }

module _ {K : Type 0} (f : K → List ℕ) (key : K) (rows : List (List ℕ)) (es : List (K × ℕ)) (members : ℕ) (stands : IsStore (stored f rows es members)) (new : is_among (f key) (map (λ e. f e.0) es) ≡ false) where
  place : (k : ℕ) × IsPut f key (length rows) es k
  place = put_at f key (length rows) es new

  fits : place.0 ≤ length (map (λ e. e.1) es)
  fits = (let le = place.1.fits in let size = length-map es (λ e. e.1) in omega arith)

  at : with_member list_before (f key) (lists_of (stored f rows es members)) ≡ insert (lists_of (stored f rows es members)) place.0 (f key)
  at = subst (λ xs. with_member list_before (f key) xs ≡ insert xs place.0 (f key)) stands.named place.1.lists

  -- where there is room the store stands
  pub entry_stands : members + length (f key) ≤ most_members → IsStore (stored f (rows ++ f key ∷ []) (insert_entry (λ x y. slice_cmp nat_cmp (f x) (f y)) es key (length rows)) (members + length (f key)))
  entry_stands room =
      let build : List (List ℕ) → List ℕ → StoreRows = λ lists order. record { rows = rows ++ f key ∷ []; lists = lists; order = order; members = members + length (f key) } in
      let lists = map-insert (λ e. f e.0) es place.0 (key, length rows) in
      let order = map-insert (λ e. e.1) es place.0 (key, length rows) in
      subst (λ fs. IsStore (stored f (rows ++ f key ∷ []) fs (members + length (f key)))) (sym place.1.entries)
      (subst IsStore (sym (ap (λ xs. build xs (map (λ e. e.1) (insert es place.0 (key, length rows)))) lists ∙ ap (build (insert (map (λ e. f e.0) es) place.0 (f key))) order))
      (put_stands (stored f rows es members) (f key) place.0 stands fits at room))

  -- where there is none the lists are too long together
  pub entry_past : most_members < members + length (f key) → most_members < sum_by length (sorted_set list_before (f key ∷ lists_of (stored f rows es members)))
  entry_past past = put_past (stored f rows es members) (f key) place.0 stands fits at past
