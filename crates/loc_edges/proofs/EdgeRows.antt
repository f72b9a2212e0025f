-- Sorted segments cut into one row for each edge, as one more segment comes.
use Rattle.std.proofs.Common.{◌≡◌, ℕ, ◌+◌, ◌-◌, ◌<◌, Bool, true, false, not, ◌||◌, List, [], ◌∷◌, ◌++◌, length, get_or, set, take, map, refl, sym, ◌∙◌, ap, subst, inl, inr, arith, append-nil, length-append}
use Rattle.std.specs.{Bool.Decides, List.Sorted.IsSortedBy, List.list_any, List.dedup, List.dedup_from}
use Rattle.std.proofs.lemmas.Bool.{cases_Bool, cases_eq, cond-true, cond-false, false_from_ne_true, both_ways}
use Rattle.std.proofs.lemmas.List.{map-append, take-map, take_more, length-map, length-take, get_or-map, get_or-take, get_or_append_left, get_or_push, get_or_at, set_at}
use Rattle.std.proofs.{lemmas.List.Sorted.IsPermutation-refl, lemmas.List.Folds.list_any_none}
use Rattle.loc_spec_plane.specs.{Points.Edge, Points.same_edge, Points.edge_before, Lists.is_rising, Lists.sorted_set}
use Rattle.loc_laws_order.proofs.{Tests.same_edge_decides, TableOrder.rises}
use Rattle.loc_edges.specs.Tagged.{segments_in, features_of}
use Rattle.loc_edges.proofs.{MarkRows.features_of-append, RowLists.map_alike, Tagged.is_sorted}
use Rattle.loc_laws_noding.proofs.Orders.{edges_by_before}
use Rattle.loc_laws_noding.proofs.SortedSet.{irrefl, any-dedup, rising-dedup, sorted_set-dedup}

-- ---- equal neighbours dropped from a list that grows
module _ {X : Type 0} (E : X → X → Bool) (exact : (x y : X) → Decides (E x y) (x ≡ y)) where
  again_from : (k : X) (xs : List X) (y x : X) → E x y ≡ true → dedup_from E k ((xs ++ y ∷ []) ++ x ∷ []) ≡ dedup_from E k (xs ++ y ∷ [])
  again_from k [] y x same = elim (cases_Bool (E y k)) [
    | inl is ↦ cond-true _ _ _ is ∙ (cond-true _ _ _ (subst (λ z. E x z ≡ true) ((exact y k).0 is) same) ∙ sym (cond-true _ _ _ is))
    | inr other ↦ cond-false _ _ _ other ∙ (ap (λ ys. k ∷ ys) (cond-true _ _ _ same) ∙ sym (cond-false _ _ _ other))
  ]
  again_from k (z ∷ zs) y x same = elim (cases_Bool (E z k)) [
    | inl is ↦ cond-true _ _ _ is ∙ (again_from k zs y x same ∙ sym (cond-true _ _ _ is))
    | inr other ↦ cond-false _ _ _ other ∙ (ap (λ ys. k ∷ ys) (again_from z zs y x same) ∙ sym (cond-false _ _ _ other))
  ]

  fresh_from : (k : X) (xs : List X) (y x : X) → E x y ≡ false → dedup_from E k ((xs ++ y ∷ []) ++ x ∷ []) ≡ dedup_from E k (xs ++ y ∷ []) ++ x ∷ []
  fresh_from k [] y x new = elim (cases_Bool (E y k)) [
    | inl is ↦ cond-true _ _ _ is ∙ (cond-false _ _ _ (subst (λ z. E x z ≡ false) ((exact y k).0 is) new) ∙ ap (λ ys. ys ++ x ∷ []) (sym (cond-true _ _ _ is)))
    | inr other ↦ cond-false _ _ _ other ∙ (ap (λ ys. k ∷ ys) (cond-false _ _ _ new) ∙ ap (λ ys. ys ++ x ∷ []) (sym (cond-false _ _ _ other)))
  ]
  fresh_from k (z ∷ zs) y x new = elim (cases_Bool (E z k)) [
    | inl is ↦ cond-true _ _ _ is ∙ (fresh_from k zs y x new ∙ ap (λ ys. ys ++ x ∷ []) (sym (cond-true _ _ _ is)))
    | inr other ↦ cond-false _ _ _ other ∙ (ap (λ ys. k ∷ ys) (fresh_from z zs y x new) ∙ ap (λ ys. ys ++ x ∷ []) (sym (cond-false _ _ _ other)))
  ]

  last_from : (k : X) (xs : List X) (y : X) → (front : List X) × (dedup_from E k (xs ++ y ∷ []) ≡ front ++ y ∷ [])
  last_from k [] y = elim (cases_Bool (E y k)) [
    | inl is ↦ ([], cond-true _ _ _ is ∙ ap (λ z. z ∷ []) (sym ((exact y k).0 is)))
    | inr other ↦ (k ∷ [], cond-false _ _ _ other)
  ]
  last_from k (z ∷ zs) y = elim (cases_Bool (E z k)) [
    | inl is ↦ (let rest = last_from k zs y in (rest.0, cond-true _ _ _ is ∙ rest.1))
    | inr other ↦ (let rest = last_from z zs y in (k ∷ rest.0, cond-false _ _ _ other ∙ ap (λ ys. k ∷ ys) rest.1))
  ]

  -- a list that ends in y, and x behind it: x is y, or another; what is left ends in y
  pub dedup_again : (xs : List X) (y x : X) → E x y ≡ true → dedup E ((xs ++ y ∷ []) ++ x ∷ []) ≡ dedup E (xs ++ y ∷ [])
  dedup_again [] y x same = cond-true _ _ _ same
  dedup_again (z ∷ zs) y x same = again_from z zs y x same

  pub dedup_fresh : (xs : List X) (y x : X) → E x y ≡ false → dedup E ((xs ++ y ∷ []) ++ x ∷ []) ≡ dedup E (xs ++ y ∷ []) ++ x ∷ []
  dedup_fresh [] y x new = cond-false _ _ _ new
  dedup_fresh (z ∷ zs) y x new = fresh_from z zs y x new

  pub dedup_last : (xs : List X) (y : X) → (front : List X) × (dedup E (xs ++ y ∷ []) ≡ front ++ y ∷ [])
  dedup_last [] y = ([], refl)
  dedup_last (z ∷ zs) y = last_from z zs y

  -- one more member behind the first n
  pub dedup_more : (xs : List X) (n : ℕ) (d : X) (is_new : Bool) (kept grown : List X) → n < length xs → kept ≡ dedup E (take n xs) → (n ≡ 0 → is_new ≡ true) → (0 < n → is_new ≡ not (E (get_or xs n d) (get_or xs (n - 1) d))) → (is_new ≡ true → grown ≡ kept ++ get_or xs n d ∷ []) → (is_new ≡ false → grown ≡ kept)
      → grown ≡ dedup E (take (n + 1) xs)
  dedup_more xs n d is_new kept grown fits are first later new old = elim (cases_eq n 0) [
    | inl zero_is ↦ (let none : take n xs ≡ [] = ap (λ k. take k xs) zero_is in
        new (first zero_is) ∙ (ap (λ ys. ys ++ get_or xs n d ∷ []) (are ∙ ap (dedup E) none) ∙ sym (ap (dedup E) (take_more xs n d fits ∙ ap (λ ys. ys ++ get_or xs n d ∷ []) none))))
    | inr some ↦ (let back : n - 1 + 1 ≡ n = omega (arith, some) in
        let before : take n xs ≡ take (n - 1) xs ++ get_or xs (n - 1) d ∷ [] = ap (λ k. take k xs) (sym back) ∙ take_more xs (n - 1) d (omega arith) in
        let more : take (n + 1) xs ≡ (take (n - 1) xs ++ get_or xs (n - 1) d ∷ []) ++ get_or xs n d ∷ [] = take_more xs n d fits ∙ ap (λ ys. ys ++ get_or xs n d ∷ []) before in
        let said : is_new ≡ not (E (get_or xs n d) (get_or xs (n - 1) d)) = later (omega (arith, some)) in
        elim (cases_Bool (E (get_or xs n d) (get_or xs (n - 1) d))) [
          | inl same ↦ old (said ∙ ap not same) ∙ (are ∙ (ap (dedup E) before ∙ (sym (dedup_again (take (n - 1) xs) (get_or xs (n - 1) d) (get_or xs n d) same) ∙ sym (ap (dedup E) more))))
          | inr other ↦ new (said ∙ ap not other) ∙ (ap (λ ys. ys ++ get_or xs n d ∷ []) (are ∙ ap (dedup E) before) ∙ (sym (dedup_fresh (take (n - 1) xs) (get_or xs (n - 1) d) (get_or xs n d) other) ∙ sym (ap (dedup E) more)))
        ])
  ]

-- so of the edges of segments
pub edges_more : (ts : List (Edge × ℕ)) (n : ℕ) (d : Edge × ℕ) (is_new : Bool) (edges grown : List Edge) → n < length ts → edges ≡ dedup same_edge (segments_in (take n ts)) → (n ≡ 0 → is_new ≡ true) → (0 < n → is_new ≡ not (same_edge (get_or ts n d).0 (get_or ts (n - 1) d).0)) → (is_new ≡ true → grown ≡ edges ++ (get_or ts n d).0 ∷ [])
    → (is_new ≡ false → grown ≡ edges) → grown ≡ dedup same_edge (segments_in (take (n + 1) ts))
edges_more ts n d is_new edges grown fits are first later new old =
    let es : List Edge = segments_in ts in
    let front : (k : ℕ) → segments_in (take k ts) ≡ take k es = λ k. sym (take-map (λ (t : Edge × ℕ). t.0) k ts) in
    let here : get_or es n d.0 ≡ (get_or ts n d).0 = get_or-map (λ (t : Edge × ℕ). t.0) ts n d d.0 fits in
    let last : get_or es (n - 1) d.0 ≡ (get_or ts (n - 1) d).0 = get_or-map (λ (t : Edge × ℕ). t.0) ts (n - 1) d d.0 (omega arith) in
    dedup_more same_edge same_edge_decides es n d.0 is_new edges grown (omega (arith, fits, length-map ts (λ (t : Edge × ℕ). t.0))) (are ∙ ap (dedup same_edge) (front n)) first
    (λ some. later some ∙ sym (ap (λ x. not (same_edge x (get_or es (n - 1) d.0))) here ∙ ap (λ y. not (same_edge (get_or ts n d).0 y)) last))
    (λ yes. new yes ∙ ap (λ x. edges ++ x ∷ []) (sym here)) old
    ∙ sym (ap (dedup same_edge) (front (n + 1)))

-- ---- rows by edge
-- no feature of an edge that no segment is
features_none : (e : Edge) (ts : List (Edge × ℕ)) → list_any (same_edge e) (segments_in ts) ≡ false → features_of ts e ≡ []
features_none e [] none = refl
features_none e (t ∷ ts) none = elim (cases_Bool (same_edge e t.0)) [
  | inl hit ↦ absurd (both_ways _ none (ap (λ b. b || list_any (same_edge e) (segments_in ts)) hit))
  | inr miss ↦ ap (map (λ (t : Edge × ℕ). t.1)) (cond-false _ _ _ miss) ∙ features_none e ts (sym (ap (λ b. b || list_any (same_edge e) (segments_in ts)) miss) ∙ none)
]

module _ (ts : List (Edge × ℕ)) (x : Edge) (f : ℕ) where
  -- the edge gets the feature, and no other does
  pub feature_here : features_of (ts ++ (x, f) ∷ []) x ≡ features_of ts x ++ f ∷ []
  feature_here = features_of-append x ts ((x, f) ∷ []) ∙ ap (λ (us : List (Edge × ℕ)). features_of ts x ++ map (λ (t : Edge × ℕ). t.1) us) (cond-true _ _ _ ((same_edge_decides x x).1 refl))

  feature_elsewhere : (e : Edge) → same_edge e x ≡ false → features_of (ts ++ (x, f) ∷ []) e ≡ features_of ts e
  feature_elsewhere e other = features_of-append e ts ((x, f) ∷ []) ∙ (ap (λ (us : List (Edge × ℕ)). features_of ts e ++ map (λ (t : Edge × ℕ). t.1) us) (cond-false _ _ _ other) ∙ append-nil (features_of ts e))

  module _ (front : List Edge) (up : is_rising edge_before (front ++ x ∷ []) ≡ true) where
    -- an edge before x is another
    other_at : (k : ℕ) (d : Edge) → k < length front → edge_before (get_or front k d) x ≡ true
    other_at k d lt = subst (λ z. edge_before z x ≡ true) (get_or_append_left front (x ∷ []) d k lt) (subst (λ z. edge_before (get_or (front ++ x ∷ []) k d) z ≡ true) (get_or_push front x d (length front) refl) (rises edge_before d (front ++ x ∷ []) k (length front) up lt (omega (arith, length-append front (x ∷ [])))))

    miss_at : (k : ℕ) (d : Edge) → k < length front → same_edge (get_or front k d) x ≡ false
    miss_at k d lt = false_from_ne_true _ (λ same. both_ways _ (irrefl edges_by_before x) (subst (λ z. edge_before z x ≡ true) ((same_edge_decides (get_or front k d) x).0 same) (other_at k d lt)))

    -- the rows in front stay
    front_stays : map (features_of ts) front ≡ map (features_of (ts ++ (x, f) ∷ [])) front
    front_stays = map_alike _ _ front (λ k d lt. sym (feature_elsewhere (get_or front k d) (miss_at k d lt)))

    -- the last row gets the feature
    last_row : (row : List ℕ) → row ≡ features_of ts x → map (features_of ts) front ++ (row ++ f ∷ []) ∷ [] ≡ map (features_of (ts ++ (x, f) ∷ [])) (front ++ x ∷ [])
    last_row row is = ap (λ r. map (features_of ts) front ++ (r ++ f ∷ []) ∷ []) is ∙ (ap (λ r. map (features_of ts) front ++ r ∷ []) (sym feature_here) ∙ (ap (λ rs. rs ++ features_of (ts ++ (x, f) ∷ []) x ∷ []) front_stays ∙ sym (map-append (features_of (ts ++ (x, f) ∷ [])) front (x ∷ []))))

    -- the rows end in the one of x, and that gets the feature
    pub rows_again : (rows grown : List (List ℕ)) → rows ≡ map (features_of ts) (front ++ x ∷ []) → grown ≡ set rows (length rows - 1) (get_or rows (length rows - 1) [] ++ f ∷ []) → grown ≡ map (features_of (ts ++ (x, f) ∷ [])) (front ++ x ∷ [])
    rows_again rows grown are grown_is =
        let parts : rows ≡ map (features_of ts) front ++ features_of ts x ∷ [] = are ∙ map-append (features_of ts) front (x ∷ []) in
        let place : length (map (features_of ts) front) ≡ length rows - 1 = omega (arith, ap length parts, length-append (map (features_of ts) front) (features_of ts x ∷ [])) in
        grown_is
        ∙ (ap (λ rs. set rs (length rows - 1) (get_or rs (length rows - 1) [] ++ f ∷ [])) parts
        ∙ (set_at (map (features_of ts) front) (features_of ts x) [] (get_or (map (features_of ts) front ++ features_of ts x ∷ []) (length rows - 1) [] ++ f ∷ []) (length rows - 1) place
        ∙ last_row _ (get_or_at (map (features_of ts) front) (features_of ts x) [] [] (length rows - 1) place)))

    -- a row of x is new, and gets the feature
    pub rows_fresh : list_any (same_edge x) (segments_in ts) ≡ list_any (same_edge x) front → (rows grown : List (List ℕ)) → rows ≡ map (features_of ts) front ++ [] ∷ [] → grown ≡ set rows (length rows - 1) (get_or rows (length rows - 1) [] ++ f ∷ []) → grown ≡ map (features_of (ts ++ (x, f) ∷ [])) (front ++ x ∷ [])
    rows_fresh as_any rows grown are grown_is = rows_again rows grown (are ∙ (ap (λ r. map (features_of ts) front ++ r ∷ []) (sym none) ∙ sym (map-append (features_of ts) front (x ∷ [])))) grown_is
      where
        none : features_of ts x ≡ []
        none = features_none x ts (as_any ∙ list_any_none (same_edge x) front (λ k d lt. false_from_ne_true _ (λ same. both_ways _ (irrefl edges_by_before x) (subst (λ z. edge_before z x ≡ true) (sym ((same_edge_decides x (get_or front k d)).0 same)) (other_at k d lt)))))

-- ---- one more segment
-- each edge has a row, in order
abbrev pub IsGrouped : List (Edge × ℕ) → List (List ℕ) → Type 0
IsGrouped ts rows = rows ≡ map (features_of ts) (dedup same_edge (segments_in ts))

-- the edges of the segments in front of one more rise with it
abbrev pub IsUp : List (Edge × ℕ) → Type 0
IsUp ts = is_rising edge_before (dedup same_edge (segments_in ts)) ≡ true

-- the last row gets a feature
abbrev pub IsExtended : List (List ℕ) → ℕ → List (List ℕ) → Type 0
IsExtended rows f grown = grown ≡ set rows (length rows - 1) (get_or rows (length rows - 1) [] ++ f ∷ [])

-- the first segment
pub grouped_first : (x : Edge) (f : ℕ) (grown : List (List ℕ)) → IsExtended ([] ∷ []) f grown → IsGrouped ((x, f) ∷ []) grown
grouped_first x f grown is = is ∙ ap (λ (us : List (Edge × ℕ)). map (λ (t : Edge × ℕ). t.1) us ∷ []) (sym (cond-true _ _ _ ((same_edge_decides x x).1 refl)))

module _ (ts : List (Edge × ℕ)) (y : Edge) (g : ℕ) (x : Edge) (f : ℕ) where
  keys : segments_in ((ts ++ (y, g) ∷ []) ++ (x, f) ∷ []) ≡ (segments_in ts ++ y ∷ []) ++ x ∷ []
  keys = map-append (λ (t : Edge × ℕ). t.0) (ts ++ (y, g) ∷ []) ((x, f) ∷ []) ∙ ap (λ es. es ++ x ∷ []) (map-append (λ (t : Edge × ℕ). t.0) ts ((y, g) ∷ []))

  old_keys : segments_in (ts ++ (y, g) ∷ []) ≡ segments_in ts ++ y ∷ []
  old_keys = map-append (λ (t : Edge × ℕ). t.0) ts ((y, g) ∷ [])

  -- the edge of the segment before once more
  pub grouped_again : same_edge x y ≡ true → IsUp ((ts ++ (y, g) ∷ []) ++ (x, f) ∷ []) → (rows grown : List (List ℕ)) → IsGrouped (ts ++ (y, g) ∷ []) rows → IsExtended rows f grown → IsGrouped ((ts ++ (y, g) ∷ []) ++ (x, f) ∷ []) grown
  grouped_again same up rows grown are grown_is =
      let split = dedup_last same_edge same_edge_decides (segments_in ts) y in
      let is : x ≡ y = (same_edge_decides x y).0 same in
      let old : dedup same_edge (segments_in ts ++ y ∷ []) ≡ split.0 ++ x ∷ [] = split.1 ∙ ap (λ e. split.0 ++ e ∷ []) (sym is) in
      let now : dedup same_edge (segments_in ((ts ++ (y, g) ∷ []) ++ (x, f) ∷ [])) ≡ split.0 ++ x ∷ [] = ap (dedup same_edge) keys ∙ (dedup_again same_edge same_edge_decides (segments_in ts) y x same ∙ old) in
      rows_again (ts ++ (y, g) ∷ []) x f split.0 (sym (ap (is_rising edge_before) now) ∙ up) rows grown (are ∙ (ap (λ es. map (features_of (ts ++ (y, g) ∷ [])) (dedup same_edge es)) old_keys ∙ ap (map (features_of (ts ++ (y, g) ∷ []))) old)) grown_is
      ∙ ap (map (features_of ((ts ++ (y, g) ∷ []) ++ (x, f) ∷ []))) (sym now)

  -- another edge
  pub grouped_fresh : same_edge x y ≡ false → IsUp ((ts ++ (y, g) ∷ []) ++ (x, f) ∷ []) → (rows grown : List (List ℕ)) → IsGrouped (ts ++ (y, g) ∷ []) rows → IsExtended (rows ++ [] ∷ []) f grown → IsGrouped ((ts ++ (y, g) ∷ []) ++ (x, f) ∷ []) grown
  grouped_fresh new up rows grown are grown_is =
      let front : List Edge = dedup same_edge (segments_in (ts ++ (y, g) ∷ [])) in
      let now : dedup same_edge (segments_in ((ts ++ (y, g) ∷ []) ++ (x, f) ∷ [])) ≡ dedup same_edge (segments_in (ts ++ (y, g) ∷ [])) ++ x ∷ [] = ap (dedup same_edge) keys ∙ (dedup_fresh same_edge same_edge_decides (segments_in ts) y x new ∙ ap (λ es. dedup same_edge es ++ x ∷ []) (sym old_keys)) in
      rows_fresh (ts ++ (y, g) ∷ []) x f front (sym (ap (is_rising edge_before) now) ∙ up) (sym (any-dedup same_edge (λ a b. (same_edge_decides a b).0) (same_edge x) (segments_in (ts ++ (y, g) ∷ [])))) (rows ++ [] ∷ []) grown (ap (λ rs. rs ++ [] ∷ []) are) grown_is
      ∙ ap (map (features_of ((ts ++ (y, g) ∷ []) ++ (x, f) ∷ []))) (sym now)

-- the front of segments in order is in order
up_front : (ts : List (Edge × ℕ)) (n : ℕ) → IsSortedBy edge_before (segments_in ts) → IsUp (take n ts)
up_front ts n sorted = rising-dedup edges_by_before same_edge same_edge_decides (segments_in (take n ts)) (is_sorted (segments_in (take n ts)) (λ k d low lt.
    (let same : segments_in (take n ts) ≡ take n (segments_in ts) = sym (take-map (λ (t : Edge × ℕ). t.0) n ts) in
    let short : k + 1 < n = omega (arith, lt, length-map (take n ts) (λ (t : Edge × ℕ). t.0), length-take n ts) in
    let long : k + 1 < length (segments_in ts) = omega (arith, lt, length-map (take n ts) (λ (t : Edge × ℕ). t.0), length-take n ts, length-map ts (λ (t : Edge × ℕ). t.0)) in
    let here : get_or (segments_in (take n ts)) k d ≡ get_or (segments_in ts) k d = ap (λ es. get_or es k d) same ∙ get_or-take n (segments_in ts) k d (omega arith) in
    let next : get_or (segments_in (take n ts)) (k + 1) d ≡ get_or (segments_in ts) (k + 1) d = ap (λ es. get_or es (k + 1) d) same ∙ get_or-take n (segments_in ts) (k + 1) d short in
    ap (λ e. edge_before e (get_or (segments_in (take n ts)) k d)) next ∙ (ap (edge_before (get_or (segments_in ts) (k + 1) d)) here ∙ sorted k d low long))))

-- the rows of the front, and the segment behind it
pub grouped_more : (ts : List (Edge × ℕ)) (n : ℕ) (d : Edge × ℕ) (is_new : Bool) (rows started grown : List (List ℕ)) → IsSortedBy edge_before (segments_in ts) → n < length ts → IsGrouped (take n ts) rows → (n ≡ 0 → is_new ≡ true) → (0 < n → is_new ≡ not (same_edge (get_or ts n d).0 (get_or ts (n - 1) d).0)) → (is_new ≡ true → started ≡ rows ++ [] ∷ []) → (is_new ≡ false → started ≡ rows) → IsExtended started (get_or ts n d).1 grown → IsGrouped (take (n + 1) ts) grown
grouped_more ts n d is_new rows started grown sorted fits are first later new old grown_is = elim (cases_eq n 0) [
  | inl zero_is ↦ (let none : take n ts ≡ [] = ap (λ k. take k ts) zero_is in
      let start : started ≡ [] ∷ [] = new (first zero_is) ∙ ap (λ rs. rs ++ [] ∷ []) (are ∙ ap (λ us. map (features_of us) (dedup same_edge (segments_in us))) none) in
      subst (λ us. IsGrouped us grown) (sym (take_more ts n d fits ∙ ap (λ us. us ++ get_or ts n d ∷ []) none)) (grouped_first (get_or ts n d).0 (get_or ts n d).1 grown (subst (λ rs. IsExtended rs (get_or ts n d).1 grown) start grown_is)))
  | inr some ↦ (let back : n - 1 + 1 ≡ n = omega (arith, some) in
      let before : take n ts ≡ take (n - 1) ts ++ get_or ts (n - 1) d ∷ [] = ap (λ k. take k ts) (sym back) ∙ take_more ts (n - 1) d (omega arith) in
      let whole : take (n + 1) ts ≡ (take (n - 1) ts ++ get_or ts (n - 1) d ∷ []) ++ get_or ts n d ∷ [] = take_more ts n d fits ∙ ap (λ us. us ++ get_or ts n d ∷ []) before in
      let up : IsUp ((take (n - 1) ts ++ get_or ts (n - 1) d ∷ []) ++ get_or ts n d ∷ []) = subst IsUp whole (up_front ts (n + 1) sorted) in
      let were : IsGrouped (take (n - 1) ts ++ get_or ts (n - 1) d ∷ []) rows = subst (λ us. IsGrouped us rows) before are in
      let said : is_new ≡ not (same_edge (get_or ts n d).0 (get_or ts (n - 1) d).0) = later (omega (arith, some)) in
      subst (λ us. IsGrouped us grown) (sym whole) (elim (cases_Bool (same_edge (get_or ts n d).0 (get_or ts (n - 1) d).0)) [
        | inl same ↦ grouped_again (take (n - 1) ts) (get_or ts (n - 1) d).0 (get_or ts (n - 1) d).1 (get_or ts n d).0 (get_or ts n d).1 same up rows grown were (subst (λ rs. IsExtended rs (get_or ts n d).1 grown) (old (said ∙ ap not same)) grown_is)
        | inr other ↦ grouped_fresh (take (n - 1) ts) (get_or ts (n - 1) d).0 (get_or ts (n - 1) d).1 (get_or ts n d).0 (get_or ts n d).1 other up rows grown were (subst (λ rs. IsExtended rs (get_or ts n d).1 grown) (new (said ∙ ap not other)) grown_is)
      ]))
]

-- the edges left are those of the sorted set
pub edges_left : (ts : List (Edge × ℕ)) → IsSortedBy edge_before (segments_in ts) → dedup same_edge (segments_in ts) ≡ sorted_set edge_before (segments_in ts)
edges_left ts sorted = sorted_set-dedup edges_by_before same_edge same_edge_decides (segments_in ts) (segments_in ts) (IsPermutation-refl (segments_in ts)) (is_sorted (segments_in ts) sorted)
