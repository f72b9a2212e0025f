-- What a binary search finds in a list in order that has each member once.
use Rattle.std.proofs.Common.{◌≡◌, ℕ, ◌+◌, ◌<◌, Bool, true, false, List, length, get_or, Ok, Err, sym, ◌∙◌, ap, subst, inl, inr, arith, Ordering, Less, Equal, Greater}
use Rattle.std.specs.{Bool.Decides, List.position, List.position_or_len}
use Rattle.std.specs.{List.Sorted.IsBinarySearchResult, List.Sorted.IsNonDecreasingBy, Ordering.ordering_index}
use Rattle.std.specs.Prelude.{unwrap_or, nat_lt}
use Rattle.std.proofs.lemmas.Bool.{both_ways, cases_lt, cond-true, cond-false, false_from_ne_true, lt-ltb, le-ltb}
use Rattle.std.proofs.{lemmas.Cmp.by_ranked, lemmas.List.Sorted.searchable_from_sorted}
use Rattle.std.proofs.lemmas.List.Sums.{position_or_len_is}
use Rattle.loc_spec_plane.specs.Lists.{is_rising}
use Rattle.loc_laws_order.proofs.TableOrder.{rises}
use Rattle.loc_laws_noding.proofs.SortedSet.{IsOrderBy, is_less, irrefl, from_less}

no_less : Less ≡ Equal → ⊥
no_less e = grind arith

no_greater : Greater ≡ Equal → ⊥
no_greater e = grind arith

module _ {X : Type 0} {R : X → X → Ordering} {comes_before : X → X → Bool} (order : IsOrderBy R comes_before) (E : X → X → Bool) (exact : (x y : X) → Decides (E x y) (x ≡ y)) (x : X) (xs : List X) (up : is_rising comes_before xs ≡ true) where
  -- where R answers `Equal` the two are one
  tie : (y : X) → R y x ≡ Equal → y ≡ x
  tie y h = by_ranked _ _ _ (R y x) (order.ranked y x) (λ e _. absurd (no_less (sym e ∙ h))) (λ _ same. same) (λ e _. absurd (no_greater (sym e ∙ h)))

  -- x itself is neither less nor greater than x
  apart : (y : X) → (R y x ≡ Equal → ⊥) → E x y ≡ false
  apart y h = false_from_ne_true (E x y) (λ e. h (by_ranked _ _ _ (R y x) (order.ranked y x)
      (λ _ lt. absurd (both_ways _ (irrefl order y) (subst (λ z. comes_before y z ≡ true) ((exact x y).0 e) lt)))
      (λ is _. is)
      (λ _ gt. absurd (both_ways _ (irrefl order y) (subst (λ z. comes_before z y ≡ true) ((exact x y).0 e) gt)))))

  -- a member before x is another
  other_before : (y : X) → comes_before y x ≡ true → E x y ≡ false
  other_before y h = false_from_ne_true (E x y) (λ e. both_ways _ (irrefl order y) (subst (λ z. comes_before y z ≡ true) ((exact x y).0 e) h))

  -- the answers rise along the list
  searchable : IsNonDecreasingBy (λ y. ordering_index (R y x)) xs
  searchable = searchable_from_sorted order.total (λ y. y) xs x (λ k d low lt. false_from_ne_true _ (λ h. order.asym _ _ (rises comes_before d xs k (k + 1) up (omega arith) lt) (from_less order _ _ (is_less _ h))))

  -- where x stands it stands first
  position_of_member : (i : ℕ) → i < length xs → ((d : X) → get_or xs i d ≡ x) → position_or_len (E x) xs ≡ i
  position_of_member i fits here = position_or_len_is (E x) xs i x (omega arith)
      (λ k lt. other_before (get_or xs k x) (subst (λ z. comes_before (get_or xs k x) z ≡ true) (here x) (rises comes_before x xs k i up lt fits)))
      (λ _. (exact x (get_or xs i x)).1 (sym (here x)))

  -- what is found is x
  pub found_there : (i : ℕ) → IsBinarySearchResult (λ y. R y x) xs (Ok i) → (d : X) → get_or xs i d ≡ x
  found_there i h d = tie (get_or xs i d) (h d)

  -- where nothing is found no member is x
  pub not_there : (i : ℕ) → IsBinarySearchResult (λ y. R y x) xs (Err i) → (k : ℕ) → k < length xs → E x (get_or xs k x) ≡ false
  not_there i h k fits = elim (cases_lt k i) [
    | inl lt ↦ apart (get_or xs k x) (λ e. no_less (sym ((h searchable).0 k x (omega arith) lt) ∙ e))
    | inr ge ↦ apart (get_or xs k x) (λ e. no_greater (sym ((h searchable).1 k x ge fits) ∙ e))
  ]

  -- the place of x by the definition, or 0
  pub place_of_member : (i : ℕ) → i < length xs → ((d : X) → get_or xs i d ≡ x) → i ≡ unwrap_or (position (E x) xs) 0
  place_of_member i fits here =
      let there : position_or_len (E x) xs ≡ i = position_of_member i fits here in
      let within : nat_lt (position_or_len (E x) xs) (length xs) ≡ true = lt-ltb (position_or_len (E x) xs) (length xs) (omega arith) in
      sym (ap (λ o. unwrap_or o 0) (cond-true _ _ _ within) ∙ there)

  pub place_if_found : (i : ℕ) → i < length xs → IsBinarySearchResult (λ y. R y x) xs (Ok i) → i ≡ unwrap_or (position (E x) xs) 0
  place_if_found i fits h = place_of_member i fits (found_there i h)

  pub place_if_not : (i : ℕ) → IsBinarySearchResult (λ y. R y x) xs (Err i) → 0 ≡ unwrap_or (position (E x) xs) 0
  place_if_not i h =
      let nowhere : position_or_len (E x) xs ≡ length xs = position_or_len_is (E x) xs (length xs) x (omega arith) (λ k lt. not_there i h k lt) (λ lt. absurd (omega arith)) in
      let past : nat_lt (position_or_len (E x) xs) (length xs) ≡ false = le-ltb (position_or_len (E x) xs) (length xs) (omega arith) in
      sym (ap (λ o. unwrap_or o 0) (cond-false _ _ _ past))
