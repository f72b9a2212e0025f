-- A feature put between what is less and what is greater, or taken out there.
use Rattle.std.proofs.Common.{◌≡◌, ℕ, zero, suc, ◌+◌, ◌<◌, ◌≤◌, Bool, true, false, not, ◌&&◌, ◌||◌, List, [], ◌∷◌, ◌++◌, length, get_or, take, drop, refl, sym, ◌∙◌, ap, subst, ◌⊎◌, inl, inr, arith, drop-cons, append_assoc, add-one, ◌≢◌}
use Rattle.std.specs.Prelude.{nat_lt, ◌==◌}
use Rattle.std.specs.{List.list_all, List.Sorted.IsNonDecreasingBy}
use Rattle.std.proofs.lemmas.Bool.{and_parts, and_from, and_right, or_from, cases_eq, cases_lt, false_from_ne_true, ltb-true, lt-ltb, eq-eqb, ne_eqb}
use Rattle.std.proofs.lemmas.List.{drop_all, drop-drop, get_or_default, length-drop, take-append-drop}
use Rattle.std.proofs.lemmas.List.Folds.{list_all-append, list_any-append, list_any_more}
use Rattle.loc_spec_plane.specs.{declared.Mark.Mark, Tables.mark_before}
use Rattle.loc_spec_plane.specs.Lists.{exactly_one, is_in, is_rising, IsRisingListOf}
use Rattle.loc_laws_order.proofs.{Sets.all_joined, Sets.all_weaker, Booleans.or_none, TableOrder.rises, Unique.all-at}
use Rattle.loc_laws_rays.proofs.Parity.{exactly_one_assoc}
use Rattle.loc_cover.specs.Exchanges.{IsExchange, is_marked_odd}

-- ---- tests of all members
-- of both parts of a list
pub all_parts : {X : Type 0} (p : X → Bool) (xs ys : List X) → list_all p (xs ++ ys) ≡ true → (list_all p xs ≡ true) × (list_all p ys ≡ true)
all_parts p xs ys h = and_parts (list_all p xs) (list_all p ys) (sym (list_all-append p xs ys) ∙ h)

-- what is below a number is below each greater one
pub all_below : (a b : ℕ) (xs : List ℕ) → a ≤ b → list_all (λ x. nat_lt x a) xs ≡ true → list_all (λ x. nat_lt x b) xs ≡ true
all_below a b xs le h = all_weaker (λ x. nat_lt x a) (λ x. nat_lt x b) (λ x less. lt-ltb x b (let lt : x < a = ltb-true x a less in omega arith)) xs h

-- what is above a number is above each lesser one
all_above : (a b : ℕ) (xs : List ℕ) → a ≤ b → list_all (nat_lt b) xs ≡ true → list_all (nat_lt a) xs ≡ true
all_above a b xs le h = all_weaker (nat_lt b) (nat_lt a) (λ x less. lt-ltb a x (let lt : b < x = ltb-true b x less in omega arith)) xs h

-- the first members pass a test that each place below n passes
pub all_first : (p : ℕ → Bool) (n : ℕ) (xs : List ℕ) → ((k : ℕ) → k < n → k < length xs → p (get_or xs k 0) ≡ true) → list_all p (take n xs) ≡ true
all_first p zero xs each = refl
all_first p (suc n) [] each = refl
all_first p (suc n) (x ∷ xs) each = and_from _ _ (each 0 (omega arith) (omega arith)) (all_first p n xs (λ k lt fits. each (suc k) (omega arith) (omega arith)))

-- a number is none of those below it
not_below_itself : (f : ℕ) (xs : List ℕ) → list_all (λ x. nat_lt x f) xs ≡ true → is_in f xs ≡ false
not_below_itself f xs h = false_from_ne_true _ (λ here. (let lt : f < f = ltb-true f f (all-at (λ x. nat_lt x f) xs f h here) in omega arith))

-- nor of those above it
not_above_itself : (f : ℕ) (xs : List ℕ) → list_all (nat_lt f) xs ≡ true → is_in f xs ≡ false
not_above_itself f xs h = false_from_ne_true _ (λ here. (let lt : f < f = ltb-true f f (all-at (nat_lt f) xs f h here) in omega arith))

-- ---- rising lists
-- the later part of a rising list rises
pub rising_later : (xs ys : List ℕ) → is_rising nat_lt (xs ++ ys) ≡ true → is_rising nat_lt ys ≡ true
rising_later [] ys h = h
rising_later (x ∷ xs) ys h = rising_later xs ys (and_parts (list_all (nat_lt x) (xs ++ ys)) (is_rising nat_lt (xs ++ ys)) h).1

module _ (f : ℕ) where
  -- what is below f, then f, then what is above it
  rising_put : (xs ys : List ℕ) → is_rising nat_lt (xs ++ ys) ≡ true → list_all (λ x. nat_lt x f) xs ≡ true → list_all (nat_lt f) ys ≡ true → is_rising nat_lt (xs ++ f ∷ ys) ≡ true
  rising_put [] ys up low high = and_from _ _ high up
  rising_put (x ∷ xs) ys up low high =
      let ups = and_parts (list_all (nat_lt x) (xs ++ ys)) (is_rising nat_lt (xs ++ ys)) up in
      let lows = and_parts (nat_lt x f) (list_all (λ x. nat_lt x f) xs) low in
      let parts = all_parts (nat_lt x) xs ys ups.0 in
      and_from _ _ (all_joined (nat_lt x) xs (f ∷ ys) parts.0 (and_from _ _ lows.0 parts.1)) (rising_put xs ys ups.1 lows.1 high)

  -- the same without f
  rising_left : (xs ys : List ℕ) → is_rising nat_lt (xs ++ f ∷ ys) ≡ true → is_rising nat_lt (xs ++ ys) ≡ true
  rising_left [] ys up = (and_parts (list_all (nat_lt f) ys) (is_rising nat_lt ys) up).1
  rising_left (x ∷ xs) ys up =
      let ups = and_parts (list_all (nat_lt x) (xs ++ f ∷ ys)) (is_rising nat_lt (xs ++ f ∷ ys)) up in
      let parts = all_parts (nat_lt x) xs (f ∷ ys) ups.0 in
      and_from _ _ (all_joined (nat_lt x) xs ys parts.0 (and_parts (nat_lt x f) (list_all (nat_lt x) ys) parts.1).1) (rising_left xs ys ups.1)

  -- with f between them the members are those of both parts, and f
  in_put : (xs ys : List ℕ) → list_all (λ x. nat_lt x f) xs ≡ true → list_all (nat_lt f) ys ≡ true → (n : ℕ) → is_in n (xs ++ f ∷ ys) ≡ exactly_one (f == n) (is_in n (xs ++ ys))
  in_put xs ys low high n = list_any-append (λ m. m == n) xs (f ∷ ys) ∙ (at (cases_eq f n) ∙ sym (ap (exactly_one (f == n)) (list_any-append (λ m. m == n) xs ys)))
    where
      middle : (a b : Bool) → a ≡ false → b ≡ false → (a || (true || b)) ≡ exactly_one true (a || b)
      middle a b h k = rw (h, k) refl

      at : (f ≡ n) ⊎ (f ≡ n → ⊥) → (is_in n xs || ((f == n) || is_in n ys)) ≡ exactly_one (f == n) (is_in n xs || is_in n ys)
      at (inl same) = rw (eq-eqb f n same) (middle (is_in n xs) (is_in n ys) (subst (λ k. is_in k xs ≡ false) same (not_below_itself f xs low)) (subst (λ k. is_in k ys ≡ false) same (not_above_itself f ys high)))
      at (inr other) = rw (ne_eqb f n other) refl

  -- f is put where it was not
  pub put : (xs ys : List ℕ) → is_rising nat_lt (xs ++ ys) ≡ true → list_all (λ x. nat_lt x f) xs ≡ true → list_all (nat_lt f) ys ≡ true → IsExchange f (xs ++ ys) (xs ++ f ∷ ys)
  put xs ys up low high = record { rising = rising_put xs ys up low high; exact = in_put xs ys low high }

  -- f is taken from where it was
  pub taken : (xs ys : List ℕ) → is_rising nat_lt (xs ++ f ∷ ys) ≡ true → list_all (λ x. nat_lt x f) xs ≡ true → list_all (nat_lt f) ys ≡ true → IsExchange f (xs ++ f ∷ ys) (xs ++ ys)
  taken xs ys up low high = record { rising = rising_left xs ys up; exact = λ n. back (f == n) (is_in n (xs ++ ys)) (is_in n (xs ++ f ∷ ys)) (in_put xs ys low high n) }
    where
      back : (a b c : Bool) → c ≡ exactly_one a b → b ≡ exactly_one a c
      back true true c h = ap not (sym h)
      back true false c h = ap not (sym h)
      back false b c h = sym h

-- ---- one step
module _ (made rest : List ℕ) (f past : ℕ) (up : is_rising nat_lt (made ++ rest) ≡ true) (behind : list_all (λ x. nat_lt x f) made ≡ true)
    (first : (k : ℕ) → k < past → get_or rest k 0 < f) (from : (k : ℕ) → past ≤ k → k < length rest → f ≤ get_or rest k 0) where
  -- the members below f
  abbrev pub low : List ℕ
  low = made ++ take past rest

  low_below : list_all (λ x. nat_lt x f) low ≡ true
  low_below = all_joined (λ x. nat_lt x f) made (take past rest) behind (all_first (λ x. nat_lt x f) past rest (λ k lt fits. lt-ltb _ f (first k lt)))

  cut : low ++ drop past rest ≡ made ++ rest
  cut = append_assoc made (take past rest) (drop past rest) ∙ ap (λ xs. made ++ xs) (take-append-drop past rest)

  cut_rises : is_rising nat_lt (low ++ drop past rest) ≡ true
  cut_rises = ap (is_rising nat_lt) cut ∙ up

  -- where the rest goes on with f, f is left out
  pub leaves : past < length rest → get_or rest past 0 ≡ f → IsExchange f (made ++ rest) (low ++ drop (past + 1) rest)
  leaves fits same =
      let next : drop past rest ≡ f ∷ drop (past + 1) rest = rw (add-one, drop-cons rest past 0 fits, same) refl in
      let rises_on : is_rising nat_lt (low ++ f ∷ drop (past + 1) rest) ≡ true = ap (λ xs. is_rising nat_lt (low ++ xs)) (sym next) ∙ cut_rises in
      subst (λ xs. IsExchange f xs (low ++ drop (past + 1) rest)) (ap (λ xs. low ++ xs) (sym next) ∙ cut)
      (taken f low (drop (past + 1) rest) rises_on low_below (and_parts _ _ (rising_later low (f ∷ drop (past + 1) rest) rises_on)).0)

  -- where it does not, f comes next
  pub gains : (past < length rest → get_or rest past 0 ≡ f → ⊥) → IsExchange f (made ++ rest) ((low ++ f ∷ []) ++ drop past rest)
  gains other = subst (λ xs. IsExchange f (made ++ rest) xs) (sym (append_assoc low (f ∷ []) (drop past rest)))
      (subst (λ xs. IsExchange f xs (low ++ f ∷ drop past rest)) cut (put f low (drop past rest) cut_rises low_below above))
    where
      above : list_all (nat_lt f) (drop past rest) ≡ true
      above = elim (cases_lt past (length rest)) [
        | inl fits ↦ (let next : drop past rest ≡ get_or rest past 0 ∷ drop (past + 1) rest = rw (add-one, drop-cons rest past 0 fits) refl in
            let tail = rising_later low (get_or rest past 0 ∷ drop (past + 1) rest) (ap (λ xs. is_rising nat_lt (low ++ xs)) (sym next) ∙ cut_rises) in
            let less : f < get_or rest past 0 = (let le = from past (omega arith) fits in let ne : get_or rest past 0 ≢ f = other fits in omega arith) in
            ap (list_all (nat_lt f)) next ∙ and_from _ _ (lt-ltb f (get_or rest past 0) less) (all_above f (get_or rest past 0) (drop (past + 1) rest) (omega arith) (and_parts _ _ tail).0))
        | inr le ↦ ap (list_all (nat_lt f)) (drop_all past rest le)
      ]

  -- what was made is at most f
  pub low_up_to : list_all (λ x. nat_lt x (f + 1)) low ≡ true
  low_up_to = all_below f (f + 1) low (omega arith) low_below

  -- also with f behind it
  pub gained_up_to : list_all (λ x. nat_lt x (f + 1)) (low ++ f ∷ []) ≡ true
  gained_up_to = all_joined (λ x. nat_lt x (f + 1)) low (f ∷ []) low_up_to (and_from _ true (lt-ltb f (f + 1) (omega arith)) refl)

-- ---- mark after mark
-- numbers that rise do not fall
pub numbers_rise : (xs : List ℕ) → is_rising nat_lt xs ≡ true → IsNonDecreasingBy (λ n. n) xs
numbers_rise xs up i j d le fits = elim (cases_eq i j) [
  | inl same ↦ (let e : get_or xs i d ≡ get_or xs j d = ap (λ k. get_or xs k d) same in omega arith)
  | inr differ ↦ (let ne : i ≢ j = differ in let less : get_or xs i d < get_or xs j d = ltb-true _ _ (rises nat_lt d xs i j up (omega arith) fits) in omega arith)
]

-- the list with the odd marks exchanged that were looked at
abbrev pub IsExchangedBy : List ℕ → List Mark → List ℕ → Type 0
IsExchangedBy list marks xs = IsRisingListOf nat_lt (λ f. exactly_one (is_marked_odd marks f) (is_in f list)) xs

-- no mark before place i is of the feature at place i
none_before : (marks : List Mark) (d : Mark) (i : ℕ) → is_rising mark_before marks ≡ true → i < length marks → is_marked_odd (take i marks) (get_or marks i d).feature ≡ false
none_before marks d i up fits = none i marks (λ k lt. (let less : (get_or marks k d).feature < (get_or marks i d).feature = ltb-true _ _ (rises mark_before d marks k i up lt fits) in λ same. omega (arith, less, same)))
  where
    f : ℕ
    f = (get_or marks i d).feature

    none : (n : ℕ) (ms : List Mark) → ((k : ℕ) → k < n → (get_or ms k d).feature ≡ f → ⊥) → is_marked_odd (take n ms) f ≡ false
    none zero ms differ = refl
    none (suc n) [] differ = refl
    none (suc n) (m ∷ ms) differ = or_from _ _ (ap (λ b. b && m.odd) (ne_eqb m.feature f (differ 0 (omega arith)))) (none n ms (λ k lt. differ (suc k) (omega arith)))

module _ (list : List ℕ) (marks : List Mark) (d : Mark) (i : ℕ) (up : is_rising mark_before marks ≡ true) (fits : i < length marks) where
  -- an odd mark exchanges its feature
  pub exchanged_more : (xs ys : List ℕ) → IsExchangedBy list (take i marks) xs → (get_or marks i d).odd ≡ true → IsExchange (get_or marks i d).feature xs ys → IsExchangedBy list (take (i + 1) marks) ys
  exchanged_more xs ys before odd step = record {
    rising = step.rising;
    exact = λ n. step.exact n ∙ (ap (exactly_one ((get_or marks i d).feature == n)) (before.exact n)
        ∙ (sym (exactly_one_assoc ((get_or marks i d).feature == n) (is_marked_odd (take i marks) n) (is_in n list))
        ∙ ap (λ b. exactly_one b (is_in n list)) (added n (cases_eq (get_or marks i d).feature n) ∙ sym (list_any_more (λ (m : Mark). (m.feature == n) && m.odd) marks i d fits))));
  }
    where
      added : (n : ℕ) → ((get_or marks i d).feature ≡ n) ⊎ ((get_or marks i d).feature ≡ n → ⊥) → exactly_one ((get_or marks i d).feature == n) (is_marked_odd (take i marks) n) ≡ (is_marked_odd (take i marks) n || (((get_or marks i d).feature == n) && (get_or marks i d).odd))
      added n (inl same) = rw (eq-eqb _ n same, odd, subst (λ k. is_marked_odd (take i marks) k ≡ false) same (none_before marks d i up fits)) refl
      added n (inr other) = rw (ne_eqb _ n other) (sym (or_none (is_marked_odd (take i marks) n)))

  -- another mark exchanges nothing
  pub exchanged_same : (xs : List ℕ) → IsExchangedBy list (take i marks) xs → (get_or marks i d).odd ≡ false → IsExchangedBy list (take (i + 1) marks) xs
  exchanged_same xs before even = record {
    rising = before.rising;
    exact = λ n. before.exact n ∙ ap (λ b. exactly_one b (is_in n list)) (sym (list_any_more (λ (m : Mark). (m.feature == n) && m.odd) marks i d fits ∙ (ap (λ b. is_marked_odd (take i marks) n || b) (and_right ((get_or marks i d).feature == n) (get_or marks i d).odd even) ∙ or_none (is_marked_odd (take i marks) n))));
  }

  -- what is at most the feature of a mark is below that of each later one
  pub behind_later : (xs : List ℕ) → list_all (λ x. nat_lt x ((get_or marks i d).feature + 1)) xs ≡ true → (k : ℕ) → i + 1 ≤ k → k < length marks → list_all (λ x. nat_lt x (get_or marks k d).feature) xs ≡ true
  behind_later xs h k later within = all_below _ _ xs (let less : (get_or marks i d).feature < (get_or marks k d).feature = ltb-true _ _ (rises mark_before d marks i k up (omega arith) within) in omega arith) h

-- the marks before place i are exchanged, so much of the list is done with, and what was made is below the later marks
pub record IsMade (list : List ℕ) (marks : List Mark) (i done : ℕ) (made : List ℕ) : Type 0 where
  pub within : done ≤ length list
  pub behind : (k : ℕ) (d : Mark) → i ≤ k → k < length marks → list_all (λ x. nat_lt x (get_or marks k d).feature) made ≡ true
  pub exchanged : IsExchangedBy list (take i marks) (made ++ drop done list)

module _ (list : List ℕ) (marks : List Mark) (d : Mark) (i done : ℕ) (made : List ℕ) (up : is_rising mark_before marks ≡ true) (fits : i < length marks) (before : IsMade list marks i done made) where
  -- an odd mark is looked at
  pub odd_made : (rest : List ℕ) (more : ℕ) (ys : List ℕ) → rest ≡ drop done list → (get_or marks i d).odd ≡ true → more ≤ length rest → list_all (λ x. nat_lt x ((get_or marks i d).feature + 1)) ys ≡ true
      → IsExchange (get_or marks i d).feature (made ++ rest) (ys ++ drop more rest) → IsMade list marks (i + 1) (done + more) ys
  odd_made rest more ys is odd le behind step = record {
    within = omega (arith, le, ap length is, length-drop done list, before.within);
    behind = λ k g later within. (let same : get_or marks k g ≡ get_or marks k d = get_or_default marks k g d within in subst (λ (m : Mark). list_all (λ x. nat_lt x m.feature) ys ≡ true) (sym same) (behind_later list marks d i up fits ys behind k later within));
    exchanged = subst (λ xs. IsExchangedBy list (take (i + 1) marks) (ys ++ xs)) (ap (drop more) is ∙ drop-drop more done list) (exchanged_more list marks d i up fits (made ++ rest) (ys ++ drop more rest) (subst (λ xs. IsExchangedBy list (take i marks) (made ++ xs)) (sym is) before.exchanged) odd step);
  }

  -- another mark is passed over
  pub even_made : (get_or marks i d).odd ≡ false → IsMade list marks (i + 1) done made
  even_made even = record {
    within = before.within;
    behind = λ k g later within. before.behind k g (omega arith) within;
    exchanged = exchanged_same list marks d i up fits (made ++ drop done list) before.exchanged even;
  }
