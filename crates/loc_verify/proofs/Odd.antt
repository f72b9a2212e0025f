-- How often a number stands in a list, odd or even; and how many of the edges at a corner a feature marks odd.
use Rattle.std.proofs.Common.{◌≡◌, ℕ, zero, suc, ◌+◌, ◌-◌, ◌<◌, ◌≤◌, Bool, true, false, not, ◌&&◌, ◌||◌, List, [], ◌∷◌, ◌++◌, length, get_or, take, filter, refl, sym, ◌∙◌, ap, subst, inl, inr, arith, cond}
use Rattle.std.specs.Prelude.{Option, Some, None, IsTrue, count_by, ◌==◌}
use Rattle.std.specs.{List.list_all, List.range_with_len, List.Sorted.IsPermutation}
use Rattle.std.proofs.lemmas.Bool.{and_left, and_parts, cases_Bool, cases_eq, cond-false, cond-true, eq-eqb, eqb-true, ltb-true, ne_eqb, or_from}
use Rattle.std.proofs.{lemmas.List.Sorted.sum_by-IsPermutation, lemmas.List.Sums.sum_by-append}
use Rattle.loc_spec_plane.specs.{declared.Mark.Mark, Lists.exactly_one, Lists.is_rising, Lists.odd_many}
use Rattle.loc_spec_plane.specs.Tables.{Table, IsEvenAt, IsTable, edge_numbers, ends_at, has_odd, hi_of, lo_of, mark_before}
use Rattle.loc_laws_rays.proofs.Parity.{exactly_one_assoc, exactly_one_comm, exactly_one-false, exactly_one_same, never, odd_many-append, odd_many-exactly_one, odd_many-take_more}
use Rattle.loc_laws_order.proofs.Booleans.{and_true}
use Rattle.loc_cover.specs.Exchanges.{is_marked_odd}
use Rattle.loc_edges.specs.Ending.{IsBeginning}
use Rattle.loc_verify.specs.Least.{IsLeastOdd, IsLeastUneven, has_odd_from, is_odd_at, is_odd_in}

-- ---- of marks in order an odd one of a feature is the only one
abbrev pub is_of : ℕ → Mark → Bool
is_of f m = (m.feature == f) && m.odd

none_later : (m : Mark) (marks : List Mark) → list_all (mark_before m) marks ≡ true → is_marked_odd marks m.feature ≡ false
none_later m [] all = refl
none_later m (n ∷ marks) all =
    let parts = and_parts (mark_before m n) (list_all (mark_before m) marks) all in
    let less : m.feature < n.feature = ltb-true m.feature n.feature parts.0 in
    or_from _ _ (and_left (n.feature == m.feature) n.odd (ne_eqb n.feature m.feature (λ same. omega (arith, same)))) (none_later m marks parts.1)

pub odd_marks : (f : ℕ) (marks : List Mark) → is_rising mark_before marks ≡ true → is_marked_odd marks f ≡ odd_many (is_of f) marks
odd_marks f [] up = refl
odd_marks f (m ∷ marks) up =
    let parts = and_parts (list_all (mark_before m) marks) (is_rising mark_before marks) up in
    by (is_of f m) refl (odd_marks f marks parts.1) (λ here. (let same : m.feature ≡ f = eqb-true m.feature f (and_parts (m.feature == f) m.odd here).0 in subst (λ k. is_marked_odd marks k ≡ false) same (none_later m marks parts.0)))
  where
    by : (b : Bool) → is_of f m ≡ b → is_marked_odd marks f ≡ odd_many (is_of f) marks → (is_of f m ≡ true → is_marked_odd marks f ≡ false) → (b || is_marked_odd marks f) ≡ exactly_one b (odd_many (is_of f) marks)
    by true is rest none = ap not (sym (none is)) ∙ ap not rest
    by false is rest none = rest

pub odd_step : (o p e : Bool) → exactly_one (exactly_one o p) (exactly_one e false) ≡ exactly_one o (exactly_one (e && true) p)
odd_step o p e = exactly_one_assoc o p (exactly_one e false) ∙ ap (exactly_one o) (exactly_one_comm p (exactly_one e false) ∙ ap (λ x. exactly_one x p) (exactly_one-false e ∙ sym (and_true e)))

pub even_step : (o p e : Bool) → exactly_one o p ≡ exactly_one o (exactly_one (e && false) p)
even_step o p true = refl
even_step o p false = refl

-- one more mark
module _ (old row : List ℕ) (marks : List Mark) (i : ℕ) (d : Mark) (f : ℕ) (fits : i < length marks) (before : is_odd_in f row ≡ exactly_one (is_odd_in f old) (odd_many (is_of f) (take i marks))) where
  more : (b : Bool) → is_of f (get_or marks i d) ≡ b → exactly_one (is_odd_in f old) (exactly_one b (odd_many (is_of f) (take i marks))) ≡ exactly_one (is_odd_in f old) (odd_many (is_of f) (take (i + 1) marks))
  more b is = ap (exactly_one (is_odd_in f old)) (ap (λ b. exactly_one b (odd_many (is_of f) (take i marks))) (sym is) ∙ sym (odd_many-take_more (is_of f) marks i d fits))

  pub adds_odd : (next : List ℕ) → (get_or marks i d).odd ≡ true → next ≡ row ++ (get_or marks i d).feature ∷ [] → is_odd_in f next ≡ exactly_one (is_odd_in f old) (odd_many (is_of f) (take (i + 1) marks))
  adds_odd next odd is =
      ap (is_odd_in f) is ∙ (odd_many-append (λ g. g == f) row ((get_or marks i d).feature ∷ []) ∙ (ap (λ b. exactly_one b (exactly_one ((get_or marks i d).feature == f) false)) before
      ∙ (odd_step (is_odd_in f old) (odd_many (is_of f) (take i marks)) ((get_or marks i d).feature == f) ∙ more (((get_or marks i d).feature == f) && true) (ap (λ b. ((get_or marks i d).feature == f) && b) odd))))

  pub adds_even : (get_or marks i d).odd ≡ false → is_odd_in f row ≡ exactly_one (is_odd_in f old) (odd_many (is_of f) (take (i + 1) marks))
  adds_even even = before ∙ (even_step (is_odd_in f old) (odd_many (is_of f) (take i marks)) ((get_or marks i d).feature == f) ∙ more (((get_or marks i d).feature == f) && false) (ap (λ b. ((get_or marks i d).feature == f) && b) even))

-- ---- edge after edge
abbrev pub GathersOdd : Table → List ℕ → List ℕ → List ℕ → Type 0
GathersOdd t old row es = (f : ℕ) → is_odd_in f row ≡ exactly_one (is_odd_in f old) (odd_many (has_odd t f) es)

parity_more : (o p e : Bool) → exactly_one (exactly_one o p) e ≡ exactly_one o (exactly_one p (exactly_one e false))
parity_more o p e = exactly_one_assoc o p e ∙ ap (λ x. exactly_one o (exactly_one p x)) (sym (exactly_one-false e))

pub parity_none : (o : Bool) → o ≡ exactly_one o false
parity_none o = sym (exactly_one-false o)

pub gathers_odd : (t : Table) (old row next es : List ℕ) (e : ℕ) → GathersOdd t old row es → ((f : ℕ) → is_odd_in f next ≡ exactly_one (is_odd_in f row) (has_odd t f e)) → GathersOdd t old next (es ++ e ∷ [])
gathers_odd t old row next es e before adds f =
    adds f ∙ (ap (λ b. exactly_one b (has_odd t f e)) (before f) ∙ (parity_more (is_odd_in f old) (odd_many (has_odd t f) es) (has_odd t f e) ∙ ap (exactly_one (is_odd_in f old)) (sym (odd_many-append (has_odd t f) es (e ∷ [])))))

-- ---- ranges
same_range : (p q : ℕ → Bool) (a n : ℕ) → ((k : ℕ) → a ≤ k → k < a + n → p k ≡ q k) → odd_many p (range_with_len a n) ≡ odd_many q (range_with_len a n)
same_range p q a zero same = refl
same_range p q a (suc n) same = ap (λ b. exactly_one b (odd_many p (range_with_len (a + 1) n))) (same a (omega arith) (omega arith)) ∙ ap (exactly_one (q a)) (same_range p q (a + 1) n (λ k from to. same k (omega (arith, from)) (omega (arith, to))))

split_range : (a m n : ℕ) → range_with_len a (m + n) ≡ range_with_len a m ++ range_with_len (a + m) n
split_range a zero n = let e : 0 + n ≡ n = omega arith in let f : a ≡ a + 0 = omega arith in ap (range_with_len a) e ∙ ap (λ k. range_with_len k n) f
split_range a (suc m) n =
    let e : suc m + n ≡ suc (m + n) = omega arith in
    let f : (a + 1) + m ≡ a + suc m = omega arith in
    ap (range_with_len a) e ∙ ap (λ xs. a ∷ xs) (split_range (a + 1) m n ∙ ap (λ k. range_with_len (a + 1) m ++ range_with_len k n) f)

module _ (t : Table) (c f : ℕ) where
  -- the edges that begin at a corner are a range
  pub odd_begun : (first past : ℕ) → IsBeginning t c first past → odd_many (has_odd t f) (range_with_len first (past - first)) ≡ odd_many (has_odd_from t lo_of c f) (edge_numbers t)
  odd_begun first past range = sym (ap (odd_many p) whole ∙ (odd_many-append p (range_with_len 0 first) (range_with_len first (past - first) ++ range_with_len past n)
      ∙ (ap (λ b. exactly_one b (odd_many p (range_with_len first (past - first) ++ range_with_len past n))) (outside 0 first (λ k to here. (let r = (range.exact k (omega (arith, to, range.in_order, range.within))).0 here in let low = r.0 in omega (arith, low, to))) (omega (arith, range.in_order, range.within)))
      ∙ (odd_many-append p (range_with_len first (past - first)) (range_with_len past n) ∙ (ap (exactly_one (odd_many p (range_with_len first (past - first)))) (outside past n (λ k to here from. (let l = later k to here in omega (arith, l, from))) (omega (arith, range.within)))
      ∙ (sym (parity_none (odd_many p (range_with_len first (past - first)))) ∙ same_range p (has_odd t f) first (past - first) inside))))))
    where
      p : ℕ → Bool
      p = has_odd_from t lo_of c f

      n : ℕ
      n = length t.ends - past

      later : (k : ℕ) → k < past + n → lo_of t k ≡ c → k < past
      later k to here = let r = (range.exact k (omega (arith, to, range.within))).0 here in r.1

      outside : (a m : ℕ) → ((k : ℕ) → k < a + m → lo_of t k ≡ c → (a ≤ k → ⊥)) → a + m ≤ length t.ends → odd_many p (range_with_len a m) ≡ false
      outside a m none fits = same_range p (λ k. false) a m (λ k from to. and_left (lo_of t k == c) (has_odd t f k) (ne_eqb (lo_of t k) c (λ here. none k to here from))) ∙ never (range_with_len a m)

      whole : edge_numbers t ≡ range_with_len 0 first ++ (range_with_len first (past - first) ++ range_with_len past n)
      whole =
          let e : length t.ends ≡ first + ((past - first) + n) = omega (arith, range.in_order, range.within) in
          let z : 0 + first ≡ first = omega arith in
          let g : first + (past - first) ≡ past = omega (arith, range.in_order) in
          ap (range_with_len 0) e ∙ (split_range 0 first ((past - first) + n) ∙ ap (λ xs. range_with_len 0 first ++ xs) (ap (λ k. range_with_len k ((past - first) + n)) z ∙ (split_range first (past - first) n ∙ ap (λ k. range_with_len first (past - first) ++ range_with_len k n) g)))

      inside : (k : ℕ) → first ≤ k → k < first + (past - first) → p k ≡ has_odd t f k
      inside k from to =
          let less : k < past = omega (arith, from, to) in
          let at : lo_of t k ≡ c = (range.exact k (omega (arith, less, range.within))).1 (from, less) in
          ap (λ b. b && has_odd t f k) (eq-eqb (lo_of t k) c at)

  -- of the members that pass a guard an odd number passes a test
  pub odd-filter : (g p : ℕ → Bool) (ns : List ℕ) → odd_many p (filter g ns) ≡ odd_many (λ n. g n && p n) ns
  odd-filter g p [] = refl
  odd-filter g p (n ∷ ns) = elim (cases_Bool (g n)) [
    | inl kept ↦ ap (odd_many p) (cond-true (g n) (n ∷ filter g ns) (filter g ns) kept) ∙ (ap (exactly_one (p n)) (odd-filter g p ns) ∙ ap (λ b. exactly_one (b && p n) (odd_many (λ n. g n && p n) ns)) (sym kept))
    | inr left ↦ ap (odd_many p) (cond-false (g n) (n ∷ filter g ns) (filter g ns) left) ∙ (odd-filter g p ns ∙ ap (λ b. exactly_one (b && p n) (odd_many (λ n. g n && p n) ns)) (sym left))
  ]

  -- what begins at a corner and what ends there, together
  pub odd_either : IsTable t → exactly_one (odd_many (has_odd_from t lo_of c f) (edge_numbers t)) (odd_many (has_odd_from t hi_of c f) (edge_numbers t)) ≡ is_odd_at t c f
  odd_either ok = sym (odd_many-exactly_one (has_odd_from t lo_of c f) (has_odd_from t hi_of c f) (edge_numbers t)) ∙ same_range (λ e. exactly_one (has_odd_from t lo_of c f e) (has_odd_from t hi_of c f e)) (λ e. ends_at t c e && has_odd t f e) 0 (length t.ends)
      (λ e from to. (let up = (ok.goes_up e (omega (arith, to))).0 in either (lo_of t e == c) (hi_of t e == c) (has_odd t f e) (λ lo hi. (let a = eqb-true (lo_of t e) c lo in let b = eqb-true (hi_of t e) c hi in omega (arith, up, a, b)))))
    where
      either : (a b h : Bool) → (a ≡ true → b ≡ true → ⊥) → exactly_one (a && h) (b && h) ≡ ((a || b) && h)
      either true true h not_both = absurd (not_both refl refl)
      either true false true not_both = refl
      either true false false not_both = refl
      either false b h not_both = refl

-- ---- in another order
is_odd : ℕ → Bool
is_odd zero = false
is_odd (suc n) = not (is_odd n)

odd_count : (p : ℕ → Bool) (xs : List ℕ) → odd_many p xs ≡ is_odd (count_by p xs)
unfolding is_odd
odd_count p [] = refl
odd_count p (x ∷ xs) = ap (exactly_one (p x)) (odd_count p xs) ∙ (by (p x) (count_by p xs) ∙ ap is_odd (sym (sum_by-append (λ y. cond (p y) 1 0) (x ∷ []) xs ∙ (let z : 0 + cond (p x) 1 0 ≡ cond (p x) 1 0 = omega arith in ap (λ n. n + count_by p xs) z))))
  where
    by : (b : Bool) (n : ℕ) → exactly_one b (is_odd n) ≡ is_odd (cond b 1 0 + n)
    by true n = let e : suc n ≡ 1 + n = omega arith in ap is_odd e
    by false n = let e : n ≡ 0 + n = omega arith in ap is_odd e

pub odd_permuted : (f : ℕ) (xs ys : List ℕ) → IsPermutation xs ys → is_odd_in f ys ≡ is_odd_in f xs
odd_permuted f xs ys moved = odd_count (λ g. g == f) ys ∙ (ap is_odd (sum_by-IsPermutation (λ g. cond (g == f) 1 0) xs ys moved) ∙ sym (odd_count (λ g. g == f) xs))

-- ---- the least that stands there an odd number of times
-- the number, where there is one, is this one
abbrev pub is_it : Option ℕ → ℕ → Bool
is_it None f = false
is_it (Some g) f = g == f

-- a number below all from a place on is odd where it is so before the place
even_rest : (row : List ℕ) (i f : ℕ) → ((k : ℕ) → i ≤ k → k < length row → f < get_or row k 0) → is_odd_in f row ≡ is_odd_in f (take i row)
even_rest [] zero f less = refl
even_rest [] (suc i) f less = refl
even_rest (x ∷ xs) zero f less =
    let first : f < x = less 0 (omega arith) (omega arith) in
    ap (λ b. exactly_one b (is_odd_in f xs)) (ne_eqb x f (λ same. omega (arith, same))) ∙ even_rest xs zero f (λ k from fits. less (suc k) (omega arith) (omega (arith, fits)))
even_rest (x ∷ xs) (suc i) f less = ap (exactly_one (x == f)) (even_rest xs i f (λ k from fits. less (suc k) (omega (arith, from)) (omega (arith, fits))))

-- one more number: it is the odd one where there was none, and none is odd where it was the odd one
pub odd_starts : (row : List ℕ) (i : ℕ) (odd next : Option ℕ) → i < length row → ((f : ℕ) → is_odd_in f (take i row) ≡ is_it odd f) → odd ≡ None → next ≡ Some (get_or row i 0) → (f : ℕ) → is_odd_in f (take (i + 1) row) ≡ is_it next f
odd_starts row i odd next fits before none is f =
    odd_many-take_more (λ g. g == f) row i 0 fits ∙ (ap (exactly_one (get_or row i 0 == f)) (before f ∙ ap (λ o. is_it o f) none) ∙ (exactly_one-false (get_or row i 0 == f) ∙ sym (ap (λ o. is_it o f) is)))

pub odd_ends : (row : List ℕ) (i : ℕ) (odd next : Option ℕ) (last : ℕ) → i < length row → ((f : ℕ) → is_odd_in f (take i row) ≡ is_it odd f) → odd ≡ Some last → last ≡ get_or row i 0 → next ≡ None → (f : ℕ) → is_odd_in f (take (i + 1) row) ≡ is_it next f
odd_ends row i odd next last fits before some same is f =
    odd_many-take_more (λ g. g == f) row i 0 fits ∙ (ap (exactly_one (get_or row i 0 == f)) (before f ∙ (ap (λ o. is_it o f) some ∙ ap (λ k. k == f) same)) ∙ (exactly_one_same (get_or row i 0 == f) ∙ sym (ap (λ o. is_it o f) is)))

pub least_found : (row : List ℕ) (i last : ℕ) → ((f : ℕ) → is_odd_in f (take i row) ≡ (last == f)) → ((k : ℕ) → i ≤ k → k < length row → last < get_or row k 0) → IsLeastOdd row (Some last)
least_found row i last odd less = (
  even_rest row i last less ∙ (odd last ∙ eq-eqb last last refl),
  λ g below. even_rest row i g (λ k from fits. (let l = less k from fits in omega (arith, l, below))) ∙ (odd g ∙ ne_eqb last g (λ same. omega (arith, same, below))),
)

pub least_left : (row : List ℕ) (odd : Option ℕ) → ((f : ℕ) → is_odd_in f row ≡ is_it odd f) → IsLeastOdd row odd
least_left row None odd = odd
least_left row (Some g) odd = (odd g ∙ eq-eqb g g refl, λ f below. odd f ∙ ne_eqb g f (λ same. omega (arith, same, below)))

-- ---- corners by the numbers that stand an odd number of times in a row
module _ (t : Table) (corner : ℕ) (row : List ℕ) (is : (f : ℕ) → is_odd_in f row ≡ is_odd_at t corner f) (before : (m : ℕ) → m < corner → IsEvenAt t m) where
  -- the first with one
  pub uneven_there : (f : ℕ) → corner < length t.corners → IsLeastOdd row (Some f) → IsLeastUneven t (Some (corner, f))
  uneven_there f fits least = (fits, sym (is f) ∙ least.0, (λ g less. sym (is g) ∙ least.1 g less), before)

  -- one with none
  pub even_there : IsLeastOdd row None → (m : ℕ) → m < corner + 1 → IsEvenAt t m
  even_there none m less = elim (cases_eq m corner) [
    | inl same ↦ (λ f. subst (λ k. IsTrue (not (is_odd_at t k f))) (sym same) (ap not (sym (is f) ∙ none f)))
    | inr other ↦ before m (omega (arith, less, other))
  ]
