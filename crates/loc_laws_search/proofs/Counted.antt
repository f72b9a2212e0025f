-- Where a point stands among the corners, by the first corner that it is and by how many come before it.
use Rattle.std.proofs.Common.{◌≡◌, ◌≢◌, ℕ, zero, suc, ◌+◌, ◌<◌, ◌≤◌, Bool, true, false, not, ◌&&◌, List, [], ◌∷◌, ◌++◌, length, get_or, refl, sym, ◌∙◌, ap, subst, arith, ◌⊎◌, inl, inr}
use Rattle.std.specs.Prelude.{Some, None, nat_lt, cond, find, count_by, pos}
use Rattle.std.specs.List.{range_with_len, list_all}
use Rattle.std.proofs.lemmas.Bool.{and_parts, both_ways, true≢false, ltb-true, ltb-false, lt-ltb, le-ltb, false_from_ne_true, not_from_false, cases_lt, cases_eq}
use Rattle.std.proofs.lemmas.List.Sums.{sum_by-append, count_by-le-length}
use Rattle.loc_spec_plane.specs.{Points.Point, Points.before, Points.same_point, Lists.is_rising, Places.is_corner_of}
use Rattle.loc_spec_plane.specs.Tables.{Table, IsTable, corner, corner_numbers}
use Rattle.loc_laws_order.proofs.Sides.{before_trans, before_irrefl, same_point-true}
use Rattle.loc_laws_order.proofs.TableOrder.{corner_before}
use Rattle.loc_laws_index.proofs.InRange.{found-passes}
use Rattle.loc_place.specs.Standing.{IsBehind}

-- ---- the first that passes

find-none : (test : ℕ → Bool) (n a : ℕ) → ((k : ℕ) → a ≤ k → k < a + n → test k ≡ false) → find test (range_with_len a n) ≡ None
find-none test zero a h = refl
find-none test (suc n) a h = at (test a) (h a (omega arith) (omega arith)) (find-none test n (a + 1) (λ k from to. h k (omega (arith, from)) (omega (arith, to))))
  where
    at : (b : Bool) → b ≡ false → find test (range_with_len (a + 1) n) ≡ None → cond b (Some a) (find test (range_with_len (a + 1) n)) ≡ None
    at true e r = absurd (true≢false e)
    at false e r = r

find-one : (test : ℕ → Bool) (n a k : ℕ) → a ≤ k → k < a + n → test k ≡ true → ((j : ℕ) → a ≤ j → j < k → test j ≡ false) → find test (range_with_len a n) ≡ Some k
find-one test zero a k from to pass others = absurd (omega (arith, from, to))
find-one test (suc n) a k from to pass others = at (cases_eq k a) (λ other. (let differ : k ≢ a = other in find-one test n (a + 1) k (omega (arith, from)) (omega (arith, to)) pass (λ j f l. others j (omega (arith, f)) l)))
  where
    at : (k ≡ a) ⊎ (k ≡ a → ⊥) → ((k ≡ a → ⊥) → find test (range_with_len (a + 1) n) ≡ Some k) → cond (test a) (Some a) (find test (range_with_len (a + 1) n)) ≡ Some k
    at (inl same) further = ap (λ b. cond b (Some a) (find test (range_with_len (a + 1) n))) (subst (λ j. test j ≡ true) same pass) ∙ ap Some (sym same)
    at (inr other) further =
        let differ : k ≢ a = other in
        ap (λ b. cond b (Some a) (find test (range_with_len (a + 1) n))) (others a (omega arith) (omega (arith, from))) ∙ further other

find-fails : (test : ℕ → Bool) (n a : ℕ) → find test (range_with_len a n) ≡ None → (k : ℕ) → a ≤ k → k < a + n → test k ≡ false
find-fails test zero a h k from to = absurd (omega (arith, from, to))
find-fails test (suc n) a h k from to = at (test a) refl h (λ r other. (let differ : k ≢ a = other in find-fails test n (a + 1) r k (omega (arith, from)) (omega (arith, to))))
  where
    at : (b : Bool) → test a ≡ b → cond b (Some a) (find test (range_with_len (a + 1) n)) ≡ None → (find test (range_with_len (a + 1) n) ≡ None → (k ≡ a → ⊥) → test k ≡ false) → test k ≡ false
    at true e r further = absurd (some-none r)
      where
        some-none : Some a ≡ None → ⊥
        some-none e = cc
    at false e r further = elim (cases_eq k a) [
      | inl same ↦ subst (λ j. test j ≡ false) (sym same) e
      | inr other ↦ further r other
    ]

-- ---- a front that passes

count-cons : {X : Type 0} (test : X → Bool) (x : X) (xs : List X) → count_by test ((x ∷ []) ++ xs) ≡ cond (test x) 1 0 + count_by test xs
count-cons test x xs = sum_by-append (λ y. cond (test y) 1 0) (x ∷ []) xs ∙ (let z : 0 + cond (test x) 1 0 ≡ cond (test x) 1 0 = omega arith in ap (λ n. n + count_by test xs) z)

module _ (p : Point) where
  none-before : (xs : List Point) (x : Point) → before x p ≡ false → list_all (before x) xs ≡ true → (count_by (λ q. before q p) xs ≡ 0) × ((i : ℕ) (d : Point) → i < length xs → before (get_or xs i d) p ≡ false)
  none-before [] x h all = (refl, λ i d lt. absurd (omega (arith, lt)))
  none-before (y ∷ ys) x h all =
      let q = and_parts (before x y) _ all in
      let r = none-before ys x h q.1 in
      let off : before y p ≡ false = false_from_ne_true (before y p) (λ b. both_ways (before x p) h (before_trans x y p q.0 b)) in
      (count-cons (λ z. before z p) y ys ∙ (ap (λ b. cond b 1 0 + count_by (λ z. before z p) ys) off ∙ (let e = r.0 in omega (arith, e))), each off r.1)
    where
      each : before y p ≡ false → ((i : ℕ) (d : Point) → i < length ys → before (get_or ys i d) p ≡ false) → (i : ℕ) (d : Point) → i < length (y ∷ ys) → before (get_or (y ∷ ys) i d) p ≡ false
      each off r zero d lt = off
      each off r (suc i) d lt = r i d (omega (arith, lt))

  -- of rising points those before p are a front
  front-before : (xs : List Point) → is_rising before xs ≡ true → (i : ℕ) (d : Point) → i < length xs → before (get_or xs i d) p ≡ nat_lt i (count_by (λ q. before q p) xs)
  front-before [] h i d lt = absurd (omega (arith, lt))
  front-before (x ∷ xs) h i d lt = by (before x p) refl (and_parts (list_all (before x) xs) _ h) i lt (λ j l. front-before xs (and_parts (list_all (before x) xs) _ h).1 j d l)
    where
      C : ℕ
      C = count_by (λ q. before q p) xs

      later : (n : ℕ) → n ≡ 1 + C → (j : ℕ) → (b : Bool) → b ≡ nat_lt j C → b ≡ nat_lt (suc j) n
      later n e j true is = sym (lt-ltb (suc j) n (let l = ltb-true j C (sym is) in omega (arith, l, e)))
      later n e j false is = sym (le-ltb (suc j) n (let l = ltb-false j C (sym is) in omega (arith, l, e)))

      by : (b : Bool) → before x p ≡ b → (list_all (before x) xs ≡ true) × (is_rising before xs ≡ true) → (i : ℕ) → i < length (x ∷ xs) → ((j : ℕ) → j < length xs → before (get_or xs j d) p ≡ nat_lt j C) → before (get_or (x ∷ xs) i d) p ≡ nat_lt i (count_by (λ q. before q p) (x ∷ xs))
      by true e hs zero lt further = e ∙ sym (lt-ltb 0 (count_by (λ q. before q p) (x ∷ xs)) (let c = count-cons (λ q. before q p) x xs ∙ ap (λ b. cond b 1 0 + C) e in omega (arith, c)))
      by true e hs (suc j) lt further = later (count_by (λ q. before q p) (x ∷ xs)) (count-cons (λ q. before q p) x xs ∙ ap (λ b. cond b 1 0 + C) e) j (before (get_or xs j d) p) (further j (omega (arith, lt)))
      by false e hs i lt further =
          let none = none-before xs x e hs.0 in
          let c : count_by (λ q. before q p) (x ∷ xs) ≡ 0 = count-cons (λ q. before q p) x xs ∙ (ap (λ b. cond b 1 0 + C) e ∙ (let z = none.0 in omega (arith, z))) in
          all i lt none.1 ∙ sym (le-ltb i (count_by (λ q. before q p) (x ∷ xs)) (omega (arith, c)))
        where
          all : (i : ℕ) → i < length (x ∷ xs) → ((i : ℕ) (d : Point) → i < length xs → before (get_or xs i d) p ≡ false) → before (get_or (x ∷ xs) i d) p ≡ false
          all zero lt r = e
          all (suc i) lt r = r i d (omega (arith, lt))

-- ---- in a table

module _ (t : Table) (ok : IsTable t) (p : Point) where
  abbrev passed : ℕ
  passed = count_by (λ c. before c p) t.corners

  -- no corner found: the point stands behind so many
  pub stands-behind : find (is_corner_of t p) (corner_numbers t) ≡ None → IsBehind t p (count_by (λ c. before c p) t.corners)
  stands-behind none = record {
    cornerless = λ n. not_from_false (is_corner_of t p n) (elim (cases_lt n (length t.corners)) [
      | inl less ↦ find-fails (is_corner_of t p) (length t.corners) 0 none n (omega arith) (omega (arith, less))
      | inr past ↦ ap (λ b. b && same_point (corner t n) p) (le-ltb n (length t.corners) past)
    ]);
    within = count_by-le-length (λ c. before c p) t.corners;
    passed = λ c lt. front-before p t.corners ok.corners_rise c (record { x = pos 0; y = pos 0 }) lt;
  }

  pub is-corner : (n : ℕ) → find (is_corner_of t p) (corner_numbers t) ≡ Some n → is_corner_of t p n ≡ true
  is-corner n found = found-passes (is_corner_of t p) (corner_numbers t) n found

  -- a corner that the point is, is found
  pub finds-corner : (n : ℕ) → is_corner_of t p n ≡ true → find (is_corner_of t p) (corner_numbers t) ≡ Some n
  finds-corner n is =
      let parts = and_parts (nat_lt n (length t.corners)) (same_point (corner t n) p) is in
      let fits : n < length t.corners = ltb-true n (length t.corners) parts.0 in
      find-one (is_corner_of t p) (length t.corners) 0 n (omega arith) (omega (arith, fits)) is (λ j from less. false_from_ne_true (is_corner_of t p j) (λ also.
      (let other = and_parts (nat_lt j (length t.corners)) (same_point (corner t j) p) also in
      let same : corner t j ≡ corner t n = same_point-true (corner t j) p other.1 ∙ sym (same_point-true (corner t n) p parts.1) in
      both_ways (before (corner t j) (corner t n)) (ap (λ q. before (corner t j) q) (sym same) ∙ before_irrefl (corner t j)) (corner_before t ok j n less fits))))

  -- a point behind so many corners is none, and so many come before it
  pub finds-none : (n : ℕ) → IsBehind t p n → find (is_corner_of t p) (corner_numbers t) ≡ None
  finds-none n behind = find-none (is_corner_of t p) (length t.corners) 0 (λ k from to. false_from_ne_true (is_corner_of t p k) (λ is. both_ways (not (is_corner_of t p k)) (ap not is) (behind.cornerless k)))

  pub counts-passed : (n : ℕ) → IsBehind t p n → count_by (λ c. before c p) t.corners ≡ n
  counts-passed n behind = same (cases_lt passed n) (cases_lt n passed)
    where
      within : passed ≤ length t.corners
      within = count_by-le-length (λ c. before c p) t.corners

      agree : (c : ℕ) → c < length t.corners → nat_lt c passed ≡ nat_lt c n
      agree c lt = sym (front-before p t.corners ok.corners_rise c (record { x = pos 0; y = pos 0 }) lt) ∙ behind.passed c lt

      same : (passed < n) ⊎ (n ≤ passed) → (n < passed) ⊎ (passed ≤ n) → passed ≡ n
      same (inl less) other =
          let w = behind.within in
          let a = agree passed (omega (arith, less, w)) in
          absurd (both_ways (nat_lt passed n) (sym a ∙ le-ltb passed passed (omega arith)) (lt-ltb passed n less))
      same (inr a) (inl more) =
          let b = agree n (omega (arith, more, within)) in
          absurd (both_ways (nat_lt n n) (le-ltb n n (omega arith)) (sym b ∙ lt-ltb n passed more))
      same (inr a) (inr b) = omega (arith, a, b)
