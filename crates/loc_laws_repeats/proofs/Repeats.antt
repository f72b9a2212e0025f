-- A list in order: the first member that stands where it stood w places before is the least that stands there more than w times.
use Rattle.std.proofs.Common.{◌≡◌, ℕ, zero, suc, ◌+◌, ◌-◌, ◌<◌, ◌≤◌, Bool, true, false, cond, List, length, take, get_or, sym, ◌∙◌, ap, subst, inl, inr, arith}
use Rattle.std.specs.{Prelude.count_by, Bool.Decides, Cmp.IsStrictWeakOrder, List.Sorted.IsSortedBy}
use Rattle.std.proofs.lemmas.Bool.{both_ways, cases_Bool, cases_lt, false_from_ne_true}
use Rattle.std.proofs.{lemmas.List.length-take-le, lemmas.List.take_all, lemmas.List.Sorted.sorted_far}
use Rattle.std.proofs.lemmas.List.Sums.{count_by-le-length, count_by_more_no, count_by_more_yes, sum_by-take-le}

module _ {X : Type 0} (p : X → Bool) (xs : List X) (d : X) where
  -- one place more counts for one at most
  pub count_step : (i : ℕ) → i < length xs → count_by p (take (i + 1) xs) ≤ count_by p (take i xs) + 1
  count_step i lt = elim (cases_Bool (p (get_or xs i d))) [
    | inl here ↦ omega (arith, count_by_more_yes p xs i d lt here)
    | inr off ↦ omega (arith, count_by_more_no p xs i d lt off)
  ]

  count_grows : (m k : ℕ) → m + k ≤ length xs → count_by p (take (m + k) xs) ≤ count_by p (take m xs) + k
  count_grows m zero le = let same : m + 0 ≡ m = omega arith in let e = ap (λ n. count_by p (take n xs)) same in omega (arith, e)
  count_grows m (suc k) le =
      let next : m + suc k ≡ (m + k) + 1 = omega arith in
      let e = ap (λ n. count_by p (take n xs)) next in
      omega (arith, e, count_step (m + k) (omega arith), count_grows m k (omega arith))

  -- places that do not pass count for nothing
  pub count_kept : (m k : ℕ) → m + k ≤ length xs → ((j : ℕ) → m ≤ j → j < m + k → p (get_or xs j d) ≡ false) → count_by p (take (m + k) xs) ≡ count_by p (take m xs)
  count_kept m zero le none = let same : m + 0 ≡ m = omega arith in ap (λ n. count_by p (take n xs)) same
  count_kept m (suc k) le none =
      let next : m + suc k ≡ (m + k) + 1 = omega arith in
      ap (λ n. count_by p (take n xs)) next ∙ (count_by_more_no p xs (m + k) d (omega arith) (none (m + k) (omega arith) (omega arith)) ∙ count_kept m k (omega arith) (λ j ge lt. none j ge (omega arith)))

  -- places that pass count for one each
  pub count_all : (m k : ℕ) → m + k ≤ length xs → ((j : ℕ) → m ≤ j → j < m + k → p (get_or xs j d) ≡ true) → count_by p (take (m + k) xs) ≡ count_by p (take m xs) + k
  count_all m zero le each = let same : m + 0 ≡ m = omega arith in let e = ap (λ n. count_by p (take n xs)) same in omega (arith, e)
  count_all m (suc k) le each =
      let next : m + suc k ≡ (m + k) + 1 = omega arith in
      let e = ap (λ n. count_by p (take n xs)) next in
      let rest = count_all m k (omega arith) (λ j ge lt. each j ge (omega arith)) in
      omega (arith, e, rest, count_by_more_yes p xs (m + k) d (omega arith) (each (m + k) (omega arith) (omega arith)))

module _ {X : Type 0} (lt : X → X → Bool) (order : IsStrictWeakOrder lt) (total : (x y : X) → lt x y ≡ false → lt y x ≡ false → x ≡ y) (eq : X → X → Bool) (exact : (x y : X) → Decides (eq x y) (x ≡ y)) (w : ℕ) (some : 0 < w)
    (xs : List X) (d : X) (up : IsSortedBy lt xs) where
  -- of the first i places no member stands at more than w
  abbrev pub AreFew : ℕ → Type 0
  AreFew i = (x : X) → count_by (eq x) (take i xs) ≤ w

  far : (i j : ℕ) → i ≤ j → j < length xs → lt (get_or xs j d) (get_or xs i d) ≡ false
  far i j le fits = sorted_far lt order xs up i j d le fits

  -- what stands between two places of one member is that member
  between : (i j k : ℕ) → i ≤ j → j ≤ k → k < length xs → get_or xs i d ≡ get_or xs k d → get_or xs j d ≡ get_or xs k d
  between i j k le le' fits same = total (get_or xs j d) (get_or xs k d) (subst (λ x. lt (get_or xs j d) x ≡ false) same (far i j le (omega arith))) (far j k le' fits)

  -- one place more, where another member stood w places before
  pub few_more : (i : ℕ) → i < length xs → (w ≤ i → get_or xs (i - w) d ≡ get_or xs i d → ⊥) → AreFew i → AreFew (i + 1)
  few_more i fits other few x = elim (cases_Bool (eq x (get_or xs i d))) [
    | inr off ↦ omega (arith, count_by_more_no (eq x) xs i d fits off, few x)
    | inl here ↦ (let is : x ≡ get_or xs i d = (exact x (get_or xs i d)).0 here in
        let more = count_by_more_yes (eq x) xs i d fits here in
        elim (cases_lt i w) [
          | inl early ↦ omega (arith, more, count_by-le-length (eq x) (take i xs), length-take-le i xs (omega arith))
          | inr late ↦ (let none : count_by (eq x) (take (0 + ((i - w) + 1)) xs) ≡ count_by (eq x) (take 0 xs) = count_kept (eq x) xs d 0 ((i - w) + 1) (omega arith) (λ j ge less. false_from_ne_true (eq x (get_or xs j d)) (λ h.
              (let at : get_or xs j d ≡ get_or xs i d = sym ((exact x (get_or xs j d)).0 h) ∙ is in
              other late (between j (i - w) i (omega arith) (omega arith) fits at)))) in
              let split : (0 + ((i - w) + 1)) + (w - 1) ≡ i = omega arith in
              let e = ap (λ n. count_by (eq x) (take n xs)) split in
              omega (arith, more, none, e, count_grows (eq x) xs d (0 + ((i - w) + 1)) (w - 1) (omega arith)))
        ])
  ]

  -- a member that stood w places before stands at more than w places
  pub many_at : (i : ℕ) → i < length xs → w ≤ i → get_or xs (i - w) d ≡ get_or xs i d → w < count_by (eq (get_or xs i d)) xs
  many_at i fits le same =
      let x = get_or xs i d in
      let each = count_all (eq x) xs d (i - w) (w + 1) (omega arith) (λ j ge less. (exact x (get_or xs j d)).1 (sym (between (i - w) j i ge (omega arith) fits same))) in
      omega (arith, each, sum_by-take-le (λ y. cond (eq x y) 1 0) xs ((i - w) + (w + 1)))

  -- and a lesser one does not, where no member so far does
  pub few_before : (i : ℕ) → i < length xs → AreFew i → (x : X) → lt x (get_or xs i d) ≡ true → count_by (eq x) xs ≤ w
  few_before i fits few x less =
      let rest : i + (length xs - i) ≡ length xs = omega arith in
      let none = count_kept (eq x) xs d i (length xs - i) (omega arith) (λ j ge lt'. false_from_ne_true (eq x (get_or xs j d)) (λ h. both_ways (lt x (get_or xs i d)) (subst (λ y. lt y (get_or xs i d) ≡ false) (sym ((exact x (get_or xs j d)).0 h)) (far i j ge (omega arith))) less)) in
      let e = ap (λ n. count_by (eq x) (take n xs)) rest in
      let whole = ap (count_by (eq x)) (take_all (length xs) xs (omega arith)) in
      omega (arith, none, e, whole, few x)

  -- at the end no member does
  pub few_all : (i : ℕ) → length xs ≤ i → AreFew i → (x : X) → count_by (eq x) xs ≤ w
  few_all i past few x = let whole = ap (count_by (eq x)) (take_all i xs past) in omega (arith, whole, few x)
