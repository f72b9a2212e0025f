-- The members of an order: each edge is one, each is new where it stands, and there are as many as edges.
use Rattle.std.proofs.Common.{◌≡◌, ℕ, zero, suc, ◌+◌, ◌<◌, ◌≤◌, Bool, true, false, ◌||◌, cond, List, [], ◌∷◌, length, take, drop, get_or, refl, sym, ◌∙◌, ap, inl, inr, arith}
use Rattle.std.specs.Prelude.{nat_lt, ◌==◌, if◌then◌else◌}
use Rattle.std.proofs.lemmas.Bool.{cases_Bool, cases_lt, eq-eqb, ne_eqb, lt-ltb, ltb-true, or_left}
use Rattle.std.proofs.{lemmas.List.take_more, lemmas.List.take-append-drop, lemmas.List.Folds.list_any_at}
use Rattle.std.proofs.lemmas.List.Sums.{sum_by-append}
use Rattle.loc_spec_plane.specs.Lists.{is_in}
use Rattle.loc_trapdag.specs.Orders.{IsOrder}
use Rattle.loc_trapdag.proofs.Counts.{one_of, many_of, many_push}

many_cons : (e x : ℕ) (xs : List ℕ) → many_of e (x ∷ xs) ≡ one_of e x + many_of e xs
many_cons e x xs = sum_by-append (one_of e) (x ∷ []) xs ∙ ap (λ n. n + many_of e xs) (zero_add (one_of e x))
  where
    zero_add : (n : ℕ) → 0 + n ≡ n
    zero_add n = omega arith

some_more : (n : ℕ) → nat_lt 0 (1 + n) ≡ true
some_more n = lt-ltb 0 (1 + n) (omega arith)

no_more : (n : ℕ) → 0 + n ≡ n
no_more n = omega arith

is_in_many : (e : ℕ) (xs : List ℕ) → is_in e xs ≡ nat_lt 0 (many_of e xs)
is_in_many e [] = refl
is_in_many e (x ∷ xs) = elim (cases_Bool (x == e)) [
  | inl same ↦ or_left (x == e) (is_in e xs) same ∙ sym (ap (nat_lt 0) (many_cons e x xs ∙ ap (λ b. cond b 1 0 + many_of e xs) same) ∙ some_more (many_of e xs))
  | inr off ↦ ap (λ b. b || is_in e xs) off ∙ (is_in_many e xs ∙ sym (ap (nat_lt 0) (many_cons e x xs ∙ (ap (λ b. cond b 1 0 + many_of e xs) off ∙ no_more (many_of e xs)))))
]

member : (xs : List ℕ) (i : ℕ) → i < length xs → is_in (get_or xs i 0) xs ≡ true
member xs i less = list_any_at (λ m. m == get_or xs i 0) xs i 0 less (eq-eqb (get_or xs i 0) (get_or xs i 0) refl)

one_test : (b : Bool) → nat_lt 0 (if b then 1 else 0) ≡ b
one_test true = refl
one_test false = refl

-- exactly the edges are members
pub order_in : (n : ℕ) (xs : List ℕ) → IsOrder n xs → (e : ℕ) → is_in e xs ≡ nat_lt e n
order_in n xs order e = is_in_many e xs ∙ (ap (nat_lt 0) (order e) ∙ one_test (nat_lt e n))

pub order_real : (n : ℕ) (xs : List ℕ) → IsOrder n xs → (i : ℕ) → i < length xs → get_or xs i 0 < n
order_real n xs order i less = ltb-true (get_or xs i 0) n (sym (order_in n xs order (get_or xs i 0)) ∙ member xs i less)

at_most_one : (b : Bool) → (if b then 1 else 0) ≤ 1
at_most_one true = omega arith
at_most_one false = omega arith

-- a member is none of those before it
pub order_new : (n : ℕ) (xs : List ℕ) → IsOrder n xs → (i : ℕ) → i < length xs → is_in (get_or xs i 0) (take i xs) ≡ false
order_new n xs order i less =
    let e = get_or xs i 0 in
    let whole : many_of e xs ≡ many_of e (take (i + 1) xs) + many_of e (drop (i + 1) xs) = ap (many_of e) (sym (take-append-drop (i + 1) xs)) ∙ sum_by-append (one_of e) (take (i + 1) xs) (drop (i + 1) xs) in
    let front : many_of e (take (i + 1) xs) ≡ many_of e (take i xs) + one_of e e = ap (many_of e) (take_more xs i 0 less) ∙ many_push e (take i xs) e in
    let one : one_of e e ≡ 1 = ap (λ b. cond b 1 0) (eq-eqb e e refl) in
    let most = at_most_one (nat_lt e n) in
    let all = order e in
    let none : many_of e (take i xs) ≡ 0 = omega arith in
    is_in_many e (take i xs) ∙ ap (nat_lt 0) none

-- ---- how many
total : (ℕ → ℕ) → ℕ → ℕ
total f zero = 0
total f (suc k) = total f k + f k

total_same : (f g : ℕ → ℕ) → ((e : ℕ) → f e ≡ g e) → (n : ℕ) → total f n ≡ total g n
unfolding total
total_same f g h zero = refl
total_same f g h (suc k) = let rest = total_same f g h k in let here = h k in omega arith

total_plus : (f g : ℕ → ℕ) (n : ℕ) → total (λ e. f e + g e) n ≡ total f n + total g n
unfolding total
total_plus f g zero = omega arith
total_plus f g (suc k) = let rest = total_plus f g k in omega arith

total_zero : (f : ℕ → ℕ) → ((e : ℕ) → f e ≡ 0) → (n : ℕ) → total f n ≡ 0
unfolding total
total_zero f h zero = refl
total_zero f h (suc k) = let rest = total_zero f h k in let here = h k in omega arith

one_off : (e x : ℕ) → (x ≡ e → ⊥) → one_of e x ≡ 0
one_off e x other = ap (λ b. cond b 1 0) (ne_eqb x e other)

one_here : (e x : ℕ) → x ≡ e → one_of e x ≡ 1
one_here e x same = ap (λ b. cond b 1 0) (eq-eqb x e same)

total_none : (x n : ℕ) → n ≤ x → total (λ e. one_of e x) n ≡ 0
unfolding total
total_none x zero le = refl
total_none x (suc k) le = let rest = total_none x k (omega arith) in let here = one_off k x (λ same. omega arith) in omega arith

total_one : (x n : ℕ) → x < n → total (λ e. one_of e x) n ≡ 1
unfolding total
total_one x zero less = absurd (omega arith)
total_one x (suc k) less = elim (cases_lt x k) [
  | inl early ↦ (let rest = total_one x k early in let here = one_off k x (λ same. omega arith) in omega arith)
  | inr late ↦ (let same : x ≡ k = omega arith in let rest = total_none x k late in let here = one_here k x same in omega arith)
]

total_ones : (n m : ℕ) → m ≤ n → total (λ e. if nat_lt e n then 1 else 0) m ≡ m
unfolding total
total_ones n zero le = refl
total_ones n (suc k) le = let rest = total_ones n k (omega arith) in let here = ap (λ b. one_if b) (lt-ltb k n (omega arith)) in omega arith
  where
    one_if : Bool → ℕ
    one_if b = if b then 1 else 0

total_many : (xs : List ℕ) (n : ℕ) → ((i : ℕ) → i < length xs → get_or xs i 0 < n) → total (λ e. many_of e xs) n ≡ length xs
total_many [] n real = total_zero (λ e. many_of e []) (λ e. refl) n
total_many (x ∷ xs) n real =
    let rest = total_many xs n (λ i less. real (suc i) (omega arith)) in
    let first = total_one x n (real 0 (omega arith)) in
    let sums = total_same (λ e. many_of e (x ∷ xs)) (λ e. one_of e x + many_of e xs) (λ e. many_cons e x xs) n ∙ total_plus (λ e. one_of e x) (λ e. many_of e xs) n in
    omega arith

pub order_length : (n : ℕ) (xs : List ℕ) → IsOrder n xs → length xs ≡ n
order_length n xs order = sym (total_many xs n (order_real n xs order)) ∙ (total_same (λ e. many_of e xs) (λ e. if nat_lt e n then 1 else 0) order n ∙ total_ones n n (omega arith))
