-- The rows of nodes that are numbered in turn.
use Rattle.std.proofs.Common.{◌+◌, ◌-◌, ◌<◌, ◌≤◌, suc, zero, length, arith, ◌≡◌, ℕ, true, false, cond, ◌||◌, List, [], ◌∷◌, ◌++◌, refl, sym, ap, ◌∙◌, Some, set, take}
use Rattle.std.specs.Prelude.{◌≢◌, slice_get}
use Rattle.std.specs.List.{AllByRecursion}
use Rattle.std.proofs.lemmas.List.{length-take, length-take-le, take_more_set}
use Rattle.std.proofs.{Math.Nat.min-le_left, Math.Seq.take-set-lt}
use Rattle.loc_pool.specs.{declared.Link.Link, declared.node.Node.Node, Same.same}
use Rattle.loc_pool.specs.Maps.{has, value_or, put, links}
use Rattle.loc_pool.specs.{Rows.row, Rows.AreNames, Rows.IsPlace, Cells.row_of, Cells.rows_from}
use Rattle.loc_pool.proofs.Same.{same-eq, apart-same}

-- the link with a number
abbrev pub link_of : ℕ → Link
link_of n = record { number = n }

same-number : (n : ℕ) (l : Link) → same (link_of n) l ≡ true → n ≡ l.number
same-number n l e = ap (λ (k : Link). k.number) (same-eq (link_of n) l e)

other-number : (n : ℕ) (l : Link) → same (link_of n) l ≡ false → n ≢ l.number
other-number n l e q = apart-same (link_of n) l e (λ i. record { number = q i })

other-link : (n m : ℕ) → n ≢ m → link_of n ≢ link_of m
other-link n m d e = d (ap (λ (k : Link). k.number) e)

pub length-rows_from : (n : ℕ) (xs : List Node) → length (rows_from n xs) ≡ length xs
unfolding rows_from
length-rows_from n [] = refl
length-rows_from n (x ∷ xs) = ap suc (length-rows_from (n + 1) xs)

-- where a link has a row, its number is among theirs
pub number-within : (n : ℕ) (xs : List Node) (l : Link) → has (rows_from n xs) l ≡ true → (n ≤ l.number) × (l.number < n + length xs)
unfolding has rows_from
number-within n [] l h = cc
number-within n (x ∷ xs) l h = (elim (same (link_of n) l) as (λ b. same (link_of n) l ≡ b → (b || has (rows_from (n + 1) xs) l) ≡ true → (n ≤ l.number) × (l.number < n + length (x ∷ xs))) [
  | true ↦ λ s e. let q = same-number n l s in (omega (arith, q), omega (arith, q))
  | false ↦ λ s e. let on = number-within (n + 1) xs l e in (omega (arith, on.0), omega (arith, on.1))
]) refl h

pub number-new : (n : ℕ) (xs : List Node) (l : Link) → l.number ≡ n + length xs → has (rows_from n xs) l ≡ false
number-new n xs l e = (elim (has (rows_from n xs) l) as (λ b. has (rows_from n xs) l ≡ b → b ≡ false) [
  | true ↦ λ h. let w = number-within n xs l h in absurd (omega (arith, w.1, e))
  | false ↦ λ h. refl
]) refl

-- the row of a link is that of the node at its place
pub row-at : (n : ℕ) (xs : List Node) (l : Link) (x : Node) → n ≤ l.number → slice_get xs (l.number - n) ≡ Some x → row (rows_from n xs) l ≡ row_of x
unfolding value_or rows_from
row-at n [] l x h e = cc
row-at n (y ∷ ys) l x h e = (elim (same (link_of n) l) as (λ b. same (link_of n) l ≡ b → cond b (row_of y) (row (rows_from (n + 1) ys) l) ≡ row_of x) [
  | true ↦ λ s. let q = same-number n l s in
      let here : Some y ≡ Some x = sym (ap (slice_get (y ∷ ys)) (let z : l.number - n ≡ 0 = omega (arith, q) in z)) ∙ e in
      let yx : y ≡ x = cc in ap row_of yx
  | false ↦ λ s. let d = other-number n l s in let up : n + 1 ≤ l.number = omega (arith, d, h) in
      row-at (n + 1) ys l x up (sym (ap (slice_get (y ∷ ys)) (let z : l.number - n ≡ suc (l.number - (n + 1)) = omega (arith, up) in z)) ∙ e)
]) refl

pub put-at : (n : ℕ) (xs : List Node) (l : Link) (x : Node) → n ≤ l.number → rows_from n (set xs (l.number - n) x) ≡ put (rows_from n xs) l (row_of x)
unfolding put rows_from
put-at n [] l x h = refl
put-at n (y ∷ ys) l x h = (elim (same (link_of n) l) as (λ b. same (link_of n) l ≡ b → rows_from n (set (y ∷ ys) (l.number - n) x) ≡ cond b ((link_of n, row_of x) ∷ rows_from (n + 1) ys) ((link_of n, row_of y) ∷ put (rows_from (n + 1) ys) l (row_of x))) [
  | true ↦ λ s. let q = same-number n l s in ap (λ k. rows_from n (set (y ∷ ys) k x)) (let z : l.number - n ≡ 0 = omega (arith, q) in z)
  | false ↦ λ s. let d = other-number n l s in let up : n + 1 ≤ l.number = omega (arith, d, h) in
      ap (λ k. rows_from n (set (y ∷ ys) k x)) (let z : l.number - n ≡ suc (l.number - (n + 1)) = omega (arith, up) in z)
      ∙ ap (λ rs. (link_of n, row_of y) ∷ rs) (put-at (n + 1) ys l x up)
]) refl

pub rows_from-append : (n m : ℕ) (xs : List Node) (x : Node) → m ≡ n + length xs → rows_from n (xs ++ x ∷ []) ≡ rows_from n xs ++ (link_of m, row_of x) ∷ []
unfolding rows_from
rows_from-append n m [] x e = ap (λ k. (link_of k, row_of x) ∷ []) (let z : n ≡ m = omega (arith, e) in z)
rows_from-append n m (y ∷ ys) x e = ap (λ rs. (link_of n, row_of y) ∷ rs) (rows_from-append (n + 1) m ys x (omega (arith, e)))

-- the link with a number stands at its place
pub place-at : (n : ℕ) (xs : List Node) (i m : ℕ) → i < length xs → m ≡ n + i → slice_get (links (rows_from n xs)) i ≡ Some (link_of m)
unfolding links rows_from
place-at n [] i m h e = absurd (omega (arith, h))
place-at n (x ∷ xs) zero m h e = ap (λ k. Some (link_of k)) (let z : n ≡ m = omega (arith, e) in z)
place-at n (x ∷ xs) (suc i) m h e = place-at (n + 1) xs i m (omega (arith, h)) (omega (arith, e))

above : (k n : ℕ) (xs : List Node) → k < n → AllByRecursion (λ m. m ≢ link_of k) (links (rows_from n xs))
unfolding links rows_from
above k n [] h = tt
above k n (x ∷ xs) h = (other-link n k (λ e. omega (arith, h, e)), above k (n + 1) xs (omega (arith, h)))

pub names-from : (n : ℕ) (xs : List Node) → 1 ≤ n → AreNames (links (rows_from n xs))
unfolding links rows_from
names-from n [] h = tt
names-from n (x ∷ xs) h = (other-link n 0 (λ e. omega (arith, h, e)), above n (n + 1) xs (omega arith), names-from (n + 1) xs (omega arith))

pub got-taken : (xs : List Node) (n i : ℕ) → i < n → slice_get (take n xs) i ≡ slice_get xs i
got-taken xs zero i h = absurd (omega (arith, h))
got-taken [] (suc n) i h = refl
got-taken (x ∷ xs) (suc n) zero h = refl
got-taken (x ∷ xs) (suc n) (suc i) h = got-taken xs n i (omega (arith, h))

pub place-made : (xs : List Node) (l : Link) → 1 ≤ l.number → l.number ≤ length (rows_from 1 xs) → IsPlace (links (rows_from 1 xs)) l l.number
place-made xs l h w = let k = length-rows_from 1 xs in (h, place-at 1 xs (l.number - 1) l.number (omega (arith, h, w, k)) (omega (arith, h)))

-- of all nodes in memory the first `made` have rows
pub length-made : (xs : List Node) (made : ℕ) → made ≤ length xs → length (rows_from 1 (take made xs)) ≡ made
length-made xs made h = length-rows_from 1 (take made xs) ∙ length-take-le made xs h

pub made-within : (xs : List Node) (made : ℕ) (l : Link) → has (rows_from 1 (take made xs)) l ≡ true → (1 ≤ l.number) × (l.number ≤ made)
made-within xs made l h = let w = number-within 1 (take made xs) l h in let k = length-take made xs in let m = min-le_left made (length xs) in (w.0, omega (arith, w.1, k, m))

pub made-row : (xs : List Node) (made : ℕ) (l : Link) (x : Node) → has (rows_from 1 (take made xs)) l ≡ true → slice_get xs (l.number - 1) ≡ Some x → row (rows_from 1 (take made xs)) l ≡ row_of x
made-row xs made l x h e = let w = made-within xs made l h in row-at 1 (take made xs) l x w.0 (got-taken xs made (l.number - 1) (omega (arith, w.0, w.1)) ∙ e)

pub made-put : (xs : List Node) (made : ℕ) (l : Link) (x : Node) → has (rows_from 1 (take made xs)) l ≡ true → rows_from 1 (take made (set xs (l.number - 1) x)) ≡ put (rows_from 1 (take made xs)) l (row_of x)
made-put xs made l x h = let w = made-within xs made l h in ap (rows_from 1) (take-set-lt made xs (l.number - 1) x (omega (arith, w.0, w.1))) ∙ put-at 1 (take made xs) l x w.0

pub made-new : (xs : List Node) (made : ℕ) → made ≤ length xs → has (rows_from 1 (take made xs)) (link_of (made + 1)) ≡ false
made-new xs made h = number-new 1 (take made xs) (link_of (made + 1)) (let k = length-take-le made xs h in omega (arith, k))

pub made-append : (xs : List Node) (made : ℕ) (x : Node) → made < length xs → rows_from 1 (take (made + 1) (set xs made x)) ≡ rows_from 1 (take made xs) ++ (link_of (made + 1), row_of x) ∷ []
made-append xs made x h = ap (rows_from 1) (take_more_set xs made x h) ∙ rows_from-append 1 (made + 1) (take made xs) x (let k = length-take-le made xs (omega (arith, h)) in omega (arith, k))
