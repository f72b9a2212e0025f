-- Laws of products of whole numbers.
use Rattle.std.proofs.Common.{◌≡◌, ◌*◌, ap, sym, ◌∙◌, arith, ℤ, pos, ◌+ℤ◌, ◌*ℤ◌}
use Rattle.std.proofs.lemmas.Int.{ints}
use borrow.Author.Differences.{up, down, sum_is_lem, product_is}

-- products
pub product_comm : (a b : ℤ) → a *ℤ b ≡ b *ℤ a
product_comm a b = omega (arith, ints)

-- a product with a sum
pub distribute : (a b c : ℤ) → a *ℤ (b +ℤ c) ≡ a *ℤ b +ℤ a *ℤ c
distribute a b c = omega (arith, ints, ap (λ n. up a * n) (sum_is_lem b c), ap (λ n. down a * n) (sum_is_lem b c))

-- products of three
pub product_assoc : (a b c : ℤ) → (a *ℤ b) *ℤ c ≡ a *ℤ (b *ℤ c)
product_assoc a b c = omega (arith, ints, ap (λ n. n * up c) (product_is a b).0, ap (λ n. n * up c) (product_is a b).1, ap (λ n. n * down c) (product_is a b).0, ap (λ n. n * down c) (product_is a b).1, ap (λ n. up a * n) (product_is b c).0, ap (λ n. up a * n) (product_is b c).1, ap (λ n. down a * n) (product_is b c).0, ap (λ n. down a * n) (product_is b c).1)

-- 0 on the left
pub zero_times : (a : ℤ) → pos 0 *ℤ a ≡ pos 0
zero_times a = omega (arith, ints)

-- 1 on the left
pub one_times : (a : ℤ) → pos 1 *ℤ a ≡ a
one_times a = omega (arith, ints)

-- a sum times a number
pub distribute_right : (a b c : ℤ) → (a +ℤ b) *ℤ c ≡ a *ℤ c +ℤ b *ℤ c
distribute_right a b c = product_comm (a +ℤ b) c ∙ distribute c a b ∙ omega (arith, ints)

-- the first two of three factors change places
pub swap_front : (a b c : ℤ) → a *ℤ (b *ℤ c) ≡ b *ℤ (a *ℤ c)
swap_front a b c = sym (product_assoc a b c) ∙ ap (λ n. n *ℤ c) (product_comm a b) ∙ product_assoc b a c

-- the product of two products, taken apart the other way
pub product_exchange : (a b c d : ℤ) → (a *ℤ b) *ℤ (c *ℤ d) ≡ (a *ℤ c) *ℤ (b *ℤ d)
product_exchange a b c d = product_assoc a b (c *ℤ d) ∙ ap (λ n. a *ℤ n) (swap_front b c d) ∙ sym (product_assoc a c (b *ℤ d))

-- 0 on the right
pub product_zero : (a : ℤ) → a *ℤ pos 0 ≡ pos 0
product_zero a = omega (arith, ints)
