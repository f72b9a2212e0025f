-- Signs of products.
use Rattle.std.proofs.Common.{◌≡◌, suc, ◌≤◌, ap, sym, ◌∙◌, arith, ℤ, pos, negsuc, ◌+ℤ◌, ◌-ℤ◌, ◌*ℤ◌, neg_ℤ, ◌<ℤ◌, ◌≤ℤ◌, ◌⊎◌, inl, inr, mul-le-mul, [], ◌∷◌}
use Rattle.std.proofs.lemmas.Int.{ints}
use Rattle.loc_algebra.proofs.Whole.{distribute}
use Rattle.loc_algebra.proofs.Ring.{ring, variable, number, plus, minus, times}

-- one is positive and the other negative
abbrev pub Opposite : ℤ → ℤ → Type 0
Opposite x y = ((pos 0 <ℤ x) × (y <ℤ pos 0)) ⊎ ((x <ℤ pos 0) × (pos 0 <ℤ y))

-- of two numbers one is less, or they are equal
pub trichotomy : (a b : ℤ) → (a <ℤ b) ⊎ ((a ≡ b) ⊎ (b <ℤ a))
trichotomy a b = grind (arith, ints)

-- 0 < a, 0 < b
pub product_positive : (a b : ℤ) → pos 0 <ℤ a → pos 0 <ℤ b → pos 0 <ℤ (a *ℤ b)
product_positive (pos a) (pos b) h k = let p : 1 ≤ a = omega (arith, ints) in let q : 1 ≤ b = omega (arith, ints) in omega (arith, ints, mul-le-mul p q)
product_positive (pos a) (negsuc b) h k = omega (arith, ints)
product_positive (negsuc a) b h k = omega (arith, ints)

-- 0 < a, b < 0
pub product_negative : (a b : ℤ) → pos 0 <ℤ a → b <ℤ pos 0 → (a *ℤ b) <ℤ pos 0
product_negative (pos a) (negsuc b) h k = let p : 1 ≤ a = omega (arith, ints) in let q : 1 ≤ suc b = omega (arith, ints) in omega (arith, ints, mul-le-mul p q)
product_negative (pos a) (pos b) h k = omega (arith, ints)
product_negative (negsuc a) b h k = omega (arith, ints)

-- a factor 0
pub product_by_zero : (a b : ℤ) → b ≡ pos 0 → (a *ℤ b) ≡ pos 0
product_by_zero a b h = ap (λ n. a *ℤ n) h ∙ omega (arith, ints)

-- the sign of a factor from that of the product with a positive one
pub positive_from : (a b : ℤ) → pos 0 <ℤ a → pos 0 <ℤ (a *ℤ b) → pos 0 <ℤ b
positive_from a b h k = elim (trichotomy (pos 0) b) [ inl p ↦ p | inr q ↦ elim q [ inl e ↦ absurd (omega (arith, ints, product_by_zero a b (sym e))) | inr n ↦ absurd (omega (arith, ints, product_negative a b h n)) ] ]

-- likewise, where the product is negative
pub negative_from : (a b : ℤ) → pos 0 <ℤ a → (a *ℤ b) <ℤ pos 0 → b <ℤ pos 0
negative_from a b h k = elim (trichotomy (pos 0) b) [ inl p ↦ absurd (omega (arith, ints, product_positive a b h p)) | inr q ↦ elim q [ inl e ↦ absurd (omega (arith, ints, product_by_zero a b (sym e))) | inr n ↦ n ] ]

-- likewise, where it is 0
pub zero_from : (a b : ℤ) → pos 0 <ℤ a → (a *ℤ b) ≡ pos 0 → b ≡ pos 0
zero_from a b h k = elim (trichotomy (pos 0) b) [ inl p ↦ absurd (omega (arith, ints, product_positive a b h p)) | inr q ↦ elim q [ inl e ↦ sym e | inr n ↦ absurd (omega (arith, ints, product_negative a b h n)) ] ]

-- a product with a positive factor keeps an order
pub product_less : (a b c : ℤ) → pos 0 <ℤ a → b <ℤ c → (a *ℤ b) <ℤ (a *ℤ c)
product_less a b c h k =
    let d : pos 0 <ℤ (c +ℤ neg_ℤ b) = omega (arith, ints) in
    let e : (c +ℤ neg_ℤ b) +ℤ b ≡ c = omega (arith, ints) in
    omega (arith, ints, product_positive a (c +ℤ neg_ℤ b) h d, distribute a (c +ℤ neg_ℤ b) b, ap (λ n. a *ℤ n) e)

-- a product with a difference
pub product_difference : (m x y : ℤ) → m *ℤ (x -ℤ y) ≡ m *ℤ x -ℤ m *ℤ y
product_difference m x y = ring (m ∷ x ∷ y ∷ []) (times (variable 0) (minus (variable 1) (variable 2))) (minus (times (variable 0) (variable 1)) (times (variable 0) (variable 2))) tt

-- the next multiple is at most a later one
pub product_step : (m x y : ℤ) → pos 0 <ℤ m → x <ℤ y → (m *ℤ x +ℤ m) ≤ℤ (m *ℤ y)
product_step m x y h k =
    let e : m *ℤ (x +ℤ pos 1) ≡ m *ℤ x +ℤ m = ring (m ∷ x ∷ []) (times (variable 0) (plus (variable 1) (number (pos 1)))) (plus (times (variable 0) (variable 1)) (variable 0)) tt in
    elim (trichotomy (x +ℤ pos 1) y) [
      | inl p ↦ omega (arith, ints, e, product_less m (x +ℤ pos 1) y h p)
      | inr v ↦ elim v [ inl q ↦ omega (arith, ints, e, ap (λ n. m *ℤ n) q) | inr n ↦ absurd (omega (arith, ints)) ]
    ]

-- 0 <= a, b <= 0
pub product_not_positive : (a b : ℤ) → pos 0 ≤ℤ a → b ≤ℤ pos 0 → (a *ℤ b) ≤ℤ pos 0
product_not_positive (pos a) (pos b) h k = let z : b ≡ 0 = omega (arith, ints) in rw z (omega (arith, ints))
product_not_positive (pos a) (negsuc b) h k = omega (arith, ints)
product_not_positive (negsuc a) b h k = omega (arith, ints)

-- of two factors of which none is positive
pub product_not_negative : (a b : ℤ) → a ≤ℤ pos 0 → b ≤ℤ pos 0 → pos 0 ≤ℤ (a *ℤ b)
product_not_negative (negsuc a) (negsuc b) h k = omega (arith, ints)
product_not_negative (negsuc a) (pos b) h k = let z : b ≡ 0 = omega (arith, ints) in rw z (omega (arith, ints))
product_not_negative (pos a) b h k = let z : a ≡ 0 = omega (arith, ints) in rw z (omega (arith, ints))
