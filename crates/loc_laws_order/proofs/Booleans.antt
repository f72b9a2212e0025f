-- Laws of Booleans.
use Rattle.std.proofs.Common.{◌≡◌, Bool, true, false, ◌&&◌, ◌||◌, refl, sym}

-- or, either way round
pub or_swap : (a b : Bool) → (a || b) ≡ (b || a)
or_swap true true = refl
or_swap true false = refl
or_swap false true = refl
or_swap false false = refl

-- or, with the first two of three exchanged
pub or_exchange : (a b c : Bool) → (a || (b || c)) ≡ (b || (a || c))
or_exchange true true c = refl
or_exchange true false c = refl
or_exchange false b c = refl

-- or, with the parts joined otherwise
pub or_assoc : (a b c : Bool) → (a || (b || c)) ≡ ((a || b) || c)
or_assoc true b c = refl
or_assoc false b c = refl

-- or, with one part said twice
pub or_twice : (a b : Bool) → (a || (a || b)) ≡ (a || b)
or_twice true b = refl
or_twice false b = refl

-- or, with a second part that fails
pub or_none : (a : Bool) → (a || false) ≡ a
or_none true = refl
or_none false = refl

-- or, with a second part that holds
pub or_true : (a : Bool) → (a || true) ≡ true
or_true true = refl
or_true false = refl

-- and, either way round
pub and_swap : (a b : Bool) → (a && b) ≡ (b && a)
and_swap true true = refl
and_swap true false = refl
and_swap false true = refl
and_swap false false = refl

-- and, with a second part that fails
pub and_none : (a : Bool) → (a && false) ≡ false
and_none true = refl
and_none false = refl

-- and, with a second part that holds
pub and_true : (a : Bool) → (a && true) ≡ a
and_true true = refl
and_true false = refl

-- two tests that follow from each other are one
pub same-from_both : (a b : Bool) → (a ≡ true → b ≡ true) → (b ≡ true → a ≡ true) → a ≡ b
same-from_both true b to back = sym (to refl)
same-from_both false true to back = back refl
same-from_both false false to back = refl
