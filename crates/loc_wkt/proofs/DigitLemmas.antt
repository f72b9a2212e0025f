-- One digit more behind the digits read so far, and behind those of an exponent.
use Rattle.std.proofs.Common.{List, [], ◌∷◌, ◌++◌, length, take, get_or, min, append_assoc, ◌≡◌, ◌≢◌, ◌⊎◌, ℕ, zero, suc, ◌+◌, ◌-◌, ◌*◌, ◌%◌, ◌^◌, ◌<◌, ◌≤◌, Bool, true, false, refl, sym, ◌∙◌, ap, inl, inr, arith, add-one, add-zero, zero-mul, pow-suc, mul_assoc, mul-one, mul-le-mul_right, mul-le-mul_left, MatchBool, mod-eq_of_lt}
use Rattle.std.proofs.{Math.Nat.mul-add-mod_self_right, lemmas.Nat.pow-add, lemmas.Bool.and_parts}
use Rattle.std.proofs.{lemmas.Int.Digits.digits_value_push, lemmas.List.take_more}
use Rattle.std.specs.{Char.is_ascii_digit, List.list_all, Str.Parse.digits_value}
use Rattle.loc_spec_text.proofs.{NumberLaws.ten_pos, DigitLaws.digit_range}
use Rattle.loc_wkt.specs.{declared.grid_numbers.digits.Digits.Digits, GridNumbers.Represents}
use Rattle.loc_wkt.proofs.NumberLemmas.{digit_number}

next_power : (z : ℕ) → 10 ^ (z + 1) ≡ 10 ^ z * 10
next_power z = ap (λ k. 10 ^ k) (add-one z) ∙ pow-suc 10 z

raised : (m z v : ℕ) → v ≡ m * 10 ^ z → v * 10 ≡ m * 10 ^ (z + 1)
raised m z v e = ap (λ n. n * 10) e ∙ mul_assoc m (10 ^ z) 10 ∙ ap (λ p. m * p) (sym (next_power z))

-- a number that ends in no zero is not 0
pub not_none : (m : ℕ) → m % 10 ≢ 0 → 1 ≤ m
not_none zero h = absurd (h refl)
not_none (suc m) h = omega arith

last_of : (d : Digits) (v : ℕ) (r : Represents d v) (long : Bool) → MatchBool long (10 ^ 19 ≤ r.m) ((r.m ≡ d.head) × (r.m < 10 ^ 19)) → (r.m % 10 ≢ 0) ⊎ ((r.m ≡ 0) × (d.zeros ≡ 0)) → ((d.head ≡ 0) × (long ≡ false) → ⊥) → r.m % 10 ≢ 0
last_of d v r long size (inl h) other = h
last_of d v r true size (inr h) other = absurd (omega (arith, size, h.0))
last_of d v r false size (inr h) other = absurd (other (sym size.0 ∙ h.0, refl))

-- a number that is not 0 ends in no zero but those that are counted
pub last_digit : (d : Digits) (v : ℕ) (r : Represents d v) → ((d.head ≡ 0) × (d.long ≡ false) → ⊥) → r.m % 10 ≢ 0
last_digit d v r other = last_of d v r d.long r.size r.last other

-- no digit but zeros
pub no_digits : (d : Digits) (v : ℕ) → Represents d v → d.head ≡ 0 → d.long ≡ false → v ≡ 0
no_digits d v r h short = let s = rw short at r.size in r.value ∙ ap (λ m. m * 10 ^ d.zeros) (s.0 ∙ h) ∙ zero-mul (10 ^ d.zeros)

-- a zero behind the digits
pub zero_more : (d : Digits) (v : ℕ) → Represents d v → ((d.head ≡ 0) × (d.long ≡ false) → ⊥) → Represents (record { head = d.head; zeros = d.zeros + 1; long = d.long }) (v * 10 + 0)
zero_more d v r other = record { m = r.m; value = add-zero (v * 10) ∙ raised r.m d.zeros v r.value; last = inl (last_digit d v r other); size = r.size }

behind : (m z v c : ℕ) → v ≡ m * 10 ^ z → v * 10 + c ≡ (m * 10 ^ (z + 1) + c) * 10 ^ 0
behind m z v c e = ap (λ n. n + c) (raised m z v e) ∙ sym (mul-one (m * 10 ^ (z + 1) + c))

ends : (m z c : ℕ) → 0 < c → c < 10 → (m * 10 ^ (z + 1) + c) % 10 ≢ 0
ends m z c h k e = let f : (m * 10 ^ (z + 1) + c) % 10 ≡ c = ap (λ p. (m * p + c) % 10) (next_power z) ∙ ap (λ p. (p + c) % 10) (sym (mul_assoc m (10 ^ z) 10)) ∙ mul-add-mod_self_right (m * 10 ^ z) 10 c ∙ mod-eq_of_lt k in omega arith

-- a digit behind a head that is too long, or so many zeros that it becomes so
pub long_more : (d : Digits) (v c : ℕ) → Represents d v → 0 < c → c < 10 → (d.long ≡ true) ⊎ (18 < d.zeros) → Represents (record { head = 0; zeros = 0; long = true }) (v * 10 + c)
long_more d v c r h k why = record { m = r.m * 10 ^ (d.zeros + 1) + c; value = behind r.m d.zeros v c r.value; last = inl (ends r.m d.zeros c h k); size = large why }
  where
    some : 18 < d.zeros → (r.m % 10 ≢ 0) ⊎ ((r.m ≡ 0) × (d.zeros ≡ 0)) → 1 ≤ r.m
    some w (inl h) = not_none r.m h
    some w (inr h) = absurd (omega (arith, h.1))

    large : (d.long ≡ true) ⊎ (18 < d.zeros) → 10 ^ 19 ≤ r.m * 10 ^ (d.zeros + 1) + c
    large (inl e) = let big = rw e at r.size in let more : r.m * 1 ≤ r.m * 10 ^ (d.zeros + 1) = mul-le-mul_left r.m (ten_pos (d.zeros + 1)) in omega (arith, big, more)
    large (inr w) = let more : 1 * 10 ^ (d.zeros + 1) ≤ r.m * 10 ^ (d.zeros + 1) = mul-le-mul_right (10 ^ (d.zeros + 1)) (some w r.last) in
        let split : d.zeros + 1 ≡ 19 + (d.zeros - 18) = omega arith in
        let big : 10 ^ 19 * 1 ≤ 10 ^ 19 * 10 ^ (d.zeros - 18) = mul-le-mul_left (10 ^ 19) (ten_pos (d.zeros - 18)) in
        omega (arith, more, big, ap (λ k. 10 ^ k) split ∙ pow-add 10 19 (d.zeros - 18))

-- a digit behind a head that stays short
pub short_more : (d : Digits) (v c : ℕ) → Represents d v → 0 < c → c < 10 → d.long ≡ false → d.head * 10 ^ (d.zeros + 1) + c < 10 ^ 19 → Represents (record { head = d.head * 10 ^ (d.zeros + 1) + c; zeros = 0; long = false }) (v * 10 + c)
short_more d v c r h k short fits = let s = rw short at r.size in
    record { m = r.m * 10 ^ (d.zeros + 1) + c; value = behind r.m d.zeros v c r.value; last = inl (ends r.m d.zeros c h k); size = (ap (λ n. n * 10 ^ (d.zeros + 1) + c) s.0, rw s.0 fits) }

-- a digit behind a head that becomes too long
pub full_more : (d : Digits) (v c : ℕ) → Represents d v → 0 < c → c < 10 → d.long ≡ false → 10 ^ 19 ≤ d.head * 10 ^ (d.zeros + 1) + c → Represents (record { head = 0; zeros = 0; long = true }) (v * 10 + c)
full_more d v c r h k short past = let s = rw short at r.size in
    record { m = r.m * 10 ^ (d.zeros + 1) + c; value = behind r.m d.zeros v c r.value; last = inl (ends r.m d.zeros c h k); size = rw s.0 past }

-- a head that is kept is below its limit
pub head_small : (d : Digits) (v : ℕ) → Represents d v → d.long ≡ false → 10 ^ 19 ≤ d.head → ⊥
head_small d v r short h = let s = rw short at r.size in omega (arith, s.0, s.1)

-- a digit among digits
pub digit_at : (ds : List ℕ) (i : ℕ) → i < length ds → list_all is_ascii_digit ds ≡ true → (48 ≤ get_or ds i 0) × (get_or ds i 0 ≤ 57)
digit_at [] i h all = absurd (omega arith)
digit_at (d ∷ ds) zero h all = digit_range d (and_parts (is_ascii_digit d) (list_all is_ascii_digit ds) all).0
digit_at (d ∷ ds) (suc i) h all = digit_at ds i (omega arith) (and_parts (is_ascii_digit d) (list_all is_ascii_digit ds) all).1

-- the number of digits and one more of others behind them
pub digit_behind : (before ds : List ℕ) (i : ℕ) → i < length ds → (48 ≤ get_or ds i 0) × (get_or ds i 0 ≤ 57)
    → digits_value 10 (before ++ take i ds) * 10 + (get_or ds i 0 - 48) ≡ digits_value 10 (before ++ take (i + 1) ds)
digit_behind before ds i h d =
    ap (λ c. digits_value 10 (before ++ take i ds) * 10 + c) (sym (digit_number (get_or ds i 0) d.0 d.1))
    ∙ sym (ap (digits_value 10) (ap (λ t. before ++ t) (take_more ds i 0 h) ∙ sym (append_assoc before (take i ds) (get_or ds i 0 ∷ []))) ∙ digits_value_push 10 (before ++ take i ds) (get_or ds i 0))

pub digits_behind : (before ds : List ℕ) (i : ℕ) → i < length ds → list_all is_ascii_digit ds ≡ true
    → digits_value 10 (before ++ take i ds) * 10 + (get_or ds i 0 - 48) ≡ digits_value 10 (before ++ take (i + 1) ds)
digits_behind before ds i h all = digit_behind before ds i h (digit_at ds i h all)

-- one digit more of a number that is kept up to a limit
pub capped_more : (v c limit : ℕ) → min (min v limit * 10 + c) limit ≡ min (v * 10 + c) limit
capped_more v c limit = omega arith
