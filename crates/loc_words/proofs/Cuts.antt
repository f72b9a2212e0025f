-- A word cut at its first "=".
use Rattle.std.proofs.Common.{◌≡◌, ◌+◌, ℕ, suc, Bool, true, false, not, List, [], ◌∷◌, ◌++◌, take, drop, refl, sym, ◌∙◌, ap, append-nil, ap₂, cond, inl, inr, arith, one-add, length, ◌<◌}
use Rattle.std.specs.List.{before_first, after_first, prefix_len, list_any, position_or_len}
use Rattle.std.proofs.{lemmas.Bool.cases_Bool, lemmas.Bool.Decides.Decides-eqb}
use native.Mathlib.Numerals.{unary_clauses}
use Rattle.loc_spec_text.specs.Bytes.{Text}
use Rattle.loc_words.specs.Rows.{is_equals}

-- what stands before the first "=" goes on over a byte that is none
pub before-cons : (x : ℕ) (xs : Text) → is_equals x ≡ false → before_first is_equals (x ∷ xs) ≡ x ∷ before_first is_equals xs
before-cons x xs h = simp h (one_more (prefix_len (λ z. not (is_equals z)) xs))
  where
    one_more : (k : ℕ) → take (1 + k) (x ∷ xs) ≡ x ∷ take k xs
    one_more k = rw one-add refl

after-cons : (x : ℕ) (xs : Text) → is_equals x ≡ false → after_first is_equals (x ∷ xs) ≡ after_first is_equals xs
after-cons x xs h = simp h (one_more (prefix_len (λ z. not (is_equals z)) xs))
  where
    one_more : (k : ℕ) → drop (1 + k + 1) (x ∷ xs) ≡ drop (k + 1) xs
    one_more k = let e : 1 + k + 1 ≡ suc (k + 1) = omega arith in rw e refl

-- a word with two hyphens
pub before-dashes : (t : Text) → before_first is_equals (45 ∷ 45 ∷ t) ≡ 45 ∷ 45 ∷ before_first is_equals t
before-dashes t = before-cons 45 (45 ∷ t) refl ∙ ap (λ (l : Text). 45 ∷ l) (before-cons 45 t refl)

pub after-dashes : (t : Text) → after_first is_equals (45 ∷ 45 ∷ t) ≡ after_first is_equals t
after-dashes t = after-cons 45 (45 ∷ t) refl ∙ after-cons 45 t refl

-- a text is what stands before its first "=" and what stands from there on
pub cut : (t : Text) → t ≡ before_first is_equals t ++ cond (list_any is_equals t) (61 ∷ after_first is_equals t) []
cut [] = refl
cut (x ∷ xs) = elim (cases_Bool (is_equals x)) [
  | inl is ↦ simp is (ap (λ (n : ℕ). n ∷ xs) ((Decides-eqb x 61).0 is))
  | inr other ↦ simp (other, unary_clauses) (ap (λ (l : Text). x ∷ l) (cut xs) ∙ one_more (prefix_len (λ z. not (is_equals z)) xs) (list_any is_equals xs))
]
  where
    one_more : (k : ℕ) (b : Bool) → x ∷ (take k xs ++ cond b (61 ∷ drop (k + 1) xs) []) ≡ take (1 + k) (x ∷ xs) ++ cond b (61 ∷ drop (1 + k) xs) []
    one_more k b = let e : suc k ≡ 1 + k = omega arith in let f : k + 1 ≡ 1 + k = omega arith in
        ap₂ (λ (m n : ℕ). take m (x ∷ xs) ++ cond b (61 ∷ drop n xs) []) e f

-- without a "=" nothing is cut off
pub before-whole : (t : Text) → list_any is_equals t ≡ false → before_first is_equals t ≡ t
before-whole t lacks = sym (cut t ∙ ap (λ (b : Bool). before_first is_equals t ++ cond b (61 ∷ after_first is_equals t) []) lacks ∙ append-nil (before_first is_equals t))

-- a word whose name has two hyphens has them
pub record IsDashed (word : Text) : Type 0 where
  pub rest : Text
  pub is : word ≡ 45 ∷ 45 ∷ rest

pub dashed : (word n : Text) → before_first is_equals word ≡ 45 ∷ 45 ∷ n → IsDashed word
dashed word n e = record {
  rest = n ++ cond (list_any is_equals word) (61 ∷ after_first is_equals word) [];
  is = cut word ∙ ap (λ (l : Text). l ++ cond (list_any is_equals word) (61 ∷ after_first is_equals word) []) e;
}

-- whether a list has an element that passes, by the place of the first
pub any-passes : {X : Type 0} (p : X → Bool) (xs : List X) → position_or_len p xs < length xs → list_any p xs ≡ true
any-passes p [] h = absurd (omega (arith, h))
any-passes p (x ∷ xs) h = elim (cases_Bool (p x)) [
  | inl is ↦ simp is
  | inr other ↦ simp other (any-passes p xs (later (position_or_len p xs) (simp other at h)))
]
  where
    later : (k : ℕ) → 1 + k < length (x ∷ xs) → k < length xs
    later k h = omega (arith, h)

pub none-passes : {X : Type 0} (p : X → Bool) (xs : List X) → position_or_len p xs ≡ length xs → list_any p xs ≡ false
none-passes p [] h = refl
none-passes p (x ∷ xs) h = elim (cases_Bool (p x)) [
  | inl is ↦ absurd (first (length xs) (simp is at h))
  | inr other ↦ simp other (none-passes p xs (later (position_or_len p xs) (simp other at h)))
]
  where
    first : (k : ℕ) → 0 ≡ suc k → ⊥
    first k h = omega (arith, h)

    later : (k : ℕ) → 1 + k ≡ length (x ∷ xs) → k ≡ length xs
    later k h = omega (arith, h)
