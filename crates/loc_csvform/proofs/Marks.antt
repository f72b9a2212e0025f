-- A byte order mark at the front of a text, as the code cuts it off.
use Rattle.std.proofs.Common.{◌≡◌, ℕ, List, [], ◌∷◌, Bool, true, false, ◌&&◌, cond, take, drop, length, length-drop, ◌≤◌, subst, arith, Option, Some, None, refl, sym, ◌∙◌, ap, Bor}
use Rattle.std.specs.Prelude.{◌==◌, unwrap_or, MatchOption}
use Rattle.std.specs.Str.{bytes_eq}
use Rattle.csv.specs.Reading.{strip_bom}

-- the text begins with the mark
abbrev pub is_marked : List ℕ → Bool
is_marked text = bytes_eq (take 3 text) (0xEF ∷ 0xBB ∷ 0xBF ∷ [])

one : (p : Bool) (xs ys : List ℕ) → ys ≡ cond (p && false) xs ys
one true xs ys = refl
one false xs ys = refl

two : (p q : Bool) (xs ys : List ℕ) → ys ≡ cond (p && (q && false)) xs ys
two true q xs ys = one q xs ys
two false q xs ys = refl

three : (p q r : Bool) (xs ys : List ℕ) → cond ((p && q) && r) xs ys ≡ cond (p && (q && (r && true))) xs ys
three true true true xs ys = refl
three true true false xs ys = refl
three true false r xs ys = refl
three false q r xs ys = refl

cut : (text : List ℕ) → strip_bom text ≡ cond (is_marked text) (drop 3 text) text
unfolding strip_bom
cut [] = refl
cut (a ∷ []) = one (a == 0xEF) [] (a ∷ [])
cut (a ∷ b ∷ []) = two (a == 0xEF) (b == 0xBB) [] (a ∷ b ∷ [])
cut (a ∷ b ∷ c ∷ rest) = three (a == 0xEF) (b == 0xBB) (c == 0xBF) rest (a ∷ b ∷ c ∷ rest)

-- what is left without the mark, or the whole text
pub without : (P : Bor (List ℕ) → Type 0) (text : Bor (List ℕ)) (found : Option (Bor (List ℕ))) (r : Bor (List ℕ)) → MatchOption found (is_marked text.now ≡ false) (λ rest. (is_marked text.now ≡ true) × (rest.now ≡ drop 3 text.now) × P rest) → r ≡ unwrap_or found text → r.now ≡ strip_bom text.now
without P text None r marked is = ap (λ (b : Bor (List ℕ)). b.now) is ∙ sym (cut text.now ∙ ap (λ b. cond b (drop 3 text.now) text.now) marked)
without P text (Some rest) r marked is = ap (λ (b : Bor (List ℕ)). b.now) is ∙ marked.1 ∙ sym (cut text.now ∙ ap (λ b. cond b (drop 3 text.now) text.now) marked.0)

-- it is no longer than the text
pub within : (text : List ℕ) → length (strip_bom text) ≤ length text
within text = subst (λ rest. length rest ≤ length text) (sym (cut text)) (either (is_marked text))
  where
    either : (b : Bool) → length (cond b (drop 3 text) text) ≤ length text
    either true = omega (arith, length-drop 3 text)
    either false = omega arith
