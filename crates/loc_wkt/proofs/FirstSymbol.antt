-- The first symbol of a text: a mark by itself, or what stands before the first break.
use Rattle.std.proofs.Common.{◌≡◌, ℕ, suc, ◌<◌, ◌≤◌, List, [], ◌∷◌, true, false, ◌||◌, refl, sym, ◌∙◌, ap, arith, drop_of_length-le, length, take, drop, get_or, Bool}
use Rattle.std.specs.List.{list_any, prefix_len, position_or_len, after_first}
use Rattle.loc_spec_text.specs.Bytes.{is_white}
use Rattle.loc_spec_text.specs.Geometry.{is_break, is_mark, symbol_of, symbols}
use Rattle.loc_spec_text.proofs.SymbolLaws.{is_plain, symbols-longest, symbols-mark, symbols-skip}
use Rattle.loc_wkt.proofs.TokenSteps.{after_first-no}

-- behind no mark there is nothing
pub nothing_after : (p : ℕ → Bool) (text : List ℕ) → list_any p text ≡ false → after_first p text ≡ []
nothing_after p [] h = refl
nothing_after p (b ∷ text) h = at (p b) refl h (nothing_after p text)
  where
    at : (t : Bool) → p b ≡ t → (t || list_any p text) ≡ false → (list_any p text ≡ false → after_first p text ≡ []) → after_first p (b ∷ text) ≡ []
    at true e k more = absurd (cc)
    at false e k more = after_first-no p b text e ∙ more k

-- what stands before the first break is a symbol, and it is not empty
pub plain_symbol : (text : List ℕ) (n : ℕ) → 0 < length text → is_white (get_or text 0 0) ≡ false → is_mark (get_or text 0 0) ≡ false → n ≡ position_or_len is_break text
    → (0 < n) × (symbols text ≡ symbol_of (take n text) ∷ symbols (drop n text))
plain_symbol [] n some white mark e = absurd (omega arith)
plain_symbol (b ∷ text) n some white mark e =
    let plain : is_plain b ≡ true = rw (white, mark) refl in
    let first : suc (prefix_len is_plain text) ≡ prefix_len is_plain (b ∷ text) = rw plain (omega arith) in
    let whole : suc (prefix_len is_plain text) ≡ n = first ∙ sym e in
    (omega (arith, whole), symbols-longest b text plain ∙ ap (λ k. symbol_of (take k (b ∷ text)) ∷ symbols (drop k (b ∷ text))) whole)

-- a mark is a symbol by itself
pub mark_symbol : (text : List ℕ) → 0 < length text → is_white (get_or text 0 0) ≡ false → is_mark (get_or text 0 0) ≡ true → symbols text ≡ symbol_of (take 1 text) ∷ symbols (drop 1 text)
mark_symbol [] some white mark = absurd (omega arith)
mark_symbol (b ∷ text) some white mark = symbols-mark b text white mark

-- the text behind white space at the front
module _ (text : List ℕ) (white : ℕ) (front : white ≡ prefix_len is_white text) where
  pub symbols_behind : symbols text ≡ symbols (drop white text)
  symbols_behind = symbols-skip text ∙ ap (λ n. symbols (drop n text)) (sym front)

  pub no_symbol : length text ≤ white → symbols text ≡ []
  no_symbol h = symbols_behind ∙ ap symbols (drop_of_length-le text h)
