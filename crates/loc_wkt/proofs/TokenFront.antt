-- The longest token at the front of a text.
use Rattle.std.proofs.Common.{◌≡◌, ℕ, zero, suc, ◌<◌, ◌≤◌, List, [], ◌∷◌, Bool, true, false, ◌⊎◌, inl, inr, ◌&&◌, ◌||◌, not, ◌==◌, refl, sym, ◌∙◌, ap, subst, arith, one-add, max, ne_eqb, length, take, get_or}
use Rattle.std.proofs.{lemmas.Bool.and_right, lemmas.Bool.cases_lt, lemmas.Bool.or_right, lemmas.Bool.Decides.nat_tests}
use Rattle.std.proofs.lemmas.List.{length-take-le, get_or-take}
use Rattle.std.proofs.lemmas.List.Sums.{prefix_len-le-length, prefix_len_passes, prefix_len_stops}
use Rattle.std.proofs.lemmas.List.Folds.{list_all_at, length-prefix_len}
use Rattle.std.specs.{Char.is_ascii_alphabetic, List.list_all, List.prefix_len}
use Rattle.loc_spec_text.specs.{Bytes.is_white, Bytes.is_blank, Number.is_number, Tokens.is_token, Tokens.is_word}
use Rattle.loc_wkt.specs.TokenList.{longest}
use Rattle.loc_wkt.proofs.TokenSteps.{no_digit, start_stops}
use Rattle.loc_wkt.proofs.TokenLongest.{IsLongestTo, longest-is, longest-holds}

-- the front that passes does pass
pub front_passes : (p : ℕ → Bool) (text : List ℕ) → list_all p (take (prefix_len p text) text) ≡ true
front_passes p [] = refl
front_passes p (b ∷ text) = at (p b) refl (front_passes p text)
  where
    at : (t : Bool) → p b ≡ t → list_all p (take (prefix_len p text) text) ≡ true → list_all p (take (prefix_len p (b ∷ text)) (b ∷ text)) ≡ true
    at true h more = rw h (rw (one-add, h) more)
    at false h more = rw h refl

-- what is longer than the letters at the front is no word
no_word : (text : List ℕ) (k : ℕ) → prefix_len is_ascii_alphabetic text < k → k ≤ length text → is_word (take k text) ≡ false
no_word text k h k_le = let w : ℕ = prefix_len is_ascii_alphabetic text in
    let inside : w < length (take k text) = rw (length-take-le k text k_le) h in
    and_right (not (length (take k text) == 0)) (list_all is_ascii_alphabetic (take k text)) (list_all_at is_ascii_alphabetic (take k text) w 0 inside
    (ap is_ascii_alphabetic (get_or-take k text w 0 h) ∙ prefix_len_stops is_ascii_alphabetic text 0 (omega arith)))

-- a letter begins no number
pub no_number : (b : ℕ) (text : List ℕ) → is_ascii_alphabetic b ≡ true → is_number (b ∷ text) ≡ false
no_number b text h = start_stops b text (no_digit b (λ l r. grind (arith, nat_tests))) (λ e. grind (arith, nat_tests)) (λ e. grind (arith, nat_tests))

-- nor is it one byte
no_single : (text : List ℕ) (k : ℕ) → 1 < k → k ≤ length text → ((length (take k text) == 1) && not (is_blank (take k text))) ≡ false
no_single text k h k_le = rw (ne_eqb (length (take k text)) 1 (λ e. absurd (omega (arith, length-take-le k text k_le)))) refl

no_token : (text : List ℕ) (k : ℕ) → is_word (take k text) ≡ false → is_number (take k text) ≡ false → 1 < k → k ≤ length text → is_token (take k text) ≡ false
no_token text k word number h k_le = rw (word, number) (no_single text k h k_le)

letter_first : (text : List ℕ) (k : ℕ) → 0 < prefix_len is_ascii_alphabetic text → 0 < k → is_number (take k text) ≡ false
letter_first [] k h l = absurd (omega arith)
letter_first (b ∷ text) zero h l = absurd (omega arith)
letter_first (b ∷ text) (suc k) h l = no_number b (take k text) (prefix_len_passes is_ascii_alphabetic (b ∷ text) 0 0 h)

-- the letters at the front are the longest token, if there are any
word_longest : (text : List ℕ) → 0 < prefix_len is_ascii_alphabetic text → IsLongestTo is_token text (length text) (prefix_len is_ascii_alphabetic text)
word_longest text h = let w : ℕ = prefix_len is_ascii_alphabetic text in record {
  at_most = prefix_len-le-length is_ascii_alphabetic text;
  passes = λ _. rw (ne_eqb (length (take w text)) 0 (λ e. absurd (omega (arith, length-prefix_len is_ascii_alphabetic text))), front_passes is_ascii_alphabetic text) refl;
  stops = λ k k_lt k_le. no_token text k (no_word text k k_lt k_le) (letter_first text k h (omega arith)) (omega arith) k_le;
}

pub token_word : (text : List ℕ) (w : ℕ) → w ≡ prefix_len is_ascii_alphabetic text → 0 < w → w ≡ longest is_token text
token_word text w e h = e ∙ longest-is is_token text (prefix_len is_ascii_alphabetic text) (word_longest text (omega arith))

number_passes : (text : List ℕ) → is_number text ≡ true → is_token text ≡ true
number_passes text h = rw (h, or_right (is_word text) true refl) refl

pub byte_passes : (text : List ℕ) → 0 < length text → is_white (get_or text 0 0) ≡ false → is_token (take 1 text) ≡ true
byte_passes [] h white = absurd (omega arith)
byte_passes (b ∷ text) h white = or_right (is_word (b ∷ []) || is_number (b ∷ [])) _ (rw white refl)

-- and else the longest number, or one byte where none begins
pub token_other : (text : List ℕ) (n : ℕ) → prefix_len is_ascii_alphabetic text < 1 → n ≡ longest is_number text → 0 < length text → is_white (get_or text 0 0) ≡ false → max n 1 ≡ longest is_token text
token_other text n w e some white = longest-is is_token text (max n 1) (let held : IsLongestTo is_number text (length text) n = subst (λ r. IsLongestTo is_number text (length text) r) (sym e) (longest-holds is_number text) in
    record {
      at_most = omega (arith, held.at_most);
      passes = λ _. first (cases_lt n 1) held;
      stops = λ k k_lt k_le. no_token text k (no_word text k (omega arith) k_le) (held.stops k (omega arith) k_le) (omega arith) k_le;
    })
  where
    first : (n < 1) ⊎ (1 ≤ n) → IsLongestTo is_number text (length text) n → is_token (take (max n 1) text) ≡ true
    first (inl h) held = let one : max n 1 ≡ 1 = omega arith in ap (λ k. is_token (take k text)) one ∙ byte_passes text some white
    first (inr h) held = let most : max n 1 ≡ n = omega arith in ap (λ k. is_token (take k text)) most ∙ number_passes (take n text) (held.passes h)
