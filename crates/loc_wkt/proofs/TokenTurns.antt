-- The list of the tokens of a text: how it goes on, and that it is the tokens.
use Rattle.std.proofs.Common.{◌≡◌, ℕ, zero, suc, ◌+◌, ◌-◌, ◌<◌, ◌≤◌, List, [], ◌∷◌, ◌++◌, Bool, true, false, ◌⊎◌, inl, inr, refl, sym, ◌∙◌, ap, subst, arith, add-zero, one-add, length, take, drop, get_or, length-append, length-drop, drop_of_length-le}
use Rattle.std.specs.Prelude.{if◌then◌else◌}
use Rattle.std.specs.List.{prefix_len}
use Rattle.std.proofs.{lemmas.Bool.cases_lt, lemmas.Bool.true≢false, lemmas.List.Sums.prefix_len_stops}
use Rattle.std.proofs.lemmas.List.{take-append-drop, length-take-le, take_rest, get_or-drop}
use Rattle.std.proofs.Math.Seq.{drop-nil, take-add, take-append_seam}
use Rattle.loc_spec_text.specs.Bytes.{is_white, is_blank}
use Rattle.loc_spec_text.specs.Tokens.{Token, AreTokens, IsLongest, is_token}
use Rattle.loc_wkt.specs.TokenList.{longest, token_at, tokens_from}
use Rattle.loc_wkt.proofs.{TokenLongest.IsLongestTo, TokenLongest.longest-holds, TokenFront.byte_passes}

-- behind the bytes of a token that has been given
tokens_from-inside : (text : List ℕ) (place n : ℕ) → tokens_from place n text ≡ tokens_from (place + n) 0 (drop n text)
tokens_from-inside [] place n = ap (λ t. tokens_from (place + n) 0 t) (sym (drop-nil {A = ℕ} n))
tokens_from-inside (b ∷ text) place zero = rw add-zero refl
tokens_from-inside (b ∷ text) place (suc n) = tokens_from-inside text (place + 1) n ∙ ap (λ k. tokens_from k 0 (drop n text)) (let e : place + 1 + n ≡ place + suc n = omega arith in e)

-- behind white space
pub tokens_from-white : (text : List ℕ) (place : ℕ) → tokens_from place 0 text ≡ tokens_from (place + prefix_len is_white text) 0 (drop (prefix_len is_white text) text)
tokens_from-white [] place = refl
tokens_from-white (b ∷ text) place = at (is_white b) refl (tokens_from-white text (place + 1))
  where
    at : (t : Bool) → is_white b ≡ t → tokens_from (place + 1) 0 text ≡ tokens_from (place + 1 + prefix_len is_white text) 0 (drop (prefix_len is_white text) text)
        → tokens_from place 0 (b ∷ text) ≡ tokens_from (place + prefix_len is_white (b ∷ text)) 0 (drop (prefix_len is_white (b ∷ text)) (b ∷ text))
    at true h more = rw h (more ∙ (let e : place + 1 + prefix_len is_white text ≡ place + (1 + prefix_len is_white text) = omega arith in rw (e, one-add) refl))
    at false h more = let none : 0 ≡ prefix_len is_white (b ∷ text) = rw h refl in
        ap (λ k. tokens_from k 0 (b ∷ text)) (sym (add-zero place)) ∙ ap (λ n. tokens_from (place + n) 0 (drop n (b ∷ text))) none

-- a byte that is no white space begins a token
pub token_some : (text : List ℕ) → 0 < length text → is_white (get_or text 0 0) ≡ false → 0 < longest is_token text
token_some text some white = at (cases_lt 0 (longest is_token text)) (longest-holds is_token text)
  where
    at : (0 < longest is_token text) ⊎ (longest is_token text ≤ 0) → IsLongestTo is_token text (length text) (longest is_token text) → 0 < longest is_token text
    at (inl h) held = h
    at (inr h) held = absurd (true≢false (sym (byte_passes text some white) ∙ held.stops 1 (omega arith) (omega arith)))

pub tokens_from-token : (text : List ℕ) (place : ℕ) → 0 < length text → is_white (get_or text 0 0) ≡ false
    → tokens_from place 0 text ≡ token_at place text ∷ tokens_from (place + longest is_token text) 0 (drop (longest is_token text) text)
tokens_from-token [] place some white = absurd (omega arith)
tokens_from-token (b ∷ text) place some white = rw white (ap (λ ts. token_at place (b ∷ text) ∷ ts) (
    let n : ℕ = longest is_token (b ∷ text) in
    let e : suc (n - 1) ≡ n = omega (arith, token_some (b ∷ text) some white) in
    tokens_from-inside (b ∷ text) place (suc (n - 1)) ∙ ap (λ k. tokens_from (place + k) 0 (drop k (b ∷ text))) e))

-- the longest front that is a token, as the definition has it
is_longest : (text : List ℕ) (n : ℕ) → IsLongestTo is_token text (length text) n → IsLongest (take n text) (drop n text)
is_longest text n held [] end e some = absurd (some refl)
is_longest text n held (b ∷ more) end e some =
    let m : ℕ = length (b ∷ more) in
    let long : length (drop n text) ≡ m + length end = ap length e ∙ length-append (b ∷ more) end in
    let same : take n text ++ (b ∷ more) ≡ take (n + m) text = ap (λ t. take n text ++ t) (sym (take-append_seam (b ∷ more) end) ∙ ap (take m) (sym e)) ∙ sym (take-add n m text) in
    ap is_token same ∙ held.stops (n + m) (omega arith) (omega (arith, held.at_most, length-drop n text))

-- the tokens behind one more byte of white space
more_white : (b : ℕ) (text : List ℕ) (place next : ℕ) (tokens : List Token) → is_white b ≡ true → next ≡ place + 1 → AreTokens next text tokens → AreTokens place (b ∷ text) tokens
more_white b text place next [] h e blank = rw h blank
more_white b text place next (token ∷ tokens) h e (white, rest, cut, blank, passes, longest, start, more) =
    (b ∷ white, rest, ap (λ t. b ∷ t) cut, rw h blank, passes, longest, omega arith, more)

-- The list is the tokens, also inside of a token that has been given.
pub are_tokens : (text : List ℕ) (place n : ℕ) → AreTokens (place + n) (drop n text) (tokens_from place n text)
are_tokens [] place n = ap is_blank (drop-nil {A = ℕ} n)
are_tokens (b ∷ text) place (suc n) = let e : place + 1 + n ≡ place + suc n = omega arith in
    subst (λ k. AreTokens k (drop n text) (tokens_from (place + 1) n text)) e (are_tokens text (place + 1) n)
are_tokens (b ∷ text) place zero = at (is_white b) refl (are_tokens text (place + 1) 0) (are_tokens text (place + 1) (longest is_token (b ∷ text) - 1)) (longest-holds is_token (b ∷ text))
  where
    at : (t : Bool) → is_white b ≡ t → AreTokens (place + 1 + 0) text (tokens_from (place + 1) 0 text)
        → AreTokens (place + 1 + (longest is_token (b ∷ text) - 1)) (drop (longest is_token (b ∷ text) - 1) text) (tokens_from (place + 1) (longest is_token (b ∷ text) - 1) text)
        → IsLongestTo is_token (b ∷ text) (length (b ∷ text)) (longest is_token (b ∷ text))
        → AreTokens (place + 0) (b ∷ text) (if t then tokens_from (place + 1) 0 text else token_at place (b ∷ text) ∷ tokens_from (place + 1) (longest is_token (b ∷ text) - 1) text)
    at true h next behind held = more_white b text (place + 0) (place + 1 + 0) (tokens_from (place + 1) 0 text) h (omega arith) next
    at false h next behind held =
        let n : ℕ = longest is_token (b ∷ text) in
        let some : 0 < n = token_some (b ∷ text) (omega arith) h in
        let e : suc (n - 1) ≡ n = omega arith in
        let place_behind : place + 1 + (n - 1) ≡ place + length (take n (b ∷ text)) = omega (arith, length-take-le n (b ∷ text) held.at_most) in
        let tokens : List Token = tokens_from (place + 1) (n - 1) text in (
          [],
          drop n (b ∷ text),
          sym (take-append-drop n (b ∷ text)),
          refl,
          held.passes some,
          is_longest (b ∷ text) n held,
          (let f : place ≡ place + 0 + 0 = omega arith in f),
          subst (λ k. AreTokens k (drop n (b ∷ text)) tokens) place_behind (subst (λ k. AreTokens (place + 1 + (n - 1)) (drop k (b ∷ text)) tokens) e behind),
        )

-- One turn of the iterator, over what is left of the text.
module _ (text : List ℕ) (white : ℕ) (front : white ≡ prefix_len is_white text) where
  pub turn_ends : (place : ℕ) → length text ≤ white → tokens_from place 0 text ≡ []
  turn_ends place h = tokens_from-white text place ∙ ap (λ n. tokens_from (place + n) 0 (drop n text)) (sym front) ∙ ap (λ t. tokens_from (place + white) 0 t) (drop_of_length-le text h)

  pub turn_starts : white < length text → (part : List ℕ) → part ≡ take (length text - white) (drop white text) → is_white (get_or part 0 0) ≡ false
  turn_starts h part e = ap (λ t. is_white (get_or t 0 0)) (e ∙ take_rest text white) ∙ ap is_white (get_or-drop white text 0 0 ∙ ap (λ n. get_or text n 0) (add-zero white ∙ front))
      ∙ prefix_len_stops is_white text 0 (omega arith)

  pub turn_steps : white < length text → (part : List ℕ) → part ≡ take (length text - white) (drop white text) → (n : ℕ) → n ≡ longest is_token part → (place : ℕ)
      → tokens_from place 0 text ≡ record { start = place + white; text = take n part } ∷ tokens_from (place + white + n) 0 (take (length part - n) (drop n part))
  turn_steps h part e n longest_n place =
      let rest : part ≡ drop white text = e ∙ take_rest text white in
      tokens_from-white text place ∙ ap (λ k. tokens_from (place + k) 0 (drop k text)) (sym front) ∙ ap (λ t. tokens_from (place + white) 0 t) (sym rest)
      ∙ tokens_from-token part (place + white) (omega (arith, ap length rest, length-drop white text)) (turn_starts h part e)
      ∙ ap (λ k. record { start = place + white; text = take k part } ∷ tokens_from (place + white + k) 0 (drop k part)) (sym longest_n)
      ∙ ap (λ t. record { start = place + white; text = take n part } ∷ tokens_from (place + white + n) 0 t) (sym (take_rest part n))
