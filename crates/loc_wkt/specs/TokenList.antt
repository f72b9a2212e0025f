-- The tokens of a text as a list that is computed. The words: `longest_to`, `longest`, `token_at`, `tokens_from`.
use Rattle.std.specs.Prelude.{ℕ, zero, suc, ◌+◌, ◌-◌, Bool, List, [], ◌∷◌, length, take, if◌then◌else◌}
use Rattle.loc_spec_text.specs.{Bytes.is_white, Tokens.Token, Tokens.is_token}

-- the length of the longest front that passes a test, of those up to a length, and 0 where none does
abbrev pub longest_to : (List ℕ → Bool) → ℕ → List ℕ → ℕ
longest_to p zero text = 0
longest_to p (suc n) text = if p (take (suc n) text) then suc n else longest_to p n text

-- the length of the longest front that passes a test, and 0 where none does
unfoldable pub longest : (List ℕ → Bool) → List ℕ → ℕ
longest p text = longest_to p (length text) text

-- the longest token at the front of a text that begins at a place
abbrev pub token_at : ℕ → List ℕ → Token
token_at place text = record { start = place; text = take (longest is_token text) text }

-- The tokens of a text that begins at a place and so many bytes before the end of a token.
abbrev pub tokens_from : ℕ → ℕ → List ℕ → List Token
tokens_from place more [] = []
tokens_from place (suc more) (b ∷ text) = tokens_from (place + 1) more text
tokens_from place zero (b ∷ text) = if is_white b then tokens_from (place + 1) 0 text
    else token_at place (b ∷ text) ∷ tokens_from (place + 1) (longest is_token (b ∷ text) - 1) text
