-- What an iterator over tokens has left. The words: `token_of`, `tokens_left`.
use Rattle.std.specs.Prelude.{List}
use Rattle.loc_spec_text.specs.Tokens.{Token}
use Rattle.loc_wkt.specs.declared.tokens.Token.{Token as TokenOfText}
use Rattle.loc_wkt.specs.{declared.tokens.Tokens.Tokens, TokenList.tokens_from}

-- a token of the program as one of the definitions
abbrev pub token_of : TokenOfText → Token
token_of t = record { start = t.start; text = t.text.now }

-- the tokens that have not been given yet
abbrev pub tokens_left : Tokens → List Token
tokens_left s = tokens_from s.start 0 s.left.now
