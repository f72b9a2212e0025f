use Rattle.std.proofs.Common.{arith, ◌∙◌}
use Rattle.std.proofs.lemmas.List.Sums.{prefix_len-le-length}
use Rattle.std.specs.Char.{is_ascii_alphabetic}
use Rattle.loc_spec_text.specs.Number.{is_number}
use Rattle.loc_wkt.proofs.{TokenFront.token_word, TokenFront.token_other, TokenLongest.longest-holds}
use Rattle.loc_wkt.proofs.tokens.lengths.token_length.Goals as goal

pub returns-then-word-gt0-clause-within : goal.returns-then-word-gt0-clause-within
returns-then-word-gt0-clause-within c = omega (arith, prefix_len-le-length is_ascii_alphabetic c.args.text.now)

pub returns-then-word-gt0-clause-longest : goal.returns-then-word-gt0-clause-longest
returns-then-word-gt0-clause-longest c = token_word c.args.text.now c.word_length-word.result c.word_length-word.ensures c.if-word-gt0.true

pub returns-clause-within : goal.returns-clause-within
returns-clause-within c = omega (arith, (longest-holds is_number c.args.text.now).at_most)

pub returns-clause-longest : goal.returns-clause-longest
returns-clause-longest c = c.max.ensures ∙ token_other c.args.text.now c.number_length.result (omega arith) c.number_length.ensures c.requires.some c.requires.no_white
