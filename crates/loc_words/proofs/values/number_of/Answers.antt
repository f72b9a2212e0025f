use Rattle.std.proofs.Common.{◌≡◌, ◌∙◌, rules, length, ◌<◌, true}
use Rattle.std.specs.{Char.is_ascii_digit, List.list_all}
use Rattle.loc_words.proofs.Numbers.{parsed}
use Rattle.loc_words.proofs.values.number_of.Goals as goal

pub returns : goal.returns
returns c =
    let some : 0 < length c.args.word.now = search rules in
    let digits : list_all is_ascii_digit c.args.word.now ≡ true = search rules in
    c.ok.ensures.value ∙ parsed c.args.word.now c.parse.result some c.if-word-gt-MOST_DIGITS.false digits c.parse.ensures.value.0
