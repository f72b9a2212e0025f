use Rattle.std.proofs.Common.{◌∙◌, ap, sym, lit<, ◌≡◌}
use Rattle.std.specs.List.{after_first}
use Rattle.std.proofs.lemmas.Str.Pattern.{split_once_first}
use Rattle.loc_words.specs.{Rows.is_equals, Rows.is_value, Tested.has_value}
use Rattle.loc_words.proofs.Cuts.{any-passes, none-passes}
use Rattle.loc_words.proofs.words.has_value.Goals as goal

pub returns-in-None : goal.returns-in-None
returns-in-None c =
    let h = rw c.in-None.is at (split_once_first 61 c.args.word.now c.split_once.result c.split_once.ensures.cases (lit< tt)) in
    let none = none-passes is_equals c.args.word.now h in
    simp none

pub returns-in-Some : goal.returns-in-Some
returns-in-Some c =
    let h = rw c.in-Some.is at (split_once_first 61 c.args.word.now c.split_once.result c.split_once.ensures.cases (lit< tt)) in
    let some = any-passes is_equals c.args.word.now h.0 in
    let behind : has_value c.args.word.now ≡ is_value (after_first is_equals c.args.word.now) = simp some in
    c.is_value.ensures ∙ ap is_value h.2 ∙ sym behind
