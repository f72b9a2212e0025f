use Rattle.std.proofs.Common.{◌≡◌, ◌∙◌, None, Some, map, option_and_then, option_map, string_bytes, ap, sym}
use Rattle.loc_words.specs.Apps.{given_by}
use Rattle.loc_words.specs.Words.{commands, made_in, row_in, row_of}
use Rattle.loc_words.proofs.NamedRows.{by_row, is_read, no_row}
use Rattle.loc_words.proofs.command.command_named.Goals as goal

pub returns-in_default-clause-value : goal.returns-in_default-clause-value
returns-in_default-clause-value c =
    let none : row_in commands c.args.name.now ≡ None = sym c.row_named.ensures ∙ ap (option_map (λ row. row_of row.now)) c.in_default.is in
    sym (no_row commands c.args.name.now (map string_bytes c.args.words.now) none)

pub read_row-requires : goal.read_row-requires
read_row-requires c = is_read c.args.name.now (row_of c.in-Some.row.now) (sym c.row_named.ensures ∙ ap (option_map (λ row. row_of row.now)) c.in-Some.is)

pub returns-in-Some-2-clause-value : goal.returns-in-Some-2-clause-value
returns-in-Some-2-clause-value c =
    let name = c.args.name.now in
    let words = map string_bytes c.args.words.now in
    let row = row_of c.in-Some.row.now in
    let found : row_in commands name ≡ Some row = sym c.row_named.ensures ∙ ap (option_map (λ row. row_of row.now)) c.in-Some.is in
    c.command_from.ensures.value ∙ sym (by_row commands name words row found ∙ ap (option_and_then (made_in commands name)) (sym c.in_ok-given.ensures ∙ ap (option_map given_by) c.in-Some-2.is))

pub returns-in-None-clause-value : goal.returns-in-None-clause-value
returns-in-None-clause-value c =
    let name = c.args.name.now in
    let words = map string_bytes c.args.words.now in
    let row = row_of c.in-Some.row.now in
    let found : row_in commands name ≡ Some row = sym c.row_named.ensures ∙ ap (option_map (λ row. row_of row.now)) c.in-Some.is in
    sym (by_row commands name words row found ∙ ap (option_and_then (made_in commands name)) (sym c.in_ok-given.ensures ∙ ap (option_map given_by) c.in-None.is))
