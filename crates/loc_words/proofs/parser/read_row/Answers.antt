use Rattle.std.proofs.Common.{◌≡◌, ◌∙◌, ap, map, string_bytes, subst, sym, true}
use Rattle.std.proofs.lemmas.List.{length-map}
use Rattle.clap.specs.Words.{is_simple_and_free}
use Rattle.loc_words.specs.{Apps.Parses, Tested.are_tested, Words.row_of}
use Rattle.loc_words.proofs.Whole.{untested, parsed, simple}
use Rattle.loc_words.proofs.parser.read_row.Goals as goal

pub returns-then-not-are_tested : goal.returns-then-not-are_tested
returns-then-not-are_tested c = sym (untested (row_of c.args.row.now) c.requires (map string_bytes c.args.words.now)
    (ap (λ n. are_tested n (map string_bytes c.args.words.now)) (length-map c.args.row.now.places.now (λ place. place.now)) ∙ sym c.if-not-are_tested.ensures))

pub read_words-requires : goal.read_words-requires
read_words-requires c = subst (λ app. is_simple_and_free app ≡ true) (sym c.in_ok-parser_of.ensures) (simple (row_of c.args.row.now) c.requires)

pub returns : goal.returns
returns c =
    let words = map string_bytes c.args.words.now in
    parsed (row_of c.args.row.now) c.requires words c.read_words.result
    (ap (λ n. are_tested n words) (length-map c.args.row.now.places.now (λ place. place.now)) ∙ sym c.if-not-are_tested.ensures)
    (subst (λ app. Parses app words c.read_words.result) c.in_ok-parser_of.ensures c.read_words.ensures)
