use Rattle.std.proofs.Common.{◌≡◌, ◌∙◌, ◌++◌, map, ap, ap₂, sym, subst}
use Rattle.std.specs.Prelude.{IfOk}
use Rattle.std.proofs.lemmas.Simd.{map-map}
use Rattle.clap.specs.Words.{app_of}
use Rattle.loc_words.specs.Apps.{app_with, option_rule, place_rule, with_rules}
use Rattle.loc_words.specs.Words.{option_of}
use Rattle.loc_words.proofs.parser.parser_of.Goals as goal

pub returns : goal.returns
returns c =
    let row = c.args.row.now in
    let places = map (λ place. place_rule place.now) row.places.now in
    let options = map (λ option. option_rule (option_of option)) row.options.now in
    subst (λ app. IfOk c.add_options.result (λ r. app_of r ≡ app))
    (ap (λ app. with_rules app options) (c.in_ok-command.ensures ∙ ap (λ app. with_rules app places) c.bare_command.ensures)
    ∙ ap₂ (λ a b. app_with row.name.now (a ++ b)) (sym (map-map place_rule (λ place. place.now) row.places.now)) (sym (map-map option_rule option_of row.options.now)))
    c.add_options.ensures
