-- A row as a simple command of `clap`, and what `clap` found under each name.
use Rattle.std.specs.Prelude.{◌≡◌, ℕ, List, ◌++◌, [], Bool, true, map, Option, Some, None, Result, Ok, Err, slice_get, ⊤}
use Rattle.clap.specs.Words.{App, Row, Rule, fault_of, found_of, matches_of, new_app, new_rule, rows_of}
use Rattle.clap.specs.{Simple.on_top, declared.builder.action.ArgAction.TheVariants.Set}
use Rattle.std.specs.declared.alloc.AllocError.{AllocError}
use Rattle.loc_spec_text.specs.Bytes.{Text}
use Rattle.loc_words.specs.Rows.{CommandRow, OptionRow, Entry, is_required, is_row, given_of}
use Rattle.loc_words.specs.{declared.parser.Given.Given, declared.row.OptionKind.OptionKind}
use Rattle.loc_words.specs.declared.row.OptionKind.TheVariants.{Flag}

-- a place, which is required
abbrev pub place_rule : Text → Rule
place_rule name = record (new_rule name) { required = true }

-- an option by its full name, which takes so many values
abbrev pub long_rule : Text → Bool → ℕ → Rule
long_rule name required values =
    record (new_rule name) { long = Some name; required = required; action = Some Set; range = Some (record { start_inclusive = values; end_inclusive = values }) }

-- how many values an option takes
abbrev pub values_of : OptionKind → ℕ
values_of Flag = 0
values_of kind = 1

-- an option of a row
abbrev pub option_rule : OptionRow → Rule
option_rule option = long_rule option.name (is_required option.kind) (values_of option.kind)

-- the places and then the options
abbrev pub rules_of : CommandRow → List Rule
rules_of row = map place_rule row.places ++ map option_rule row.options

-- a command with further rules
abbrev pub with_rules : App → List Rule → App
with_rules app rules = on_top (λ s. record s { rules = s.rules ++ rules }) app

-- a command that has no help, and whose words begin behind its name, with these rules
abbrev pub app_with : Text → List Rule → App
app_with name rules = on_top (λ s. record s { disable_help_flag = true; no_binary_name = true; rules = rules }) (new_app name)

-- the command of a row
abbrev pub app_of_row : CommandRow → App
app_of_row row = app_with row.name (rules_of row)

-- what was found under a name
abbrev pub entry_of : Row → Entry
entry_of row = (row.id, slice_get row.values 0)

-- all that was found
abbrev pub given_by : Given → List Entry
given_by given = map entry_of (rows_of (found_of given.matches))

-- what `clap` makes of words: all that it found where it takes them, nothing where it does not, or no memory
abbrev pub Parses : App → List Text → Result (Option Given) AllocError → Type 0
Parses app words (Ok (Some given)) = (fault_of app words ≡ []) × (given_by given ≡ map entry_of (matches_of app words))
Parses app words (Ok None) = fault_of app words ≡ [] → ⊥
Parses app words (Err e) = ⊤

-- `clap` takes all words that give something for a row by definition, and finds what they give
abbrev pub TakesRows : Type 0
TakesRows = (row : CommandRow) → is_row row ≡ true → (words : List Text) (given : List Entry) → given_of row words ≡ Some given
    → (fault_of (app_of_row row) words ≡ []) × (map entry_of (matches_of (app_of_row row) words) ≡ given)
