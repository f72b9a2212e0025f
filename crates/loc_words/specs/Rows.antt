-- Commands as rows. A row has a name, places, and options, which take a value or are flags. `settings` are the options that
-- stand in words, and `given_of` is what the words behind a command's name give: each place and each option that stands.
use Rattle.std.specs.Prelude.{ℕ, ◌==◌, Bool, true, false, not, ◌&&◌, ◌||◌, List, [], ◌∷◌, ◌++◌, length, map, codes, drop, find, nat_lt, if◌then◌else◌, Option, Some, None, option_map, option_and_then}
use Rattle.std.specs.List.{list_all, list_any, before_first, after_first}
use Rattle.std.specs.{Option.option_map_or, Str.bytes_eq, Str.byte}
use Rattle.loc_spec_text.specs.Bytes.{Text}
use Rattle.loc_words.specs.declared.row.OptionKind.{OptionKind}
use Rattle.loc_words.specs.declared.row.OptionKind.TheVariants.{Required, Flag}

-- an option by its name, and what it takes
pub record OptionRow : Type 0 where
  pub name : Text
  pub kind : OptionKind

-- a command: its name, its places, and its options
pub record CommandRow : Type 0 where
  pub name : Text
  pub places : List Text
  pub options : List OptionRow

-- no two names are the same
abbrev pub are_different : List Text → Bool
are_different [] = true
are_different (name ∷ names) = not (list_any (bytes_eq name) names) && are_different names

-- the places and options of a row
abbrev pub names_of : CommandRow → List Text
names_of row = row.places ++ map (λ option. option.name) row.options

-- a row that can be read: its names differ, none is empty, and it has fewer than 100 places
abbrev pub is_row : CommandRow → Bool
is_row row = are_different (names_of row) && not (list_any (bytes_eq []) (names_of row)) && nat_lt (length row.places) 100

-- a place or a value: not empty, and it does not begin with "-"
abbrev pub is_value : Text → Bool
is_value [] = false
is_value (first ∷ word) = not (first == byte "-")

-- the sign between an option and its value
abbrev pub is_equals : ℕ → Bool
is_equals sign = sign == byte "="

-- what stands under a name: a value, or nothing for a flag
abbrev pub Entry : Type 0
Entry = Text × Option Text

-- an option and its value in one word, cut at its first "=", or an option alone
abbrev pub in_one_word : Text → Entry
in_one_word word = if list_any is_equals word then (before_first is_equals word, Some (after_first is_equals word)) else (word, None)

-- the options as they stand, from the left: `--name=value` in one word, `--name` and its value in two, or `--name` alone
abbrev pub settings : List Text → List Entry
settings [] = []
settings (word ∷ []) = in_one_word word ∷ []
settings (word ∷ next ∷ words) = if not (list_any is_equals word) && is_value next then (word, Some next) ∷ settings words
    else in_one_word word ∷ settings (next ∷ words)

-- an option of this kind takes what stands with it
abbrev pub takes : OptionKind → Option Text → Bool
takes Flag None = true
takes Flag (Some value) = false
takes kind None = false
takes kind (Some value) = is_value value

-- the option that a word is, by its full name behind two hyphens
abbrev pub option_in : List OptionRow → Text → Option OptionRow
option_in options word = find (λ option. bytes_eq (codes "--" ++ option.name) word) options

-- it is one of the options, and takes what stands with it
abbrev pub is_of : List OptionRow → Entry → Bool
is_of options setting = option_map_or (λ option. takes option.kind setting.1) (option_in options setting.0) false

-- a setting by the option's name, without its hyphens
abbrev pub named : Entry → Entry
named setting = (drop 2 setting.0, setting.1)

-- the settings of these options, if all are
abbrev pub settings_of : List OptionRow → List Entry → Option (List Entry)
settings_of options found = if list_all (is_of options) found then Some (map named found) else None

-- the values of the places, which stand in front, and the settings of the options behind them
abbrev pub entries_of : List OptionRow → List Text → List Text → Option (List Entry)
entries_of options [] words = settings_of options (settings words)
entries_of options (place ∷ places) [] = None
entries_of options (place ∷ places) (word ∷ words) = if is_value word then option_map (λ entries. (place, Some word) ∷ entries) (entries_of options places words) else None

-- something stands under this name
abbrev pub stands : List Entry → Text → Bool
stands given name = list_any (λ entry. bytes_eq entry.0 name) given

-- the value under this name, where there is one
abbrev pub value_in : List Entry → Text → Option Text
value_in given name = option_and_then (λ entry. entry.1) (find (λ entry. bytes_eq entry.0 name) given)

-- the command must have the option
abbrev pub is_required : OptionKind → Bool
is_required Required = true
is_required kind = false

-- no name stands twice, and each option stands that the command must have
abbrev pub is_whole : List OptionRow → List Entry → Bool
is_whole options given = are_different (map (λ entry. entry.0) given) && list_all (λ option. not (is_required option.kind) || stands given option.name) options

-- what the words behind the command's name give, if they are words of such a command
abbrev pub given_of : CommandRow → List Text → Option (List Entry)
given_of row words = option_and_then (λ given. if is_whole row.options given then Some given else None) (entries_of row.options row.places words)
