-- What is tested of words before they are parsed. The words: `is_long`, `has_value`, `is_tested`, `are_tested`.
use Rattle.std.specs.Prelude.{ℕ, ◌==◌, Bool, false, not, ◌&&◌, ◌||◌, List, [], ◌∷◌, length, nat_le, take, drop}
use Rattle.std.specs.{List.list_all, List.list_any, List.after_first, Str.byte}
use Rattle.loc_spec_text.specs.Bytes.{Text}
use Rattle.loc_words.specs.Rows.{is_equals, is_value}

-- two hyphens and a byte at least
abbrev pub is_long : Text → Bool
is_long [] = false
is_long (first ∷ []) = false
is_long (first ∷ second ∷ []) = false
is_long (first ∷ second ∷ third ∷ word) = (first == byte "-") && (second == byte "-")

-- what stands behind the first "=" is a value, if there is one
abbrev pub has_value : Text → Bool
has_value word = not (list_any is_equals word) || is_value (after_first is_equals word)

-- a word that may stand behind the places: a value, or an option by its full name, with a value behind its "=" if it has one
abbrev pub is_tested : Text → Bool
is_tested word = is_value word || (is_long word && has_value word)

-- the words begin with so many places, and the others may stand behind them
abbrev pub are_tested : ℕ → List Text → Bool
are_tested places words = nat_le places (length words) && (list_all is_value (take places words) && list_all is_tested (drop places words))
