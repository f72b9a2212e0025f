-- The row that a name has, and the command of its name that words are.
use Rattle.std.proofs.Common.{◌≡◌, ◌∙◌, Bool, true, false, List, [], ◌∷◌, map, find, if◌then◌else◌, Option, Some, None, option_and_then, ap, refl, subst, sym}
use Rattle.std.specs.{List.list_all, Str.bytes_eq}
use Rattle.std.proofs.{lemmas.Bool.and_parts, lemmas.Option.same_Some}
use Rattle.loc_spec_text.specs.Bytes.{Text}
use Rattle.loc_words.specs.Rows.{CommandRow, Entry, given_of, is_row}
use Rattle.loc_words.specs.Words.{Asked, Making, commands, made_in, named_in, row_in}

-- the first command, if it has the name, or else a later one
first_or_later : (here : Bool) (first row : CommandRow) (by later : List Entry → Option Asked) (rows : Option CommandRow) (named : Option Asked) (words : List Text) → (if here then Some first else rows) ≡ Some row
    → (rows ≡ Some row → named ≡ option_and_then later (given_of row words))
    → (if here then option_and_then by (given_of first words) else named) ≡ option_and_then (λ given. if here then by given else later given) (given_of row words)
first_or_later true first row by later rows named words is rest = ap (λ r. option_and_then by (given_of r words)) (same_Some first row is)
first_or_later false first row by later rows named words is rest = rest is

-- the words behind a name are read by its row
pub by_row : (all : List Making) (name : Text) (words : List Text) (row : CommandRow) → row_in all name ≡ Some row → named_in all name words ≡ option_and_then (made_in all name) (given_of row words)
by_row [] name words row is = absurd (cc is)
by_row (by ∷ all) name words row is = first_or_later (bytes_eq name by.0.name) by.0 row by.1 (made_in all name) (row_in all name) (named_in all name words) words is (by_row all name words row)

-- with no row no words are a command
pub no_row : (all : List Making) (name : Text) (words : List Text) → row_in all name ≡ None → named_in all name words ≡ None
no_row [] name words is = refl
no_row (by ∷ all) name words is = not_first (bytes_eq name by.0.name) (no_row all name words) is
  where
    not_first : (here : Bool) → (row_in all name ≡ None → named_in all name words ≡ None) → (if here then Some by.0 else row_in all name) ≡ None
        → (if here then option_and_then by.1 (given_of by.0 words) else named_in all name words) ≡ None
    not_first true rest none = absurd (cc none)
    not_first false rest none = rest none

-- the row that is found has what all rows have
pub found_holds : (p test : CommandRow → Bool) (rows : List CommandRow) (row : CommandRow) → list_all p rows ≡ true → find test rows ≡ Some row → p row ≡ true
found_holds p test [] row each is = absurd (cc is)
found_holds p test (first ∷ rows) row each is = let parts = and_parts (p first) (list_all p rows) each in of_both (test first) parts.0 (found_holds p test rows row parts.1) is
  where
    of_both : (here : Bool) → p first ≡ true → (find test rows ≡ Some row → p row ≡ true) → (if here then Some first else find test rows) ≡ Some row → p row ≡ true
    of_both true holds rest is = ap p (sym (same_Some first row is)) ∙ holds
    of_both false holds rest is = rest is

-- the row of a name can be read
pub is_read : (name : Text) (row : CommandRow) → row_in commands name ≡ Some row → is_row row ≡ true
is_read name row is = found_holds is_row (λ row. bytes_eq name row.name) (map (λ by. by.0) commands) row refl is

-- what a command makes is found by each name that is equal to its own
pub made_by_name : (name same : Text) (given : List Entry) (answer : Option Asked) → name ≡ same → answer ≡ made_in commands same given → answer ≡ made_in commands name given
made_by_name name same given answer is made = subst (λ n. answer ≡ made_in commands n given) (sym is) made
