-- The symbols of printed values, of points, and of lists in parentheses.
use Rattle.std.proofs.Common.{◌≡◌, ℕ, zero, suc, ◌/◌, ◌%◌, ◌^◌, ◌<◌, Bool, true, false, List, [], ◌∷◌, ◌++◌, length, map, append_assoc, append-nil, ℤ, pos, refl, sym, ◌∙◌, ap, arith}
use Rattle.std.specs.Prelude.{codes, unsigned_abs, int_lt}
use Rattle.std.specs.{Char.is_ascii_alphabetic, Char.is_ascii_digit, Fmt.decimal, List.AllByRecursion, List.list_all}
use Rattle.std.proofs.{lemmas.Bool.and_parts, lemmas.Bool.lt-leb, lemmas.Fmt.decimal_is_IsNumeral}
use Rattle.std.proofs.lemmas.List.Folds.{list_all-append}
use Rattle.loc_spec_plane.specs.Points.{IsGridPoint, OnGrid, Point}
use Rattle.loc_spec_text.specs.{Bytes.Text, Number.is_number}
use Rattle.loc_spec_text.specs.Geometry.{close_mark, comma, ends_symbol, enclosed as enclosed_symbols, number, open_mark, separated, Symbol, symbol_of, symbols}
use Rattle.loc_spec_text.specs.Points.{fraction_text, grid_text, padded_digits, position_text}
use Rattle.loc_spec_text.proofs.DigitLaws.{digit_range, decimal_digits, plain_digits}
use Rattle.loc_spec_text.proofs.SymbolLaws.{is_plain, run_first}
use Rattle.loc_spec_groups.specs.GroupTexts.{enclosed, listed}
use Rattle.loc_wkt.proofs.SymbolLemmas.{not_that}
use Rattle.loc_laws_regroup.proofs.Grids.{grid_text_is, grid_text_reads, padded_are, sign_text, text_by, whole_small}

-- ---- a printed value is one symbol

plain_text : (negative : Bool) (ds : Text) (scale n : ℕ) → list_all is_ascii_digit ds ≡ true → list_all is_plain (text_by negative ds scale n) ≡ true
plain_text negative ds scale n digits =
    list_all-append is_plain (sign_text negative) (ds ++ fraction_text scale n)
    ∙ rw (sign negative, list_all-append is_plain ds (fraction_text scale n), plain_digits ds digits, fraction scale) refl
  where
    sign : (negative : Bool) → list_all is_plain (sign_text negative) ≡ true
    sign true = refl
    sign false = refl

    fraction : (scale : ℕ) → list_all is_plain (fraction_text scale n) ≡ true
    fraction zero = refl
    fraction (suc k) = plain_digits (padded_digits (suc k) n) (padded_are (suc k) n)

no_letters : (negative : Bool) (ds : Text) (scale n : ℕ) → 0 < length ds → list_all is_ascii_digit ds ≡ true
    → (list_all is_ascii_alphabetic (text_by negative ds scale n) ≡ false) × (0 < length (text_by negative ds scale n))
no_letters negative [] scale n some digits = absurd (omega (arith, some))
no_letters true (c ∷ cs) scale n some digits = (refl, omega arith)
no_letters false (c ∷ cs) scale n some digits =
    let range = digit_range c (and_parts (is_ascii_digit c) (list_all is_ascii_digit cs) digits).0 in
    let low = lt-leb 65 c (omega (arith, range.1)) in
    let high = lt-leb 97 c (omega (arith, range.1)) in
    (simp (low, high), omega arith)

number_symbol : (text : Text) → is_number text ≡ true → list_all is_ascii_alphabetic text ≡ false → symbol_of text ≡ number text
number_symbol text is letters =
    let left = not_that is_number text (codes "(") is refl in
    let right = not_that is_number text (codes ")") is refl in
    let mark = not_that is_number text (codes ",") is refl in
    rw (left, right, mark, letters, is) refl

grid_first : (scale : ℕ) (v : ℤ) (rest : Text) → OnGrid v → ends_symbol rest ≡ true → symbols (grid_text scale v ++ rest) ≡ number (grid_text scale v) ∷ symbols rest
grid_first scale v rest on ends =
    let small = whole_small scale v on in
    let digits = decimal_digits (unsigned_abs v / 10 ^ scale) small in
    let first = no_letters (int_lt v (pos 0)) (decimal (unsigned_abs v / 10 ^ scale)) scale (unsigned_abs v % 10 ^ scale) (decimal_is_IsNumeral (unsigned_abs v / 10 ^ scale) small).0.0 digits in
    let plain = plain_text (int_lt v (pos 0)) (decimal (unsigned_abs v / 10 ^ scale)) scale (unsigned_abs v % 10 ^ scale) digits in
    let is = (grid_text_reads scale v on).number in
    let text = grid_text_is scale v in
    run_first (grid_text scale v) rest (rw text first.1) (rw text plain) ends
    ∙ ap (λ s. s ∷ symbols rest) (number_symbol (grid_text scale v) is (rw text first.0))

-- a position is two numbers
pub position_first : (scale : ℕ) (p : Point) (rest : Text) → IsGridPoint p → ends_symbol rest ≡ true → symbols (position_text scale p ++ rest) ≡ number (grid_text scale p.x) ∷ number (grid_text scale p.y) ∷ symbols rest
position_first scale p rest on ends =
    ap symbols (append_assoc (grid_text scale p.x) (32 ∷ grid_text scale p.y) rest)
    ∙ grid_first scale p.x (32 ∷ (grid_text scale p.y ++ rest)) on.0 refl
    ∙ ap (λ ps. number (grid_text scale p.x) ∷ ps) (grid_first scale p.y rest on.1 ends)

-- ---- lists of what has symbols
module _ {X : Type 0} (text : X → Text) (spelled : X → List Symbol) (Good : X → Type 0)
    (first : (x : X) (rest : Text) → Good x → ends_symbol rest ≡ true → symbols (text x ++ rest) ≡ spelled x ++ symbols rest) where
  listed_first : (x : X) (xs : List X) (rest : Text) → AllByRecursion Good (x ∷ xs) → ends_symbol rest ≡ true
      → symbols (listed (map text (x ∷ xs)) ++ rest) ≡ separated spelled (x ∷ xs) ++ symbols rest
  listed_first x [] rest good ends = ap (λ t. symbols (t ++ rest)) (append-nil (text x)) ∙ first x rest good.0 ends
  listed_first x (y ∷ ys) rest good ends =
      ap symbols (append_assoc (text x) (44 ∷ 32 ∷ listed (map text (y ∷ ys))) rest)
      ∙ first x (44 ∷ 32 ∷ (listed (map text (y ∷ ys)) ++ rest)) good.0 refl
      ∙ ap (λ ps. spelled x ++ (comma ∷ ps)) (listed_first y ys rest good.1 ends)
      ∙ sym (append_assoc (spelled x) (comma ∷ separated spelled (y ∷ ys)) (symbols rest))

  pub enclosed_first : (x : X) (xs : List X) (rest : Text) → AllByRecursion Good (x ∷ xs)
      → symbols (enclosed (map text (x ∷ xs)) ++ rest) ≡ enclosed_symbols spelled (x ∷ xs) ++ symbols rest
  enclosed_first x xs rest good =
      ap (λ t. symbols (40 ∷ t)) (append_assoc (listed (map text (x ∷ xs))) (41 ∷ []) rest)
      ∙ ap (λ ps. open_mark ∷ ps) (listed_first x xs (41 ∷ rest) good refl ∙ sym (append_assoc (separated spelled (x ∷ xs)) (close_mark ∷ []) (symbols rest)))
