-- What stands at the front of a text's symbols. The words: `mark_at`, `is_word`, `number_at`, `goes_on_at`, `open_at`, `empty_at`, `point_mark_at`, `is_end`, `IsOn`.
use Rattle.std.specs.Prelude.{◌≡◌, ℕ, ℤ, IfSome, Bool, true, false, List, [], ◌∷◌, codes, if◌then◌else◌, Option, Some, None}
use Rattle.std.specs.Str.{byte, bytes_eq}
use Rattle.loc_spec_text.specs.Geometry.{Symbol, word, number, open_mark, close_mark, comma}
use Rattle.loc_spec_plane.specs.Points.{OnGrid}
use Rattle.loc_spec_text.specs.{Number.grid_value, Points.is_grid_number, Reader.Reader}

-- the byte of the mark at the front, and the symbols behind it
unfoldable pub mark_at : Reader ℕ
mark_at (open_mark ∷ ps) = Some (byte "(", ps)
mark_at (close_mark ∷ ps) = Some (byte ")", ps)
mark_at (comma ∷ ps) = Some (byte ",", ps)
mark_at _ = None

-- the symbol is this word, given in capitals
abbrev pub is_word : List ℕ → Symbol → Bool
is_word name (word w) = bytes_eq w name
is_word name _ = false

-- the number text at the front
unfoldable pub number_at : Reader (List ℕ)
number_at (number text ∷ ps) = Some (text, ps)
number_at _ = None

-- whether a comma or a close mark stands behind a member, so whether more members follow, and the symbols behind it
unfoldable pub goes_on_at : Reader Bool
goes_on_at (comma ∷ ps) = Some (true, ps)
goes_on_at (close_mark ∷ ps) = Some (false, ps)
goes_on_at _ = None

-- what follows an open mark
unfoldable pub open_at : List Symbol → Option (List Symbol)
open_at (open_mark ∷ ps) = Some ps
open_at _ = None

-- what follows the word EMPTY
unfoldable pub empty_at : List Symbol → Option (List Symbol)
empty_at (word w ∷ ps) = if bytes_eq w (codes "EMPTY") then Some ps else None
empty_at _ = None

-- what follows the word POINT and an open mark
unfoldable pub point_mark_at : List Symbol → Option (List Symbol)
point_mark_at (word w ∷ open_mark ∷ ps) = if bytes_eq w (codes "POINT") then Some ps else None
point_mark_at _ = None

-- a close mark and nothing behind it
unfoldable pub is_end : List Symbol → Bool
is_end (close_mark ∷ []) = true
is_end _ = false

-- this is the grid value of a number text, where it has one in range
pub record IsOn (scale : ℕ) (text : List ℕ) (v : Option ℤ) : Type 0 where
  pub value : v ≡ (if is_grid_number scale text then Some (grid_value scale text) else None)
  pub bound : IfSome v OnGrid
