-- Point lines, printed coordinates, answer lines and the whole output (this product's own). The words:
--   point_texts, is_grid_number, point_on_grid, point_of  the point that a line reads as
--   padded_digits, fraction_text, grid_text, position_text  coordinates in print
--   quoted_byte, quoted, ids_text  ids in print
--   Answer, face_number, answer_text, ended  an answer, and its line
--   answer_to, output              the answers to the lines of a text
use Rattle.std.specs.Prelude.{ℕ, zero, suc, ◌+◌, ◌/◌, ◌%◌, ◌^◌, Bool, ◌&&◌, List, [], ◌∷◌, ◌++◌, length, codes, nat_le, ◌==◌, if◌then◌else◌, ℤ, pos, unsigned_abs, int_lt, Option, Some, None, option_map, option_and_then, unwrap_or}
use Rattle.std.specs.{Fmt.decimal, List.flat_map, Str.bytes_eq, Str.byte}
use Rattle.loc_spec_text.specs.{Limits.most_line, Bytes.lines, Number.is_on_grid, Number.is_in_range, Reading.position}
use Rattle.loc_spec_text.specs.Geometry.{Symbol, word, number, open_mark, close_mark, symbols, PointText}
use Rattle.loc_spec_plane.specs.Points.{Point}

-- Two numbers, or the word POINT and two numbers in parentheses (OGC 06-103r4, 7.2.2, point text).
abbrev pub point_texts : List Symbol → Option PointText
point_texts (number x ∷ number y ∷ []) = Some (x, y)
point_texts (word w ∷ open_mark ∷ number x ∷ number y ∷ close_mark ∷ []) = if bytes_eq w (codes "POINT") then Some (x, y) else None
point_texts _ = None

-- a number text on the grid and in range
abbrev pub is_grid_number : ℕ → List ℕ → Bool
is_grid_number scale text = is_on_grid scale text && is_in_range scale text

-- the point of two number texts at a scale: there is none where a number is off the grid or out of range
abbrev pub point_on_grid : ℕ → PointText → Option Point
point_on_grid scale p = if is_grid_number scale p.0 && is_grid_number scale p.1 then Some (position scale p) else None

-- the point of a line that is not too long, if it reads as one
abbrev pub point_of : ℕ → List ℕ → Option Point
point_of scale line = if nat_le (length line) most_line then option_and_then (point_on_grid scale) (point_texts (symbols line)) else None

-- exactly n digits, zeros in front
abbrev pub padded_digits : ℕ → ℕ → List ℕ
padded_digits zero n = []
padded_digits (suc k) n = padded_digits k (n / 10) ++ (48 + n % 10) ∷ []

-- a point and exactly as many digits as the scale says, or nothing at scale 0
abbrev pub fraction_text : ℕ → ℕ → List ℕ
fraction_text zero n = []
fraction_text (suc k) n = byte "." ∷ padded_digits (suc k) n

-- A grid value printed: a minus where it is negative, the whole part, and the fraction.
abbrev pub grid_text : ℕ → ℤ → List ℕ
grid_text scale value = (if int_lt value (pos 0) then codes "-" else [])
    ++ decimal (unsigned_abs value / 10 ^ scale)
    ++ fraction_text scale (unsigned_abs value % 10 ^ scale)

-- x, a space, y
abbrev pub position_text : ℕ → Point → List ℕ
position_text scale p = grid_text scale p.x ++ byte " " ∷ grid_text scale p.y

-- a byte of an id, a double quote doubled
abbrev pub quoted_byte : ℕ → List ℕ
quoted_byte b = if b == byte "\"" then b ∷ b ∷ [] else b ∷ []

-- an id in double quotes, each inner one doubled, with a space in front
abbrev pub quoted : List ℕ → List ℕ
quoted id = codes " \"" ++ flat_map quoted_byte id ++ codes "\""

-- the ids in order
abbrev pub ids_text : List (List ℕ) → List ℕ
ids_text ids = flat_map quoted ids

-- What is answered to a point line: where the point lies, with the ids of the features that touch it and that cover it.
pub data Answer : Type 0 where
  on_corner : ℕ → List (List ℕ) → List (List ℕ) → Answer
  on_border : ℕ → List (List ℕ) → List (List ℕ) → Answer
  in_face : Option ℕ → List (List ℕ) → Answer
  no_point : Answer

-- the number of the face, where it is asked for
abbrev pub face_number : Option ℕ → List ℕ
face_number None = []
face_number (Some n) = byte " " ∷ decimal n

-- the answer line without its end
abbrev pub answer_text : Answer → List ℕ
answer_text (on_corner n on covering) = codes "corner " ++ decimal n ++ codes " on" ++ ids_text on ++ codes " in" ++ ids_text covering
answer_text (on_border n on covering) = codes "border " ++ decimal n ++ codes " on" ++ ids_text on ++ codes " in" ++ ids_text covering
answer_text (in_face face covering) = codes "face" ++ face_number face ++ codes " in" ++ ids_text covering
answer_text no_point = codes "unread"

-- a line with its LF
abbrev pub ended : List ℕ → List ℕ
ended line = line ++ 10 ∷ []

-- the answer to a line, given as what point a line reads and what is answered to a point
abbrev pub answer_to : (List ℕ → Option Point) → (Point → Answer) → List ℕ → Answer
answer_to read located line = unwrap_or (option_map located (read line)) no_point

-- the answers to all lines of a points text, in order, each with LF
abbrev pub output : (List ℕ → Option Point) → (Point → Answer) → List ℕ → List ℕ
output read located text = flat_map (λ line. ended (answer_text (answer_to read located line))) (lines text)
