-- What is told to a line, whatever answers it: its bytes, and how they are counted. The words:
--   Told, Telling                    the bytes of an answer line and what it adds to a tally; what is told to each line, or that it is given up
--   told_line, told_text, told_tally the bytes of one and of many, and a tally with these more
--   told_of, told_result             an answer of the answer text, as it is told
--   told_found, told_by              what is told by what was found for a line's point
--   told_place                       the same by a place and the rows of a legend
use Rattle.std.specs.Prelude.{ℕ, List, [], ◌∷◌, Option, Some, None, Result, Ok, Err, option_map}
use Rattle.std.specs.List.{flat_map}
use Rattle.loc_spec_plane.specs.{declared.Place.Place, Points.Point}
use Rattle.loc_spec_text.specs.Points.{Answer, no_point, point_of}
use Rattle.loc_place.specs.declared.locator.Deep.{Deep}
use Rattle.loc_cover.specs.Legends.{LegendRows}
use Rattle.loc_batch.specs.{Answering.found_answer, Streams.line_of, Streams.with_one, declared.tally.Tally.Tally}

-- an answer line with its LF, and a tally with this answer more
pub record Told : Type 0 where
  pub line : List ℕ
  pub counted : Tally → Tally

-- what is told to each line, or that the search was given up
abbrev pub Telling : Type 0
Telling = List ℕ → Result Told Deep

-- the bytes of an answer line
abbrev pub told_line : Told → List ℕ
told_line told = told.line

-- the bytes of answer lines
abbrev pub told_text : List Told → List ℕ
told_text all = flat_map told_line all

-- a tally with these answers more
abbrev pub told_tally : Tally → List Told → Tally
told_tally t [] = t
told_tally t (told ∷ all) = told_tally (told.counted t) all

-- an answer, as it is written and counted
abbrev pub told_of : Answer → Told
told_of a = record { line = line_of a; counted = with_one a }

-- the same where the search may be given up
abbrev pub told_result : Result Answer Deep → Result Told Deep
told_result (Ok a) = Ok (told_of a)
told_result (Err deep) = Err deep

-- what is told by what was found for a point; a line that is no point is answered as one
abbrev pub told_found : {F : Type 0} → (F → Result Told Deep) → Option F → Result Told Deep
told_found tells None = Ok (told_of no_point)
told_found tells (Some found) = tells found

-- What is told to a line at a scale, by what is found for its point.
unfoldable pub told_by : {F : Type 0} → ℕ → (Point → F) → (F → Result Told Deep) → List ℕ → Result Told Deep
told_by scale finds tells line = told_found tells (option_map finds (point_of scale line))

-- what is told by a place: the answer by the rows of a legend and the numbers of faces
abbrev pub told_place : (Option ℕ → Option ℕ) → LegendRows → Result Place Deep → Result Told Deep
told_place shown rows found = told_result (found_answer rows shown (Some found))
