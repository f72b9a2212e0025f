-- What is answered by the marks of a table alone, without floors and cover lists. The words:
--   features_where   the marked features that pass a test
--   ids_marked       their ids
--   answer_with      the answer at a place, with the ids of these features
--   answer_marked    what is answered to a point by the marks
--   AnswersByMarks   the answers to lines are those by the marks
use Rattle.std.specs.Prelude.{◌≡◌, ℕ, Bool, List, [], filter, get_or, map, Option, None, Result, Ok}
use Rattle.loc_spec_plane.specs.{Covers.feature_count, Lists.numbers, Points.Point}
use Rattle.loc_spec_plane.specs.{Tables.Table, Tables.covers_by_marks, Tables.touches_by_marks, declared.Place.Place}
use Rattle.loc_spec_plane.specs.declared.Place.TheVariants.{Corner, Border, Area}
use Rattle.loc_spec_text.specs.{Answered.answered, Bytes.lines}
use Rattle.loc_spec_text.specs.Points.{Answer, on_corner, on_border, in_face, answer_to, output, point_of}
use Rattle.loc_place.specs.{Found.place_at, declared.locator.Deep.Deep}
use Rattle.loc_cover.specs.Legends.{LegendRows}
use Rattle.loc_batch.specs.{Answering.answer_by, Streams.text_of}

-- the features that are marked and pass a test, in order
abbrev pub features_where : Table → (ℕ → Bool) → List ℕ
features_where t test = filter test (numbers (feature_count t))

-- their ids
abbrev pub ids_marked : List (List ℕ) → Table → (ℕ → Bool) → List (List ℕ)
ids_marked ids t test = map (λ f. get_or ids f []) (features_where t test)

-- the answer at a place, with the number of the face above a floor, and the ids of the features that touch the point and that cover it
abbrev pub answer_with : (Option ℕ → Option ℕ) → Place → List (List ℕ) → List (List ℕ) → Answer
answer_with shown (Corner n) on covering = on_corner n on covering
answer_with shown (Border n) on covering = on_border n on covering
answer_with shown (Area floor) on covering = in_face (shown floor) covering

-- what is answered to a point: its place in the table, and the features that touch and cover it by the marks
abbrev pub answer_marked : (Option ℕ → Option ℕ) → List (List ℕ) → Table → Point → Answer
answer_marked shown ids t p = answer_with shown (place_at t p) (ids_marked ids t (λ f. touches_by_marks t f p)) (ids_marked ids t (λ f. covers_by_marks t f p))

-- each line is answered by the marks, and none is given up
abbrev pub AnswersByMarks : (Point → Result Place Deep) → Table → LegendRows → Type 0
AnswersByMarks finds t rows = (scale : ℕ) (shown : Option ℕ → Option ℕ) (line : List ℕ) → answer_by scale finds shown rows line ≡ Ok (answer_to (point_of scale) (answer_marked shown rows.ids t) line)

-- so the answers to the lines of a text are the output by the marks
abbrev pub WritesByMarks : (Point → Result Place Deep) → Table → LegendRows → Type 0
WritesByMarks finds t rows = (scale : ℕ) (shown : Option ℕ → Option ℕ) (text : List ℕ)
    → ((answered (answer_by scale finds shown rows) (lines text)).refusal ≡ None) × (text_of (answered (answer_by scale finds shown rows) (lines text)).answers ≡ output (point_of scale) (answer_marked shown rows.ids t) text)
