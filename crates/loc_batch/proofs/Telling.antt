-- What is told by a place is the answer by the rows of a legend.
use Rattle.std.proofs.Common.{◌≡◌, ℕ, List, [], ◌∷◌, map, Option, Some, None, Result, Ok, Err, refl, ◌∙◌, ap}
use Rattle.std.proofs.Math.Path.{fun_ext}
use Rattle.std.specs.Prelude.{option_map}
use Rattle.loc_spec_plane.specs.{Points.Point, declared.Place.Place}
use Rattle.loc_spec_text.specs.Answered.{Answered, answered, with_answer}
use Rattle.loc_spec_text.specs.Points.{Answer, point_of}
use Rattle.loc_place.specs.declared.locator.Deep.{Deep}
use Rattle.loc_cover.specs.Legends.{LegendRows}
use Rattle.loc_batch.specs.{Answering.answer_by, Answering.found_answer, Batches.Answering}
use Rattle.loc_batch.specs.{Streams.tally_of, Streams.with_one, declared.tally.Tally.Tally}
use Rattle.loc_batch.specs.Told.{Told, told_by, told_found, told_of, told_place, told_result, told_tally}

-- what is told by places is what is answered by them
pub told_places : (scale : ℕ) (finds : Point → Result Place Deep) (shown : Option ℕ → Option ℕ) (rows : LegendRows) → told_by scale finds (told_place shown rows) ≡ (λ line. told_result (answer_by scale finds shown rows line))
unfolding told_by answer_by
told_places scale finds shown rows = fun_ext (λ line. by (point_of scale line))
  where
    by : (p : Option Point) → told_found (told_place shown rows) (option_map finds p) ≡ told_result (found_answer rows shown (option_map finds p))
    by None = refl
    by (Some p) = refl

-- answers, as they are told
abbrev pub all_told : Answered Answer Deep → Answered Told Deep
all_told a = record { answers = map told_of a.answers; refusal = a.refusal }

pub told_answers : (answer : Answering) (lines : List (List ℕ)) → answered (λ line. told_result (answer line)) lines ≡ all_told (answered answer lines)
told_answers answer [] = refl
told_answers answer (line ∷ lines) = ap (with_answer (told_result (answer line))) (told_answers answer lines) ∙ by (answer line)
  where
    by : (r : Result Answer Deep) → with_answer (told_result r) (all_told (answered answer lines)) ≡ all_told (with_answer r (answered answer lines))
    by (Ok a) = refl
    by (Err d) = refl

-- they are counted the same
pub told_tallies : (t : Tally) (answers : List Answer) → told_tally t (map told_of answers) ≡ tally_of t answers
told_tallies t [] = refl
told_tallies t (a ∷ answers) = told_tallies (with_one a t) answers
