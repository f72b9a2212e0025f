-- What is told by places, as bytes, is what is answered by them.
use Rattle.std.proofs.Common.{◌≡◌, ℕ, ◌+◌, Bool, Option, Result, Ok, Err, refl, ◌∙◌, ap, subst, arith}
use Rattle.std.proofs.Math.Path.{fun_ext}
use Rattle.loc_spec_plane.specs.{Points.Point, declared.Place.Place}
use Rattle.loc_spec_text.specs.{Bytes.Text, Points.Answer}
use Rattle.loc_place.specs.declared.locator.Deep.{Deep}
use Rattle.loc_cover.specs.Legends.{LegendRows}
use Rattle.loc_batch.specs.{Answering.answer_by, Told.told_by, Told.told_place, Told.told_result}
use Rattle.loc_batch.proofs.Telling.{told_places}
use Rattle.loc_course.specs.{Courses.Source, Courses.Stopped, Moments.Moment, Streams.AnswersSource}
use Rattle.loc_answering.specs.ByLine.{as_bytes, by_line, told_by_line, told_bytes}

module _ (scale : ℕ) (finds : Point → Result Place Deep) (shown : Option ℕ → Option ℕ) (rows : LegendRows) where
  lines_are : told_by_line (told_by scale finds (told_place shown rows)) ≡ by_line (answer_by scale finds shown rows)
  lines_are = ap told_by_line (told_places scale finds shown rows) ∙ fun_ext (λ line. by (answer_by scale finds shown rows line))
    where
      by : (r : Result Answer Deep) → told_bytes (told_result r) ≡ as_bytes r
      by (Ok a) = refl
      by (Err d) = refl

  -- a source that was answered by places
  pub places_source : (source : Source) (searched : Text → Bool) (most : ℕ) (old new : Moment) (end : Option Stopped) → AnswersSource source searched (most + 0) (told_by_line (told_by scale finds (told_place shown rows))) old new end
      → AnswersSource source searched most (by_line (answer_by scale finds shown rows)) old new end
  places_source source searched most old new end p =
      let same : most + 0 ≡ most = omega arith in
      subst (λ (k : ℕ). AnswersSource source searched k (by_line (answer_by scale finds shown rows)) old new end) same
      (subst (λ (answer : Text → Result Text Text). AnswersSource source searched (most + 0) answer old new end) lines_are p)
