-- What comes of feeding all points to a fresh batch at once, where no line is given up and no write fails.
use Rattle.std.proofs.Common.{◌≡◌, ℕ, ◌-◌, ◌≤◌, List, [], ◌∷◌, ◌++◌, length, take, take_all, Option, None, Result, Ok, Err, refl, sym, ◌∙◌, ap, ap₂, subst, arith}
use Rattle.loc_io.specs.Streams.{Stream}
use Rattle.loc_spec_plane.specs.{Points.Point, declared.Place.Place}
use Rattle.loc_spec_text.specs.{Answered.answered, Answered.with_answer, Bytes.ended_lines}
use Rattle.loc_place.specs.declared.locator.Deep.{Deep}
use Rattle.loc_cover.specs.Legends.{LegendRows}
use Rattle.loc_batch.specs.{Answering.answer_by, Faces.unnumbered, Streams.tally_of}
use Rattle.loc_batch.specs.Batches.{Answering, BatchState, FaultFirst, Feeds, FeedsBy, IsFresh, lines_ended, no_tally, refusal_of}
use Rattle.loc_batch.specs.Told.{Telling, told_by, told_place, told_result, told_tally}
use Rattle.loc_batch.proofs.Telling.{told_answers, told_places, told_tallies}
use Rattle.loc_batch.specs.declared.faults.FeedFault.{FeedFault}
use Rattle.loc_batch.specs.declared.faults.FeedFault.TheVariants as f
use Rattle.loc_trial.specs.Asked.{AnswersAll}

-- no line is given up
none_given_up : (answer : Answering) → AnswersAll answer → (lines : List (List ℕ)) → (answered answer lines).refusal ≡ None
none_given_up answer all [] = refl
none_given_up answer all (line ∷ lines) = ap (λ r. (with_answer r (answered answer lines)).refusal) (all line).1 ∙ none_given_up answer all lines

-- what is told to each line
abbrev told : Answering → Telling
told answer line = told_result (answer line)

none_refused : (answer : Answering) → AnswersAll answer → (lines : List (List ℕ)) → refusal_of (told answer) lines ≡ None
none_refused answer all lines = ap (λ a. a.refusal) (told_answers answer lines) ∙ none_given_up answer all lines

module _ (finds : Point → Result Place Deep) (rows : LegendRows) (all : AnswersAll (answer_by 0 finds unnumbered rows)) (s s' : BatchState) (piece : List ℕ) (o o' : Stream) (fresh : IsFresh s) (scale : s.scale ≡ 0) (fits : length piece ≤ s.limit) where
  abbrev answer : Answering
  answer = answer_by 0 finds unnumbered rows

  -- the lines that are ended are those of the piece
  pub lines_fed : lines_ended s piece ≡ ended_lines piece
  lines_fed = ap₂ (λ front room. ended_lines (front ++ take room piece)) fresh.line (ap (λ fed. s.limit - fed) fresh.fed) ∙ ap ended_lines (take_all (s.limit - 0) piece (omega (arith, fits)))

  by_fault : (r : Result (Unit {0}) FeedFault) → Feeds (told_by s.scale finds (told_place unnumbered rows)) s s' piece o o' r → FeedsBy (told answer) s s' piece o o' r
  by_fault r feeds =
      let same = ap (λ k. told_by k finds (told_place unnumbered rows)) scale ∙ told_places 0 finds unnumbered rows in
      subst (λ (a : Telling). FeedsBy a s s' piece o o' r) same (subst (λ (fault : Option FeedFault). FaultFirst fault s s' o o' r (FeedsBy (told_by s.scale finds (told_place unnumbered rows)) s s' piece o o' r)) fresh.fault feeds).0

  -- no fault comes
  pub no_fault : o'.faults ≡ 0 → o.faults ≡ 0 → (fault : FeedFault) → Feeds (told_by s.scale finds (told_place unnumbered rows)) s s' piece o o' (Err fault) → ⊥
  no_fault steady from fault feeds = by fault (by_fault (Err fault) feeds)
    where
      by : (fault : FeedFault) → FeedsBy (told answer) s s' piece o o' (Err fault) → ⊥
      by (f.Deep version) came = absurd (let e = sym (none_refused answer all (lines_ended s piece)) ∙ came.0 in cc e)
      by f.PointsLong came = omega (arith, came.0, fresh.fed, fits)
      by f.WriteFault came = omega (arith, came.rose, steady, from)

  -- the answers are counted
  pub counted : (u : Unit {0}) → Feeds (told_by s.scale finds (told_place unnumbered rows)) s s' piece o o' (Ok u) → s'.tally ≡ tally_of no_tally (answered answer (ended_lines piece)).answers
  counted u feeds = (by_fault (Ok u) feeds).2.counted ∙ (ap₂ (λ t ls. told_tally t (answered (told answer) ls).answers) fresh.tally lines_fed
      ∙ (ap (λ a. told_tally no_tally a.answers) (told_answers answer (ended_lines piece)) ∙ told_tallies no_tally (answered answer (ended_lines piece)).answers))
