-- What `features` answers, by what its told files come to.
use Rattle.std.proofs.Common.{◌≡◌, ℕ, ◌*◌, ◌<◌, ◌≤◌, List, length, take, Option, None, Ok, Err, sym, ◌∙◌, ap, subst, inl, inr, arith}
use Rattle.std.specs.Prelude.{Bool, codes, nat_lt}
use Rattle.std.proofs.{lemmas.Bool.cond-true, lemmas.Bool.Decides.Decides-ltb}
use Rattle.loc_io.specs.{Meaning.Told, Meaning.holds, Streams.Stream}
use Rattle.loc_spec_text.specs.{Answered.Answered, Answered.answered, Bytes.Text, Bytes.ended_lines, Bytes.lines}
use Rattle.loc_spec_text.specs.{Points.ended, Limits.most_text}
use Rattle.loc_spec_text.proofs.AnsweredLaws.{all_answered, joined}
use Rattle.loc_rings.specs.Values.{Feature}
use Rattle.loc_csvform.specs.Layer.{LayerRead, layer_of}
use Rattle.loc_batch.specs.PointLines.{is_point_line, point_count}
use Rattle.loc_course.specs.Courses.{Course, Source, reads as reads_from, refuses}
use Rattle.loc_course.specs.{Moments.IsToldText, Moments.Moment, Stops.source}
use Rattle.loc_course.specs.Outcomes.{by_lines, by_refusal, exactly, outcome, output, partly}
use Rattle.loc_course.specs.Sentences.{EndsSo, MakesNone, MayRefuseBehind, Sentences, WithinSteps}
use Rattle.loc_course.specs.Streams.{Answering, answered_long, out_of}
use Rattle.loc_course.proofs.Streamed.{long_or_short, of_whole, seen_steps}
use Rattle.loc_told.proofs.Ends.{done_by, grown, refused_behind, refused_by}
use Rattle.loc_maps.specs.{LineTexts.layer_fault_text, MapCourses.IsRead, MapCourses.LayerFile, MapCourses.read_in}
use Rattle.loc_maps.proofs.Judged.{read_all}
use Rattle.loc_maps.proofs.ReadRows.{layer_line, layer_long, layer_reads, was_read}
use Rattle.loc_features.specs.FeatureCourses.{features_course, features_points, features_steps}
use Rattle.loc_features.specs.Features.{features_line, features_output}
use Rattle.loc_features.specs.FeaturesTold.{FeaturesTold, features_within, steps_in}

-- what holds of refusals, of files that are read, and behind a layer holds of the course
features_all : (P : Course → Type 0) → ((passes : Text → Bool) → P (refuses passes)) → ((s : Source) (next : Text → Course) → ((text : Text) → P (next text)) → P (reads_from s next))
    → (file : LayerFile) (points : Text) → ((layer : List Feature) → P (features_points file.scale points layer)) → P (features_course file points)
features_all P refused_so reads_so file points behind = reads_so _ _ (λ text. read_all P refused_so file.form (layer_of file.form file.scale text) (features_points file.scale points) behind)

-- no file is made
pub features_makes_none : (file : LayerFile) (points : Text) → MakesNone (features_course file points)
features_makes_none file points = features_all MakesNone (λ passes name maker. maker) (λ s next none name maker. none maker.0 name maker.1) file points (λ layer name maker. maker)

-- and no line of the points is refused
pub features_refuses_behind : (file : LayerFile) (points line : Text) → MayRefuseBehind (features_course file points) line → line ≡ ended (codes "points: too long")
features_refuses_behind file points line = features_all (λ c. MayRefuseBehind c line → line ≡ ended (codes "points: too long")) (λ passes by. absurd by) (λ s next is by. is by.0 by.1) file points here
  where
    here : (layer : List Feature) → MayRefuseBehind (features_points file.scale points layer) line → line ≡ ended (codes "points: too long")
    here layer (inl is) = is
    here layer (inr asked) = absurd (cc asked.1)

module _ (told : Text → Told) (file : LayerFile) (points layer text : Text) (is : told file.name ≡ holds layer) (also : told points ≡ holds text) where
  module _ (features : List Feature) (r : IsRead file layer features) where
    abbrev of_points : Source
    of_points = source points most_text (ended (codes "points: too long"))

    abbrev answering : Answering
    answering line = Ok (features_line file.scale features line)

    comes_to : outcome told (features_course file points) ≡ by_lines of_points answering (holds text)
    comes_to = layer_reads told file (features_points file.scale points) layer is features r ∙ ap (by_lines of_points answering) also

    -- points that are too long come to the first answers, and others to all
    behind_long : most_text < length text → outcome told (features_course file points) ≡ partly (features_within most_text file.scale features text) (ended (codes "points: too long"))
    behind_long more =
        let first = ended_lines (take most_text text) in
        let is_long = cond-true (nat_lt most_text (length text)) (answered_long of_points.too_long (answered answering first)) (answered answering (lines text)) ((Decides-ltb most_text (length text)).1 more) in
        comes_to
        ∙ (ap (λ (a : Answered Text Text). by_refusal (out_of a) a.refusal) (is_long ∙ ap (answered_long of_points.too_long) (all_answered (features_line file.scale features) first))
        ∙ ap (λ out. partly out of_points.too_long) (joined (features_line file.scale features) first))

    all_lines : length text ≤ most_text → outcome told (features_course file points) ≡ output (exactly (features_output file.scale features text))
    unfolding features_output
    all_lines less =
        comes_to
        ∙ (ap (λ (a : Answered Text Text). by_refusal (out_of a) a.refusal) (of_whole of_points answering text less ∙ all_answered (features_line file.scale features) (lines text))
        ∙ ap (λ out. output (exactly out)) (joined (features_line file.scale features) (lines text)))

  -- where the command was done, its layer reads and its points are not too long
  abbrev WasDone : Type 0
  WasDone = (features : List Feature) × IsRead file layer features × (length text ≤ most_text)

  was_done : (before : Option Text) (new : Moment) → EndsSo (outcome told (features_course file points)) before new None → WasDone
  was_done before new ends =
      let read = was_read told file (features_points file.scale points) layer is before new ends in
      elim (long_or_short most_text text) [
        | inl long ↦ (let never : EndsSo (partly (features_within most_text file.scale read.0 text) (ended (codes "points: too long"))) before new None = subst (λ o. EndsSo o before new None) (behind_long read.0 read.1 long.0) ends in absurd never)
        | inr short ↦ (read.0, read.1, short.0)
      ]

  steps_within : (k : ℕ) → point_count file.scale (lines text) * steps_in (layer_of file.form file.scale layer) ≤ k → WithinSteps told (features_course file points) k
  steps_within k most other few told_so =
      let same : other ≡ layer = subst (λ (t : Told). IsToldText t other) is told_so in
      subst (λ (t : Text). WithinSteps told (read_in file.form (layer_of file.form file.scale t) (features_points file.scale points)) k) (sym same)
      (by_read (layer_of file.form file.scale layer) most)
    where
      by_read : (r : LayerRead) → point_count file.scale (lines text) * steps_in r ≤ k → WithinSteps told (read_in file.form r (features_points file.scale points)) k
      by_read (Err fault) most = tt
      by_read (Ok features) most = λ taken more seen short told_too are. seen_steps (is_point_line file.scale) (features_steps features) k (told points) text more taken seen also told_too are most

-- what the command answers
pub features_told : (file : LayerFile) (points : Text) (old new : Moment) (n n' : Stream) (status : ℕ) → Sentences (features_course file points) old new n n' status → FeaturesTold file points old new n n' status
features_told file points old new n n' status s =
    let told = old.shelf.told in
    let course = features_course file points in
    let none = features_makes_none file points in
    record {
      done = λ layer text is also zero.
          let d = was_done told file points layer text is also old.out.written new (s.done zero) in
          (d.0, d.1, d.2, grown course none old new n n' status s (features_output file.scale d.0 text) (all_lines told file points layer text is also d.0 d.1 d.2) zero);
      answers = λ layer text features is also r short reads out.
          done_by course none old new n n' status s (features_output file.scale features text) (all_lines told file points layer text is also features r short) reads out;
      layer_long = λ layer is long steady. refused_by course none old new n n' status s (ended (codes "layer: too long")) (layer_long told file (features_points file.scale points) layer is long) steady;
      layer_fault = λ layer fault is few reads steady.
          refused_by course none old new n n' status s (ended (layer_fault_text file.form fault)) (layer_line told file (features_points file.scale points) layer is fault few reads) steady;
      points_long = λ layer text features is also r long reads out.
          refused_behind course none old new n n' status s (features_within most_text file.scale features text) (ended (codes "points: too long")) (behind_long told file points layer text is also features r long) reads out;
      steps = λ layer text is also. s.steps.within _ (steps_within told file points layer text is also _ (omega arith));
    }
