-- What asking an index file answers, by what the told files come to.
use Rattle.std.proofs.Common.{◌≡◌, ℕ, ◌*◌, ◌≤◌, List, length, map, Option, Some, None, Result, Ok, Err, false, refl, sym, ◌∙◌, ap, subst, inl, inr, arith}
use Rattle.std.specs.{Prelude.codes, List.flat_map}
use Rattle.loc_io.specs.{Streams.Stream, Meaning.Told, Meaning.holds}
use Rattle.loc_spec_text.specs.{Answered.Answered, Answered.answered, Bytes.Text, Bytes.lines, Points.ended}
use Rattle.loc_spec_text.proofs.AnsweredLaws.{all_of, all_answered, joined}
use Rattle.loc_spec_index.specs.{declared.IndexFault.IndexFault, Content.Content, Content.table_in}
use Rattle.loc_file.specs.Depths.{most_of}
use Rattle.loc_indexed.specs.{IndexBytes.IsIndexFile, IndexTexts.index_fault_text, Marked.marked_line}
use Rattle.loc_spec_index.specs.TrueIndex.{IsIndexOf, IsTrueIndex}
use Rattle.loc_laws_index.specs.IndexReading.{AreBytes, reading}
use Rattle.loc_rings.specs.Values.{Feature, rings_of}
use Rattle.loc_batch.specs.PointLines.{is_point_line, point_count}
use Rattle.loc_course.specs.{Courses.Source, Moments.IsToldText, Moments.Moment}
use Rattle.loc_course.specs.{Outcomes.by_lines, Outcomes.by_refusal, Outcomes.outcome, Stops.source}
use Rattle.loc_course.specs.Sentences.{NoneFailed, Sentences, Steady, WithinSteps}
use Rattle.loc_course.specs.Streams.{Answering, out_of}
use Rattle.loc_course.proofs.Streamed.{of_whole, seen_steps}
use Rattle.loc_spec_text.specs.Limits.{most_index, most_text}
use Rattle.loc_query.specs.Answered.{output_of}
use Rattle.loc_indexed.specs.IndexedCourses.{answer_in, ask_course, asked_course, index_in}
use Rattle.loc_indexed.specs.Asks.{AreAsked, Asks, IsDone, OrMemory}
use Rattle.loc_indexed.proofs.Behind.{ask_makes_none}
use Rattle.loc_indexed.proofs.IndexOutcomes.{finished, index_long, index_read, memory, refused_by}
use Rattle.loc_indexed.proofs.MarkedAnswers.{layer_lines, true_answers, true_bound}
use Rattle.loc_indexed.proofs.ReadBack.{file_reads}

module _ (told : Text → Told) (index points bytes : Text) (is : told index ≡ holds bytes) where
  module _ (text : Text) (c : Content) (few : length bytes ≤ most_index) (reads : reading bytes ≡ Ok c) (also : told points ≡ holds text) (short : length text ≤ most_text) where
    abbrev of_points : Source
    of_points = source points most_text (ended (codes "points: too long"))

    comes_to : (r : Option Text) → (answered (answer_in c) (lines text)).refusal ≡ r → outcome told (ask_course index points) ≡ by_refusal (out_of (answered (answer_in c) (lines text))) r
    comes_to r refused = index_read told index bytes is (asked_course points) few (Ok c) reads
        ∙ (ap (by_lines of_points (answer_in c)) also
        ∙ (ap (λ (a : Answered Text Text). by_refusal (out_of a) a.refusal) (of_whole of_points (answer_in c) text short)
        ∙ ap (by_refusal (out_of (answered (answer_in c) (lines text)))) refused))

-- the steps of a course on told files
asked_within : (told : Text → Told) (index points bytes text : Text) (c : Content) (each : ℕ) → told index ≡ holds bytes → told points ≡ holds text → reading bytes ≡ Ok c → most_of c (table_in c) ≡ each
    → WithinSteps told (ask_course index points) (point_count c.scale (lines text) * each)
asked_within told index points bytes text c each is also reads most other few told_so =
    let same : other ≡ bytes = subst (λ (t : Told). IsToldText t other) is told_so in
    subst (λ (r : Result Content IndexFault). WithinSteps told (index_in r (asked_course points)) (point_count c.scale (lines text) * each)) (sym (ap reading same ∙ reads)) (λ taken more seen short told_too are.
    seen_steps (is_point_line c.scale) (most_of c (table_in c)) (point_count c.scale (lines text) * each) (told points) text more taken seen also told_too are (omega (arith, ap (λ (q : ℕ). point_count c.scale (lines text) * q) most)))

module _ (index points : Text) (old new : Moment) (n n' : Stream) (status : ℕ) (s : Sentences (ask_course index points) old new n n' status) where
  none_failed : Steady old.shelf.read_faults new.shelf.read_faults → Steady old.out.faults new.out.faults → NoneFailed (ask_course index points) old new
  none_failed reads out = record { reads = reads; out = out; files = λ name maker. absurd (ask_makes_none index points name maker) }

  in_any : (bytes text : Text) (c : Content) → AreAsked index points old new bytes text → reading bytes ≡ Ok c → (answered (answer_in c) (lines text)).refusal ≡ None
      → OrMemory old new status (IsDone old new status (out_of (answered (answer_in c) (lines text))))
  in_any bytes text c a reads none = finished (ask_course index points) old new n n' status s (out_of (answered (answer_in c) (lines text)))
      (comes_to old.shelf.told index points bytes a.index_told text c a.index_short reads a.points_told a.points_short None none) (none_failed a.reads a.out)

  in_true : (bytes text : Text) (c : Content) → AreAsked index points old new bytes text → AreBytes bytes → IsIndexFile c bytes → IsTrueIndex c
      → OrMemory old new status (IsDone old new status (flat_map (marked_line c) (lines text)))
  in_true bytes text c a small file is_true =
      let all : answered (answer_in c) (lines text) ≡ all_of (marked_line c) (lines text) = ap (λ (f : Answering). answered f (lines text)) (true_answers c bytes file is_true) ∙ all_answered (marked_line c) (lines text) in
      subst (λ (out : Text). OrMemory old new status (IsDone old new status out)) (ap (λ (x : Answered Text Text). out_of x) all ∙ joined (marked_line c) (lines text))
      (in_any bytes text c a (file_reads bytes c small file) (ap (λ (x : Answered Text Text). x.refusal) all))

  in_layer : (bytes text : Text) (c : Content) (v scale : ℕ) (layer : List Feature) → AreAsked index points old new bytes text → AreBytes bytes → IsIndexFile c bytes → IsTrueIndex c
      → IsIndexOf v scale (map (λ (f : Feature). f.id) layer) (map rings_of layer) c → OrMemory old new status (IsDone old new status (output_of false scale layer text))
  unfolding output_of
  in_layer bytes text c v scale layer a small file is_true of =
      subst (λ (f : Text → Text). OrMemory old new status (IsDone old new status (flat_map f (lines text)))) (layer_lines v scale layer c of) (in_true bytes text c a small file is_true)

  pub asks : Asks index points old new n n' status
  asks = record {
    answers = in_any;
    gives_up = λ bytes text line c a reads refused.
        elim (s.refuses_partly (out_of (answered (answer_in c) (lines text))) line
        (comes_to old.shelf.told index points bytes a.index_told text c a.index_short reads a.points_told a.points_short (Some line) refused) (none_failed a.reads a.out)) [
          | inl one ↦ inl one
          | inr five ↦ inr (memory (ask_course index points) old new n n' status s five)
        ];
    of_true = in_true;
    of_layer = in_layer;
    steps = λ bytes text c is also reads. s.steps.within _ (asked_within old.shelf.told index points bytes text c _ is also reads refl);
    steps_of_true = λ bytes text c is also small file is_true. s.steps.within _ (asked_within old.shelf.told index points bytes text c _ is also (file_reads bytes c small file) (true_bound c bytes file is_true));
    too_long = λ bytes is long steady. refused_by (ask_course index points) old new n n' status s (ended (codes "index: too long")) (index_long old.shelf.told index bytes is (asked_course points) long) steady;
    at_fault = λ bytes fault is few reads steady. refused_by (ask_course index points) old new n n' status s (ended (index_fault_text fault)) (index_read old.shelf.told index bytes is (asked_course points) few (Err fault) reads) steady;
  }
