-- Two commands whose told files come to the same tell the same.
use Rattle.std.proofs.Common.{◌≡◌, Bool, not, Option, Some, None, refl, sym, ◌∙◌, ap, subst, inl, inr, arith}
use Rattle.std.specs.Prelude.{IfSome, IsTrue, [], Ok, codes}
use Rattle.std.specs.Io.KnownBytes.{Appends}
use Rattle.loc_spec_text.specs.{Answered.Answered, Bytes.Text, Points.ended, Limits.most_text}
use Rattle.loc_io.specs.Meaning.{Told, holds}
use Rattle.loc_io.proofs.Appending.{appends-none}
use Rattle.loc_spec_index.specs.{Flaws.Flaw}
use Rattle.loc_laws_judge.specs.FirstFlaw.{first_flaw}
use Rattle.loc_course.specs.{Courses.Course, Courses.Source, Stops.source, Streams.answered_file, Streams.out_of}
use Rattle.loc_course.specs.Outcomes.{Outcome, by_lines, by_refusal, exactly, outcome, output, partly, refusal}
use Rattle.loc_course.specs.Sentences.{IsDoing, OutSo, Wrote}
use Rattle.loc_course.proofs.Told.{it_exactly}
use Rattle.loc_indexed.specs.FlawTexts.{flaw_text, index_text, is_clash, says}
use Rattle.loc_indexed.specs.IndexedCourses.{answer_in, ask_course, asked_course}
use Rattle.loc_indexed.specs.Verifying.{judged_course, verify_course}
use Rattle.loc_indexed.proofs.{Flawed.says_exactly, IndexOutcomes.grown, IndexOutcomes.index_read}
use Rattle.loc_upgrade.specs.Alike.{GaveSame, NotedSame, RanWell, Run}
use Rattle.loc_upgrade.specs.Upgrades.{IsUpgradeOf}
use Rattle.loc_upgrade.proofs.{FileSizes.file_within, Upgraded.judging}

module _ (c : Course) (r : Run) (a : RanWell c r) where
  -- an output is written, and the status is 0
  zero_by : (text : Text) → outcome r.old.shelf.told c ≡ output (exactly text) → r.status ≡ 0
  zero_by text to = elim (a.sentences.succeeds (subst IsDoing (sym to) tt) a.none_failed) [ inl zero ↦ zero | inr five ↦ absurd (a.memory five) ]

  grown_by : (text : Text) → outcome r.old.shelf.told c ≡ output (exactly text) → Appends r.old.out.written r.new.out.written text
  grown_by text to = grown c r.old r.new r.notes r.noted r.status a.sentences text to (zero_by text to)

  -- a refusal is told by its line
  refused_by : (passes : Text → Bool) → outcome r.old.shelf.told c ≡ refusal passes → (r.status ≡ 1) × (line : Text) × IsTrue (passes line) × Wrote r.notes r.noted line
  refused_by passes to = elim (a.sentences.refuses passes to a.none_failed.reads) [ inl one ↦ one | inr five ↦ absurd (a.memory five) ]

  none_grown : (passes : Text → Bool) → outcome r.old.shelf.told c ≡ refusal passes → Appends r.old.out.written r.new.out.written []
  none_grown passes to =
      let same : r.new.out.written ≡ r.old.out.written = subst (λ (o : Outcome). OutSo o r.old.out.written r.new.out.written) to a.sentences.out.grows in
      subst (λ (now : Option Text). Appends r.old.out.written now []) (sym same) (appends-none r.old.out.written)

  -- some answers and then a refusal
  partly_by : (out line : Text) → outcome r.old.shelf.told c ≡ partly out line → (r.status ≡ 1) × Appends r.old.out.written r.new.out.written out × Wrote r.notes r.noted line
  partly_by out line to = elim (a.sentences.refuses_partly out line to a.none_failed) [ inl one ↦ one | inr five ↦ absurd (a.memory five) ]

module _ (c d : Course) (r s : Run) (a : RanWell c r) (b : RanWell d s) where
  both_output : (text : Text) → outcome r.old.shelf.told c ≡ output (exactly text) → outcome s.old.shelf.told d ≡ output (exactly text) → GaveSame r s × NotedSame r s
  both_output text to also =
      let zero = zero_by c r a text to in (
        record { status = zero_by d s b text also ∙ sym zero; text = text; first = grown_by c r a text to; second = grown_by d s b text also },
        λ one. absurd (omega (arith, one, zero)),
      )

  both_refusal : (passes : Text → Bool) → outcome r.old.shelf.told c ≡ refusal passes → outcome s.old.shelf.told d ≡ refusal passes → GaveSame r s
  both_refusal passes to also =
      record { status = (refused_by d s b passes also).0 ∙ sym (refused_by c r a passes to).0; text = []; first = none_grown c r a passes to; second = none_grown d s b passes also }

  both_line : (line : Text) → outcome r.old.shelf.told c ≡ refusal (exactly line) → outcome s.old.shelf.told d ≡ refusal (exactly line) → NotedSame r s
  both_line line to also one =
      let first = refused_by c r a (exactly line) to in
      let second = refused_by d s b (exactly line) also in
      (line, subst (λ (l : Text). Wrote r.notes r.noted l) (it_exactly line first.1 first.2) first.3, subst (λ (l : Text). Wrote s.notes s.noted l) (it_exactly line second.1 second.2) second.3)

  both_partly : (out line : Text) → outcome r.old.shelf.told c ≡ partly out line → outcome s.old.shelf.told d ≡ partly out line → GaveSame r s × NotedSame r s
  both_partly out line to also =
      let first = partly_by c r a out line to in
      let second = partly_by d s b out line also in (
        record { status = second.0 ∙ sym first.0; text = out; first = first.1; second = second.1 },
        λ one. (line, first.2, second.2),
      )

  by_answers : (out : Text) (o : Option Text) → outcome r.old.shelf.told c ≡ by_refusal out o → outcome s.old.shelf.told d ≡ by_refusal out o → GaveSame r s × NotedSame r s
  by_answers out None to also = both_output out to also
  by_answers out (Some line) to also = both_partly out line to also

-- the old file and the new one are asked
module _ (bytes made : Text) (is : IsUpgradeOf bytes made) (old new points text : Text) (r s : Run) where
  abbrev of_points : Source
  of_points = source points most_text (ended (codes "points: too long"))

  abbrev answers_to : Answered Text Text
  answers_to = answered_file of_points (answer_in is.content) text

  comes_to : (index file : Text) (told : Text → Told) → outcome told (ask_course index points) ≡ outcome told (asked_course points is.content) → told points ≡ holds text
      → outcome told (ask_course index points) ≡ by_refusal (out_of answers_to) answers_to.refusal
  comes_to index file told reads also = reads ∙ ap (by_lines of_points (answer_in is.content)) also

  pub asked_alike : RanWell (ask_course old points) r → RanWell (ask_course new points) s → r.old.shelf.told old ≡ holds bytes → s.old.shelf.told new ≡ holds made
      → r.old.shelf.told points ≡ holds text → s.old.shelf.told points ≡ holds text → GaveSame r s × NotedSame r s
  asked_alike a b first second of_first of_second = by_answers (ask_course old points) (ask_course new points) r s a b (out_of answers_to) answers_to.refusal
      (comes_to old bytes r.old.shelf.told (index_read r.old.shelf.told old bytes first (asked_course points) (file_within bytes is.file.0 is.content is.file.1) (Ok is.content) is.reads) of_first)
      (comes_to new made s.old.shelf.told (index_read s.old.shelf.told new made second (asked_course points) (file_within made 2 is.content is.made_file) (Ok is.content) is.made_reads) of_second)

-- and judged
module _ (bytes made : Text) (is : IsUpgradeOf bytes made) (old new : Text) (r s : Run) (a : RanWell (verify_course old) r) (b : RanWell (verify_course new) s) where
  by_flaw : (o : Option Flaw) → first_flaw is.content ≡ o → outcome r.old.shelf.told (verify_course old) ≡ outcome r.old.shelf.told (judged_course is.content o)
      → outcome s.old.shelf.told (verify_course new) ≡ outcome s.old.shelf.told (judged_course is.content o)
      → GaveSame r s × (IfSome o (λ flaw. IsTrue (not (is_clash flaw))) → NotedSame r s)
  by_flaw None first to also = let same = both_output (verify_course old) (verify_course new) r s a b (ended (index_text is.content)) to also in (same.0, λ _. same.1)
  by_flaw (Some flaw) first to also = (
    both_refusal (verify_course old) (verify_course new) r s a b (says is.content flaw) to also,
    λ other. (let line = ap (λ (f : Text → Bool). refusal f) (says_exactly is.content flaw other) in both_line (verify_course old) (verify_course new) r s a b (ended (flaw_text flaw)) (to ∙ line) (also ∙ line)),
  )

  pub judged_alike : r.old.shelf.told old ≡ holds bytes → s.old.shelf.told new ≡ holds made → GaveSame r s × (IfSome (first_flaw is.content) (λ flaw. IsTrue (not (is_clash flaw))) → NotedSame r s)
  judged_alike first second = by_flaw (first_flaw is.content) refl
      (index_read r.old.shelf.told old bytes first judging (file_within bytes is.file.0 is.content is.file.1) (Ok is.content) is.reads)
      (index_read s.old.shelf.told new made second judging (file_within made 2 is.content is.made_file) (Ok is.content) is.made_reads)
