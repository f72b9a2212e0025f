-- What the told files of a judgement come to, and what it leaves.
use Rattle.std.proofs.Common.{◌≡◌, ℕ, ◌<◌, ◌≤◌, Bool, not, length, Option, Some, None, Result, Ok, Err, refl, ◌∙◌, ap, subst, inl, inr}
use Rattle.std.specs.{Prelude.IsTrue, Prelude.codes, Io.KnownBytes.Appends}
use Rattle.std.proofs.lemmas.Bool.{cases_lt}
use Rattle.loc_spec_text.specs.{Bytes.Text, Points.ended, Limits.most_index}
use Rattle.loc_io.specs.{Meaning.Told, Meaning.holds, Streams.Stream}
use Rattle.loc_spec_index.specs.{declared.IndexFault.IndexFault, Content.Content}
use Rattle.loc_spec_index.specs.{Flaws.Flaw, Flaws.IsFirst, Flaws.conflicting, TrueIndex.IsTrueIndex}
use Rattle.loc_indexed.specs.{IndexBytes.IsIndexFile, Asks.IsDone, Asks.OrMemory, IndexTexts.index_fault_text}
use Rattle.loc_laws_index.specs.IndexReading.{AreBytes, reading}
use Rattle.loc_laws_judge.specs.FirstFlaw.{first_flaw}
use Rattle.loc_laws_judge.proofs.{First.true_has_none, Readable.files_are_readable, Same.first_is_found}
use Rattle.loc_course.specs.{Courses.Course, Moments.IsToldText, Moments.Moment}
use Rattle.loc_course.specs.Outcomes.{Outcome, exactly, outcome, refusal}
use Rattle.loc_course.specs.Sentences.{EndsSo, IsPlain, NoneFailed, SearchesNothing, Sentences, Steady, Wrote}
use Rattle.loc_course.proofs.Plain.{plain_reads, plain_refuses, plain_writes}
use Rattle.loc_indexed.specs.FlawTexts.{flaw_text, index_text, is_clash, names_clash, says}
use Rattle.loc_indexed.specs.Verifies.{AreHeld, IsRefused, Judged, Verifies}
use Rattle.loc_indexed.specs.Verifying.{judged_course, verify_course}
use Rattle.loc_indexed.proofs.{Behind.index_all, Flawed.one_of, Flawed.says_exactly, ReadBack.file_reads}
use Rattle.loc_indexed.proofs.IndexOutcomes.{finished, grown, index_long, index_read, refused_by, refused_so}

-- the course behind an index
abbrev judging : Content → Course
judging c = judged_course c (first_flaw c)

judged_plain : (c : Content) (o : Option Flaw) → IsPlain (judged_course c o)
judged_plain c None = plain_writes (exactly (ended (index_text c)))
judged_plain c (Some flaw) = plain_refuses (says c flaw)

judged_searches_nothing : (c : Content) (o : Option Flaw) → SearchesNothing (judged_course c o)
judged_searches_nothing c None = tt
judged_searches_nothing c (Some flaw) = tt

-- a judgement writes at once, makes no file and searches nothing
pub verify_plain : (index : Text) → IsPlain (verify_course index)
verify_plain index = plain_reads _ _ (λ bytes. index_all IsPlain plain_refuses (reading bytes) judging (λ c. judged_plain c (first_flaw c)))

pub verify_searches_nothing : (index : Text) → SearchesNothing (verify_course index)
verify_searches_nothing index bytes = index_all SearchesNothing (λ passes. tt) (reading bytes) judging (λ c. judged_searches_nothing c (first_flaw c))

module _ (index : Text) (old new : Moment) (n n' : Stream) (status : ℕ) (s : Sentences (verify_course index) old new n n' status) where
  none_failed : Steady old.shelf.read_faults new.shelf.read_faults → Steady old.out.faults new.out.faults → NoneFailed (verify_course index) old new
  none_failed reads out = record { reads = reads; out = out; files = λ name maker. absurd ((verify_plain index).makes_none name maker) }

  module _ (bytes : Text) (told : old.shelf.told index ≡ holds bytes) where
    -- what is told comes to the judgement of what the bytes read as
    comes_to : length bytes ≤ most_index → (c : Content) → reading bytes ≡ Ok c → (o : Option Flaw) → first_flaw c ≡ o → outcome old.shelf.told (verify_course index) ≡ outcome old.shelf.told (judged_course c o)
    comes_to few c reads o is = index_read old.shelf.told index bytes told judging few (Ok c) reads ∙ ap (λ (f : Option Flaw). outcome old.shelf.told (judged_course c f)) is

    long : most_index < length bytes → Steady old.shelf.read_faults new.shelf.read_faults → OrMemory old new status (IsRefused old new status × Wrote n n' (ended (codes "index: too long")))
    long more steady = elim (refused_by (verify_course index) old new n n' status s (ended (codes "index: too long")) (index_long old.shelf.told index bytes told judging more) steady) [
      | inl one ↦ inl ((one.0, one.1), one.2)
      | inr five ↦ inr five
    ]

    fault_line : (fault : IndexFault) → length bytes ≤ most_index → reading bytes ≡ Err fault → Steady old.shelf.read_faults new.shelf.read_faults
        → OrMemory old new status (IsRefused old new status × Wrote n n' (ended (index_fault_text fault)))
    fault_line fault few reads steady =
        elim (refused_by (verify_course index) old new n n' status s (ended (index_fault_text fault)) (index_read old.shelf.told index bytes told judging few (Err fault) reads) steady) [
          | inl one ↦ inl ((one.0, one.1), one.2)
          | inr five ↦ inr five
        ]

    -- with status 0 the bytes are within the limit
    within : status ≡ 0 → length bytes ≤ most_index
    within zero = elim (cases_lt most_index (length bytes)) [
      | inl more ↦ absurd (subst (λ (o : Outcome). EndsSo o old.out.written new None) (index_long old.shelf.told index bytes told judging more) (s.done zero))
      | inr few ↦ few
    ]

    -- what the bytes read as is no true index
    module _ (few : length bytes ≤ most_index) (not_zero : status ≡ 0 → ⊥) (reads : Steady old.shelf.read_faults new.shelf.read_faults) (out : Steady old.out.faults new.out.faults) where
      by_flaw : (c : Content) (o : Option Flaw) → reading bytes ≡ Ok c → first_flaw c ≡ o → OrMemory old new status (IsRefused old new status)
      by_flaw c None is none = elim (finished (verify_course index) old new n n' status s (ended (index_text c)) (comes_to few c is None none) (none_failed reads out)) [
        | inl done ↦ absurd (not_zero done.0)
        | inr five ↦ inr five
      ]
      by_flaw c (Some flaw) is some = elim (refused_so (verify_course index) old new n n' status s (says c flaw) (comes_to few c is (Some flaw) some) reads) [
        | inl one ↦ inl (one.0, one.1)
        | inr five ↦ inr five
      ]

      by_reading : (r : Result Content IndexFault) → reading bytes ≡ r → OrMemory old new status (IsRefused old new status)
      by_reading (Ok c) is = by_flaw c (first_flaw c) is refl
      by_reading (Err fault) is = elim (fault_line fault few is reads) [
        | inl one ↦ inl one.0
        | inr five ↦ inr five
      ]

  module _ (bytes : Text) (c : Content) (h : AreHeld index old new bytes c) where
    held_comes_to : (o : Option Flaw) → first_flaw c ≡ o → outcome old.shelf.told (verify_course index) ≡ outcome old.shelf.told (judged_course c o)
    held_comes_to = comes_to bytes h.told h.within c (file_reads bytes c h.small h.file)

    in_true : IsTrueIndex c → Steady old.out.faults new.out.faults → OrMemory old new status (IsDone old new status (ended (index_text c)))
    in_true is_true out = finished (verify_course index) old new n n' status s (ended (index_text c)) (held_comes_to None (true_has_none c (files_are_readable bytes h.file.0 c h.file.1) is_true)) (none_failed h.reads out)

    by_first : (flaw : Flaw) → IsFirst c flaw → IsTrue (not (is_clash flaw)) → OrMemory old new status (IsRefused old new status × Wrote n n' (ended (flaw_text flaw)))
    by_first flaw first other =
        let is = one_of flaw (first_flaw c) other (first_is_found c flaw (files_are_readable bytes h.file.0 c h.file.1) first) in
        elim (refused_by (verify_course index) old new n n' status s (ended (flaw_text flaw)) (held_comes_to (Some flaw) is ∙ ap (λ (f : Text → Bool). refusal f) (says_exactly c flaw other)) h.reads) [
          | inl one ↦ inl ((one.0, one.1), one.2)
          | inr five ↦ inr five
        ]

    by_clash : (a b : ℕ) → IsFirst c (conflicting a b) → OrMemory old new status (IsRefused old new status × (line : Text) × IsTrue (names_clash c line) × Wrote n n' line)
    by_clash a b first =
        let found = first_is_found c (conflicting a b) (files_are_readable bytes h.file.0 c h.file.1) first in
        elim (refused_so (verify_course index) old new n n' status s (names_clash c) (held_comes_to (Some (conflicting found.0 found.1)) found.2) h.reads) [
          | inl one ↦ inl ((one.0, one.1), one.2, one.3, one.4)
          | inr five ↦ inr five
        ]

  module _ (judged : Judged (old.shelf.told index) status) where
    only_true : (bytes : Text) → old.shelf.told index ≡ holds bytes → status ≡ 0 → (c : Content) × IsIndexFile c bytes × IsTrueIndex c × Appends old.out.written new.out.written (ended (index_text c))
    only_true bytes told zero =
        let j = judged zero in
        let text : j.1.0 ≡ bytes = subst (λ (t : Told). IsToldText t j.1.0) told j.1.1 in
        let small : AreBytes bytes = subst AreBytes text j.1.2 in
        let file : IsIndexFile j.0 bytes = subst (IsIndexFile j.0) text j.1.3 in
        let none = true_has_none j.0 (files_are_readable bytes file.0 j.0 file.1) j.2 in (
          j.0,
          file,
          j.2,
          grown (verify_course index) old new n n' status s (ended (index_text j.0)) (comes_to bytes told (within bytes told zero) j.0 (file_reads bytes j.0 small file) None none) zero,
        )

    other : (bytes : Text) → old.shelf.told index ≡ holds bytes → ((c : Content) → IsIndexFile c bytes → IsTrueIndex c → ⊥) → Steady old.shelf.read_faults new.shelf.read_faults → Steady old.out.faults new.out.faults
        → OrMemory old new status (IsRefused old new status)
    other bytes told no_true reads out = elim (cases_lt most_index (length bytes)) [
      | inl more ↦ (elim (long bytes told more reads) [ inl one ↦ inl one.0 | inr five ↦ inr five ])
      | inr few ↦ by_reading bytes told few (λ zero. (let t = only_true bytes told zero in no_true t.0 t.1 t.2)) reads out (reading bytes) refl
    ]

    pub verifies : Verifies index old new n n' status
    verifies = record {
      of_true = in_true;
      only_true = only_true;
      other = other;
      flaw = λ bytes c flaw h first other. by_first bytes c h flaw first other;
      clash = λ bytes c a b h first. by_clash bytes c h a b first;
      too_long = long;
      at_fault = λ bytes fault told few reads steady. fault_line bytes told fault few reads steady;
      out = s.out.kept (verify_plain index).at_once;
    }
