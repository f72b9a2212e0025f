-- What was read of a source is the text that is told of its file, and what was read of an index file is the content of that file.
use Rattle.std.proofs.Common.{◌≡◌, ◌∷◌, ◌++◌, length, Option, Some, refl, ap, arith}
use Rattle.std.specs.Prelude.{IfOk, Result, Ok, Err, nat_lt}
use Rattle.std.proofs.{lemmas.Bool.cond_both, lemmas.List.append_cancel_left, lemmas.List.length-append}
use Rattle.loc_spec_text.specs.Bytes.{Text}
use Rattle.loc_io.specs.Meaning.{Told, untold, absent, holds}
use Rattle.loc_file.specs.Keeping.{FileOf}
use Rattle.loc_indexed.specs.{IndexBytes.IsIndexFile, Verifies.IsToldFile}
use Rattle.loc_laws_index.specs.IndexReading.{AreBytes}
use Rattle.loc_course.specs.Courses.{Source, Course, reads, refuses, Stopped, refused}
use Rattle.loc_course.specs.{Following.Follows, Following.Moment, Following.refuses_by, Moments.IsToldText}
use Rattle.loc_course.specs.Outcomes.{Outcome, by_text, exactly, refusal}
use Rattle.loc_course.specs.Sentences.{EndsSo}
use Rattle.loc_course.proofs.Told.{ends_so, exactly_it, it_exactly}

-- a line that says a text, and is longer than that of a source
abbrev telling : Source → Text → Text
telling s text = s.too_long ++ 0 ∷ text

longer : (s : Source) (text : Text) → telling s text ≡ s.too_long → ⊥
longer s text is = let more = length-append s.too_long (0 ∷ text) in let same = ap (λ (t : Text). length t) is in omega (arith, more, same)

by_line : (s : Source) (text : Text) (told : Told) (before : Option Text) (n : Moment) → EndsSo (by_text s (λ t. refusal (exactly (telling s t))) told) before n (Some (refused (telling s text))) → IsToldText told text
by_line s text untold before n ends = tt
by_line s text absent before n ends = absurd ends
by_line s text (holds bytes) before n ends =
    cond_both (nat_lt s.limit (length bytes)) (refusal (exactly s.too_long)) (refusal (exactly (telling s bytes))) (λ (o : Outcome). EndsSo o before n (Some (refused (telling s text))) → text ≡ bytes)
    (λ _ same. absurd (longer s text (it_exactly s.too_long (telling s text) same)))
    (λ _ same. (let whole = append_cancel_left s.too_long (0 ∷ text) (0 ∷ bytes) (it_exactly (telling s bytes) (telling s text) same) in cc whole)) ends

-- where whatever goes on by a text has followed the course that reads it, the text is that told
pub told_of : (s : Source) (m n : Moment) (text : Text) → ((next : Text → Course) (end : Option Stopped) → Follows (next text) n n end → Follows (reads s next) m n end) → IsToldText (m.shelf.told s.name) text
told_of s m n text goes =
    by_line s text (m.shelf.told s.name) m.out.written n
    (ends_so (goes (λ t. refuses (exactly (telling s t))) (Some (refused (telling s text))) (refuses_by (telling s text) (exactly_it (telling s text) (telling s text) refl))))

pub told_file : {E : Type 0} (told : Told) (bytes : Text) (r : Result FileOf E) → IsToldText told bytes → AreBytes bytes → IfOk r (λ held. IsIndexFile held.content bytes) → IfOk r (λ held. IsToldFile told held.content)
told_file told bytes (Ok held) is small file = (bytes, is, small, file)
told_file told bytes (Err e) is small file = tt
