-- How a command ends that makes no file, by what its told files come to.
use Rattle.std.proofs.Common.{◌≡◌, ℕ, Bool, Option, None, sym, subst, inl, inr}
use Rattle.std.specs.{Prelude.IsTrue, Io.KnownBytes.Appends}
use Rattle.loc_io.specs.Streams.{Stream}
use Rattle.loc_spec_text.specs.Bytes.{Text}
use Rattle.loc_course.specs.{Courses.Course, Moments.Moment}
use Rattle.loc_course.specs.Outcomes.{Outcome, refusal, output, partly, exactly, outcome}
use Rattle.loc_course.specs.Sentences.{EndsSo, IsDoing, MakesNone, NoneFailed, OutSo, Sentences, Steady, Wrote}
use Rattle.loc_course.proofs.Told.{it_exactly}
use Rattle.loc_told.specs.Answers.{IsDone, IsRefused, OrMemory}

-- what is refused is not done
pub not_done : (o : Outcome) (passes : Text → Bool) (before : Option Text) (new : Moment) → o ≡ refusal passes → EndsSo o before new None → ⊥
not_done o passes before new is ends = let none : EndsSo (refusal passes) before new None = subst (λ (x : Outcome). EndsSo x before new None) is ends in none

module _ (course : Course) (none : MakesNone course) (old new : Moment) (n n' : Stream) (status : ℕ) (s : Sentences course old new n n' status) where
  none_failed : Steady old.shelf.read_faults new.shelf.read_faults → Steady old.out.faults new.out.faults → NoneFailed course old new
  none_failed reads out = record { reads = reads; out = out; files = λ name maker. absurd (none name maker) }

  memory : status ≡ 5 → (status ≡ 5) × (new.out.written ≡ old.out.written)
  memory five = (five, s.out.memory five)

  -- with status 0 a text was written that passes, as the files come to
  pub grown_so : (passes : Text → Bool) → outcome old.shelf.told course ≡ output passes → status ≡ 0 → (text : Text) × IsTrue (passes text) × Appends old.out.written new.out.written text
  grown_so passes is zero = let done : EndsSo (output passes) old.out.written new None = subst (λ (o : Outcome). EndsSo o old.out.written new None) is (s.done zero) in done

  -- and this text, where no other passes
  pub grown : (text : Text) → outcome old.shelf.told course ≡ output (exactly text) → status ≡ 0 → Appends old.out.written new.out.written text
  grown text is zero = let done = grown_so (exactly text) is zero in subst (λ (t : Text). Appends old.out.written new.out.written t) (it_exactly text done.0 done.1) done.2

  -- so it is where no call failed
  succeeds : {So : Type 0} (passes : Text → Bool) → outcome old.shelf.told course ≡ output passes → Steady old.shelf.read_faults new.shelf.read_faults → Steady old.out.faults new.out.faults → (status ≡ 0 → So) → OrMemory old new status ((status ≡ 0) × So)
  succeeds passes is reads out so = elim (s.succeeds (subst IsDoing (sym is) tt) (none_failed reads out)) [
    | inl zero ↦ inl (zero, so zero)
    | inr five ↦ inr (memory five)
  ]

  pub done_so : (passes : Text → Bool) → outcome old.shelf.told course ≡ output passes → Steady old.shelf.read_faults new.shelf.read_faults → Steady old.out.faults new.out.faults
      → OrMemory old new status ((status ≡ 0) × ((text : Text) × IsTrue (passes text) × Appends old.out.written new.out.written text))
  done_so passes is reads out = succeeds passes is reads out (grown_so passes is)

  pub done_by : (text : Text) → outcome old.shelf.told course ≡ output (exactly text) → Steady old.shelf.read_faults new.shelf.read_faults → Steady old.out.faults new.out.faults → OrMemory old new status (IsDone old new status text)
  done_by text is reads out = succeeds (exactly text) is reads out (grown text is)

  -- a refusal by a line that passes
  pub refused_so : (passes : Text → Bool) → outcome old.shelf.told course ≡ refusal passes → Steady old.shelf.read_faults new.shelf.read_faults
      → OrMemory old new status ((line : Text) × IsTrue (passes line) × IsRefused old new n n' status line)
  refused_so passes is steady = elim (s.refuses passes is steady) [
    | inl one ↦ inl (one.1, one.2, (one.0, subst (λ (o : Outcome). OutSo o old.out.written new.out.written) is s.out.grows, one.3))
    | inr five ↦ inr (memory five)
  ]

  -- a refusal by this line
  pub refused_by : (line : Text) → outcome old.shelf.told course ≡ refusal (exactly line) → Steady old.shelf.read_faults new.shelf.read_faults → OrMemory old new status (IsRefused old new n n' status line)
  refused_by line is steady = elim (refused_so (exactly line) is steady) [
    | inl one ↦ inl (subst (λ (t : Text). IsRefused old new n n' status t) (it_exactly line one.0 one.1) one.2)
    | inr five ↦ inr five
  ]

  -- a refusal by this line behind some answers
  pub refused_behind : (out line : Text) → outcome old.shelf.told course ≡ partly out line → Steady old.shelf.read_faults new.shelf.read_faults → Steady old.out.faults new.out.faults
      → OrMemory old new status ((status ≡ 1) × Appends old.out.written new.out.written out × Wrote n n' line)
  refused_behind out line is reads failed = elim (s.refuses_partly out line is (none_failed reads failed)) [
    | inl one ↦ inl one
    | inr five ↦ inr (memory five)
  ]
