-- The status of a command, by what its told files come to.
use Rattle.std.proofs.Common.{◌≡◌, ◌⊎◌, ℕ, ◌<◌, ◌≤◌, Bool, Option, Some, None, refl, sym, subst, inl, inr, arith}
use Rattle.std.specs.{Prelude.IsTrue, Io.KnownBytes.Appends}
use Rattle.loc_spec_text.specs.Bytes.{Text}
use Rattle.loc_io.specs.{Causes.Rose, Streams.Stream}
use Rattle.loc_course.specs.Courses.{Course, Stopped, refused, unread, unwritten, no_memory}
use Rattle.loc_course.specs.Following.{Moment, Follows}
use Rattle.loc_course.specs.Outcomes.{Outcome, unknown, missing, refusal, output, partly, file, outcome}
use Rattle.loc_course.specs.Sentences.{status_of, EndsSo, Ended, IsDoing, MayMake, NoneFailed, Noted, Notes, Sentences, Steady, Wrote}
use Rattle.loc_course.proofs.Told.{ends_so}
use Rattle.loc_course.proofs.Counted.{reads_fail, writes_fail, written_by, no_count_rose}
use Rattle.loc_course.proofs.Grown.{kept, kept_memory, kept_refused, out_so}
use Rattle.loc_course.proofs.Along.{counts, files, in_times, names}

module _ (before : Option Text) (new : Moment) (o : Outcome) where
  done_case : (end : Option Stopped) → EndsSo o before new end → status_of end ≡ 0 → EndsSo o before new None
  done_case None ends is = ends
  done_case (Some (refused line)) ends is = absurd (omega (arith, is))
  done_case (Some unread) ends is = absurd (omega (arith, is))
  done_case (Some unwritten) ends is = absurd (omega (arith, is))
  done_case (Some no_memory) ends is = absurd (omega (arith, is))

  refused_case : (n n' : Stream) (end : Option Stopped) → EndsSo o before new end → Noted end n n' → status_of end ≡ 1 → (line : Text) × EndsSo o before new (Some (refused line)) × Wrote n n' line
  refused_case n n' None ends noted is = absurd (omega (arith, is))
  refused_case n n' (Some (refused line)) ends noted is = (line, ends, noted)
  refused_case n n' (Some unread) ends noted is = absurd (omega (arith, is))
  refused_case n n' (Some unwritten) ends noted is = absurd (omega (arith, is))
  refused_case n n' (Some no_memory) ends noted is = absurd (omega (arith, is))

  misses_case : (end : Option Stopped) → EndsSo missing before new end → (status_of end ≡ 3) ⊎ (status_of end ≡ 5)
  misses_case None ends = absurd ends
  misses_case (Some (refused line)) ends = absurd ends
  misses_case (Some unread) ends = inl refl
  misses_case (Some unwritten) ends = absurd ends
  misses_case (Some no_memory) ends = inr refl

-- a count that rose did not stay
pub rose_not : (r r' : ℕ) → Rose r r' → Steady r r' → ⊥
rose_not r r' rose steady = omega (arith, rose, steady.0, steady.1)

-- where no call failed, no write did
none_written : (c : Course) (old new : Moment) → NoneFailed c old new → Rose old.out.faults new.out.faults ⊎ ((name : Text) × MayMake c name × Rose old.shelf.write_faults new.shelf.write_faults) → ⊥
none_written c old new none (inl rose) = rose_not old.out.faults new.out.faults rose none.out
none_written c old new none (inr by) = rose_not old.shelf.write_faults new.shelf.write_faults by.2 (none.files by.0 by.1)

not_refused : (o : Outcome) (before : Option Text) (new : Moment) (line : Text) → IsDoing o → EndsSo o before new (Some (refused line)) → ⊥
not_refused unknown before new line doing ends = doing
not_refused missing before new line doing ends = doing
not_refused (refusal passes) before new line doing ends = doing
not_refused (output passes) before new line doing ends = ends
not_refused (partly out other) before new line doing ends = doing
not_refused (file name passes) before new line doing ends = ends

module _ (old new : Moment) where
  -- where no read and no write failed, a command whose told files come to an output or to a file was done, or memory was wanting
  pub succeeds_case : (o : Outcome) (end : Option Stopped) → EndsSo o old.out.written new end → (status_of end ≡ 3 → ⊥) → (status_of end ≡ 4 → ⊥) → IsDoing o → (status_of end ≡ 0) ⊎ (status_of end ≡ 5)
  succeeds_case o None ends no_read no_write doing = inl refl
  succeeds_case o (Some (refused line)) ends no_read no_write doing = absurd (not_refused o old.out.written new line doing ends)
  succeeds_case o (Some unread) ends no_read no_write doing = absurd (no_read refl)
  succeeds_case o (Some unwritten) ends no_read no_write doing = absurd (no_write refl)
  succeeds_case o (Some no_memory) ends no_read no_write doing = inr refl

  refuses_case : (n n' : Stream) (passes : Text → Bool) (end : Option Stopped) → EndsSo (refusal passes) old.out.written new end → (status_of end ≡ 3 → ⊥) → Noted end n n'
      → ((status_of end ≡ 1) × (line : Text) × IsTrue (passes line) × Wrote n n' line) ⊎ (status_of end ≡ 5)
  refuses_case n n' passes None ends no_read noted = absurd ends
  refuses_case n n' passes (Some (refused line)) ends no_read noted = inl (refl, line, ends, noted)
  refuses_case n n' passes (Some unread) ends no_read noted = absurd (no_read refl)
  refuses_case n n' passes (Some unwritten) ends no_read noted = absurd ends
  refuses_case n n' passes (Some no_memory) ends no_read noted = inr refl

  partly_case : (n n' : Stream) (out line : Text) (end : Option Stopped) → EndsSo (partly out line) old.out.written new end → (status_of end ≡ 3 → ⊥) → (status_of end ≡ 4 → ⊥) → Noted end n n'
      → ((status_of end ≡ 1) × Appends old.out.written new.out.written out × Wrote n n' line) ⊎ (status_of end ≡ 5)
  partly_case n n' out line None ends no_read no_write noted = absurd ends
  partly_case n n' out line (Some (refused other)) ends no_read no_write noted = inl (refl, ends.1, subst (λ (l : Text). Wrote n n' l) ends.0 noted)
  partly_case n n' out line (Some unread) ends no_read no_write noted = absurd (no_read refl)
  partly_case n n' out line (Some unwritten) ends no_read no_write noted = absurd (no_write refl)
  partly_case n n' out line (Some no_memory) ends no_read no_write noted = inr refl

noted_so : (n n' : Stream) (end : Option Stopped) → Noted end n n' → Notes n n' (status_of end)
noted_so n n' None note = record { done = λ _. note; read = λ e. absurd (omega (arith, e)); write = λ e. absurd (omega (arith, e)); memory = λ e. absurd (omega (arith, e)) }
noted_so n n' (Some (refused line)) note = record { done = λ e. absurd (omega (arith, e)); read = λ e. absurd (omega (arith, e)); write = λ e. absurd (omega (arith, e)); memory = λ e. absurd (omega (arith, e)) }
noted_so n n' (Some unread) note = record { done = λ e. absurd (omega (arith, e)); read = λ _. note; write = λ e. absurd (omega (arith, e)); memory = λ e. absurd (omega (arith, e)) }
noted_so n n' (Some unwritten) note = record { done = λ e. absurd (omega (arith, e)); read = λ e. absurd (omega (arith, e)); write = λ _. note; memory = λ e. absurd (omega (arith, e)) }
noted_so n n' (Some no_memory) note = record { done = λ e. absurd (omega (arith, e)); read = λ e. absurd (omega (arith, e)); write = λ e. absurd (omega (arith, e)); memory = λ _. note }

-- the status of a command that followed a course is none for words
pub never_two : (end : Option Stopped) → status_of end ≡ 2 → ⊥
never_two None e = omega (arith, e)
never_two (Some (refused line)) e = omega (arith, e)
never_two (Some unread) e = omega (arith, e)
never_two (Some unwritten) e = omega (arith, e)
never_two (Some no_memory) e = omega (arith, e)

pub in_range : (end : Option Stopped) → status_of end ≤ 5
in_range None = omega arith
in_range (Some (refused line)) = omega arith
in_range (Some unread) = omega arith
in_range (Some unwritten) = omega arith
in_range (Some no_memory) = omega arith

-- all sentences
pub sentences : {c : Course} {old new : Moment} {end : Option Stopped} (n n' : Stream) → Follows c old new end → Noted end n n' → Sentences c old new n n' (status_of end)
sentences {c = c} {old = old} {new = new} {end = end} n n' follows noted =
    let o = outcome old.shelf.told c in
    let ends = ends_so follows in
    let no_read : Steady old.shelf.read_faults new.shelf.read_faults → status_of end ≡ 3 → ⊥ = λ steady three. let rose : old.shelf.read_faults < new.shelf.read_faults = (reads_fail follows steady.0).0 three in omega (arith, rose, steady.1) in
    let no_write : NoneFailed c old new → status_of end ≡ 4 → ⊥ = λ none four. none_written c old new none (written_by follows four) in
    record {
      done = done_case old.out.written new o end ends;
      succeeds = λ doing none. succeeds_case old new o end ends (no_read none.reads) (no_write none) doing;
      refuses = λ passes is steady. refuses_case old new n n' passes end (subst (λ (x : Outcome). EndsSo x old.out.written new end) is ends) (no_read steady) noted;
      refuses_partly = λ out line is none. partly_case old new n n' out line end (subst (λ (x : Outcome). EndsSo x old.out.written new end) is ends) (no_read none.reads) (no_write none) noted;
      refused_only = refused_case old.out.written new o n n' end ends noted;
      misses = λ is. misses_case old.out.written new missing end (subst (λ (x : Outcome). EndsSo x old.out.written new end) is ends);
      reads_fail = reads_fail follows;
      writes_fail = writes_fail follows;
      no_count_rose = no_count_rose follows;
      out = record { grows = out_so follows; memory = kept_memory follows; refused = kept_refused n n' follows noted; kept = kept follows };
      names = names follows;
      files = files follows;
      steps = counts follows;
      notes = noted_so n n' end noted;
      in_time = in_times follows;
    }

-- all that holds of what a command came to
pub ended_so : {c : Course} {old new : Moment} {n n' : Stream} {status : ℕ} → Ended c old new n n' status → Sentences c old new n n' status
ended_so {c = c} {old = old} {new = new} {n = n} {n' = n'} {status = status} e = subst (λ (k : ℕ). Sentences c old new n n' k) (sym e.status_is) (sentences n n' e.follows e.noted)
