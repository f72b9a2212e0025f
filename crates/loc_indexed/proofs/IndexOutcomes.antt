-- What the told files of a command on an index file come to, and what the command leaves by it.
use Rattle.std.proofs.Common.{◌≡◌, ℕ, ◌≤◌, ◌<◌, Bool, length, None, Result, sym, ◌∙◌, ap, subst, inl, inr}
use Rattle.std.specs.{Prelude.IsTrue, Prelude.codes, Prelude.nat_lt, Io.KnownBytes.Appends}
use Rattle.std.proofs.lemmas.Bool.{cond-true, cond-false, le-ltb}
use Rattle.std.proofs.lemmas.Bool.Decides.{Decides-ltb}
use Rattle.loc_spec_text.specs.{Bytes.Text, Points.ended, Limits.most_index}
use Rattle.loc_io.specs.{Streams.Stream, Meaning.Told, Meaning.holds}
use Rattle.loc_spec_index.specs.{declared.IndexFault.IndexFault, Content.Content}
use Rattle.loc_laws_index.specs.IndexReading.{reading}
use Rattle.loc_course.specs.{Courses.Source, Courses.Course, Moments.Moment, Stops.source}
use Rattle.loc_course.specs.Outcomes.{Outcome, by_text, exactly, outcome, output, refusal}
use Rattle.loc_course.specs.Sentences.{EndsSo, IsDoing, NoneFailed, OutSo, Sentences, Steady, Wrote}
use Rattle.loc_course.proofs.Told.{it_exactly}
use Rattle.loc_indexed.specs.{IndexedCourses.index_course, IndexedCourses.index_in, Asks.IsDone, Asks.OrMemory}

module _ (told : Text → Told) (index bytes : Text) (is : told index ≡ holds bytes) (next : Content → Course) where
  abbrev of_index : Source
  of_index = source index most_index (ended (codes "index: too long"))

  abbrev by_bytes : Text → Outcome
  by_bytes text = outcome told (index_in (reading text) next)

  -- bytes that are too long are refused
  pub index_long : most_index < length bytes → outcome told (index_course index next) ≡ refusal (exactly (ended (codes "index: too long")))
  index_long more = ap (by_text of_index by_bytes) is ∙ cond-true (nat_lt most_index (length bytes)) (refusal (exactly of_index.too_long)) (by_bytes bytes) ((Decides-ltb most_index (length bytes)).1 more)

  -- and others are read
  pub index_read : length bytes ≤ most_index → (r : Result Content IndexFault) → reading bytes ≡ r → outcome told (index_course index next) ≡ outcome told (index_in r next)
  index_read few r reads = ap (by_text of_index by_bytes) is
      ∙ (cond-false (nat_lt most_index (length bytes)) (refusal (exactly of_index.too_long)) (by_bytes bytes) (le-ltb most_index (length bytes) few)
      ∙ ap (λ (q : Result Content IndexFault). outcome told (index_in q next)) reads)

module _ (course : Course) (old new : Moment) (n n' : Stream) (status : ℕ) (s : Sentences course old new n n' status) where
  pub memory : status ≡ 5 → (status ≡ 5) × (new.out.written ≡ old.out.written)
  memory five = (five, s.out.memory five)

  -- out has grown by this text
  pub grown : (text : Text) → outcome old.shelf.told course ≡ output (exactly text) → status ≡ 0 → Appends old.out.written new.out.written text
  grown text is zero =
      let done = subst (λ (o : Outcome). EndsSo o old.out.written new None) is (s.done zero) in
      subst (λ (t : Text). Appends old.out.written new.out.written t) (it_exactly text done.0 done.1) done.2

  pub finished : (text : Text) → outcome old.shelf.told course ≡ output (exactly text) → NoneFailed course old new → OrMemory old new status (IsDone old new status text)
  finished text to none = elim (s.succeeds (subst IsDoing (sym to) tt) none) [
    | inl zero ↦ inl (zero, grown text to zero)
    | inr five ↦ inr (memory five)
  ]

  -- a refusal by a line that passes
  pub refused_so : (passes : Text → Bool) → outcome old.shelf.told course ≡ refusal passes → Steady old.shelf.read_faults new.shelf.read_faults
      → OrMemory old new status ((status ≡ 1) × (new.out.written ≡ old.out.written) × (line : Text) × IsTrue (passes line) × Wrote n n' line)
  refused_so passes is steady = elim (s.refuses passes is steady) [
    | inl one ↦ inl (one.0, subst (λ (o : Outcome). OutSo o old.out.written new.out.written) is s.out.grows, one.1, one.2, one.3)
    | inr five ↦ inr (memory five)
  ]

  -- and by this line
  pub refused_by : (line : Text) → outcome old.shelf.told course ≡ refusal (exactly line) → Steady old.shelf.read_faults new.shelf.read_faults
      → OrMemory old new status ((status ≡ 1) × (new.out.written ≡ old.out.written) × Wrote n n' line)
  refused_by line is steady = elim (refused_so (exactly line) is steady) [
    | inl one ↦ inl (one.0, one.1, subst (λ (t : Text). Wrote n n' t) (it_exactly line one.2 one.3) one.4)
    | inr five ↦ inr five
  ]
