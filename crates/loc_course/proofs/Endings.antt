-- What a command did that was done, or of which a write failed.
use Rattle.std.proofs.Common.{◌≡◌, ℕ, ◌≤◌, length, Option, Some, None, Err, subst, arith}
use Rattle.std.proofs.Math.Path.{fun_ext}
use Rattle.loc_spec_text.specs.Bytes.{Text}
use Rattle.loc_io.specs.Meaning.{Told}
use Rattle.loc_course.specs.Courses.{Source, Course, reads, answers, writes, makes, Stopped, refused, unread, unwritten, no_memory}
use Rattle.loc_course.specs.{Endings.AtEnd, Endings.Did, Endings.DidSo, Sentences.status_of}
use Rattle.loc_course.specs.Following.{ComesTo, Follows, Moment, lacks, refuses_by, reads_not, reads_by, searches_by, answers_by, writes_by, makes_by}

-- what holds of any end
pub at_any : (P : Option Stopped → Type 0) (end : Option Stopped) → P end → AtEnd P end
at_any P None here = here
at_any P (Some (refused line)) here = tt
at_any P (Some unread) here = tt
at_any P (Some unwritten) here = here
at_any P (Some no_memory) here = tt

-- what follows of it
pub at_both : (P Q : Option Stopped → Type 0) → ((end : Option Stopped) → P end → Q end) → (end : Option Stopped) → AtEnd P end → AtEnd Q end
at_both P Q to None here = to None here
at_both P Q to (Some (refused line)) here = tt
at_both P Q to (Some unread) here = tt
at_both P Q to (Some unwritten) here = to (Some unwritten) here
at_both P Q to (Some no_memory) here = tt

-- with status 0
pub at_done : (P : Option Stopped → Type 0) (end : Option Stopped) → AtEnd P end → status_of end ≡ 0 → P None
at_done P None at zero = at
at_done P (Some (refused line)) at zero = absurd (omega (arith, zero))
at_done P (Some unread) at zero = absurd (omega (arith, zero))
at_done P (Some unwritten) at zero = absurd (omega (arith, zero))
at_done P (Some no_memory) at zero = absurd (omega (arith, zero))

-- with status 4
pub at_cut : (P : Option Stopped → Type 0) (end : Option Stopped) → AtEnd P end → status_of end ≡ 4 → P (Some unwritten)
at_cut P None at four = absurd (omega (arith, four))
at_cut P (Some (refused line)) at four = absurd (omega (arith, four))
at_cut P (Some unread) at four = absurd (omega (arith, four))
at_cut P (Some unwritten) at four = at
at_cut P (Some no_memory) at four = absurd (omega (arith, four))

-- a source that was not read whole was not done, and no write failed
unread_end : (P : Option Stopped → Type 0) (s : Source) (told : Told) (taken : ℕ) (stop : Stopped) → ComesTo s told taken (Err stop) → AtEnd P (Some stop)
unread_end P s told taken (refused line) comes = tt
unread_end P s told taken unread comes = tt
unread_end P s told taken unwritten comes = absurd comes
unread_end P s told taken no_memory comes = tt

-- reading a source leaves what is told of each name, and the count of writes of files
behind_reading : (c : Course) (told mid : Text → Told) (m n : Moment) (f g : ℕ) (end : Option Stopped) → mid ≡ told → g ≡ f → DidSo c mid m.out g n end → DidSo c told m.out f n end
behind_reading c told mid m n f g end same steady did =
    subst (λ (t : Text → Told). DidSo c t m.out f n end) same (subst (λ (k : ℕ). DidSo c mid m.out k n end) steady did)

-- a command that follows a course did what the course says, where it was done or a write failed
pub did_at : {c : Course} {m n : Moment} {end : Option Stopped} → Follows c m n end → AtEnd (Did c m n) end
did_at lacks = tt
did_at (refuses_by line passes) = tt
did_at (reads_not {s = s} {next = next} {m = m} {stop = stop} shelf read) = unread_end (Did (reads s next) m (record m { shelf = shelf })) s (m.shelf.told s.name) read.taken stop read.comes
did_at (reads_by {s = s} {next = next} {m = m} {n = n} {end = end} text shelf read rest) =
    let few : length text ≤ s.limit = omega (arith, read.comes.0, read.comes.1) in
    at_both (Did (next text) (record m { shelf = shelf }) n) (Did (reads s next) m n) (λ e more. (
      text,
      few,
      read.comes.2,
      behind_reading (next text) m.shelf.told shelf.told m n m.shelf.write_faults shelf.write_faults e (fun_ext read.files) read.making.write_faults more,
    )) end (did_at rest)
did_at (searches_by steps up within rest) = did_at rest
did_at (answers_by {s = s} {searched = searched} {each = each} {answer = answer} {m = m} {n = n} {came = came} done) =
    at_any (Did (answers s searched each answer) m n) came (done.taken, done.text, done.within, done.told, done.comes)
did_at (writes_by {passes = passes} {m = m} {came = came} text out is w) = at_any (Did (writes passes) m (record m { out = out })) came (text, is, w.wrote)
did_at (makes_by {name = name} {passes = passes} {m = m} {came = came} text shelf is made) =
    at_any (Did (makes name passes) m (record m { shelf = shelf })) came (record { made = text; is = is; file = made.made; counts = made.counts })
