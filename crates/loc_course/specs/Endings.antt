-- What a command did that was done, or of which a write failed. The words:
--   AtEnd   what holds where a command was done or a write failed
--   MadeOf  a file was made of a text that passes, or is as before or cut where a write failed
--   DidSo   what a course did, by what was told of each name, by out and by the count of writes of files
--   Did     what a course did from one moment to another
use Rattle.std.specs.Prelude.{ℕ, ◌≤◌, Bool, length, Option, Some, None, IsTrue, ⊤}
use Rattle.loc_spec_text.specs.Bytes.{Text}
use Rattle.loc_io.specs.{Meaning.Told, Streams.Stream}
use Rattle.loc_course.specs.Courses.{Course, refuses, reads, searches, answers, writes, makes, Stopped, refused, unread, unwritten, no_memory}
use Rattle.loc_course.specs.Following.{FileWritesAreCounted, MadeSo, WroteSo}
use Rattle.loc_course.specs.{Moments.Moment, Moments.IsToldText, Streams.AnswersTo, Streams.IsToldFront}

-- what holds where a command was done or a write failed
abbrev pub AtEnd : (Option Stopped → Type 0) → Option Stopped → Type 0
AtEnd P None = P None
AtEnd P (Some (refused line)) = ⊤
AtEnd P (Some unread) = ⊤
AtEnd P (Some unwritten) = P (Some unwritten)
AtEnd P (Some no_memory) = ⊤

-- a file was made of a text that passes, or, where a write failed, is as before or cut
pub record MadeOf (passes : Text → Bool) (old new : Told) (before now : ℕ) (end : Option Stopped) : Type 0 where
  pub made : Text
  pub is : IsTrue (passes made)
  pub file : MadeSo made old new end
  pub counts : FileWritesAreCounted before now end

-- What a course did, by what was told of each name, by out and by the count of writes of files: each source that was read whole was, where it is told,
-- a text within its limit, and behind them all a text that passes was written, lines of a file were answered, or a file was made, or a write of that
-- failed.
abbrev pub DidSo : Course → (Text → Told) → Stream → ℕ → Moment → Option Stopped → Type 0
DidSo (refuses passes) told out faults new end = ⊥
DidSo (reads s next) told out faults new end = (text : Text) × (length text ≤ s.limit) × IsToldText (told s.name) text × DidSo (next text) told out faults new end
DidSo (searches k c) told out faults new end = DidSo c told out faults new end
DidSo (answers s searched each answer) told out faults new end =
    (taken : ℕ) × (text : Text) × (length text ≤ s.limit) × IsToldFront (told s.name) text × AnswersTo s answer (told s.name) taken text out.written new.out.written end
DidSo (writes passes) told out faults new end = (text : Text) × IsTrue (passes text) × WroteSo text out new.out end
DidSo (makes name passes) told out faults new end = MadeOf passes (told name) (new.shelf.told name) faults new.shelf.write_faults end

-- what a course did from one moment to another
abbrev pub Did : Course → Moment → Moment → Option Stopped → Type 0
Did c old new end = DidSo c old.shelf.told old.out old.shelf.write_faults new end
