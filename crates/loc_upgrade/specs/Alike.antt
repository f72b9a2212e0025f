-- Two runs that tell the same. The words:
--   Run        a run of a command, from one moment to another
--   RanWell    a run of a command that follows a course, in which no call failed and memory was found
--   GaveSame   two runs ended with the same status, and wrote the same on out
--   NotedSame  and the same line on notes
use Rattle.std.specs.Prelude.{◌≡◌, ◌≢◌, ℕ}
use Rattle.std.specs.Io.KnownBytes.{Appends}
use Rattle.loc_spec_text.specs.Bytes.{Text}
use Rattle.loc_io.specs.Streams.{Stream}
use Rattle.loc_course.specs.{Courses.Course, Moments.Moment, Sentences.NoneFailed, Sentences.Sentences, Sentences.Wrote}

-- a run of a command: the moments at which it began and ended, the notes then, and its status
pub record Run : Type 0 where
  pub old : Moment
  pub new : Moment
  pub notes : Stream
  pub noted : Stream
  pub status : ℕ

-- a run of a command that follows the course; no call failed, and memory was found
pub record RanWell (c : Course) (r : Run) : Type 0 where
  pub sentences : Sentences c r.old r.new r.notes r.noted r.status
  pub none_failed : NoneFailed c r.old r.new
  pub memory : r.status ≢ 5

-- both ended with the same status, and out grew by the same text
pub record GaveSame (r s : Run) : Type 0 where
  pub status : s.status ≡ r.status
  pub text : Text
  pub first : Appends r.old.out.written r.new.out.written text
  pub second : Appends s.old.out.written s.new.out.written text

-- where they refused, the same line was written on notes
abbrev pub NotedSame : Run → Run → Type 0
NotedSame r s = r.status ≡ 1 → (line : Text) × Wrote r.notes r.noted line × Wrote s.notes s.noted line
