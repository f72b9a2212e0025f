-- The answers to a spans text as the end of a command.
use Rattle.std.proofs.Common.{◌≡◌, ℕ, ◌+◌, ◌≤◌, Option, Some, None, Result, Ok, Err, subst}
use Rattle.loc_io.specs.{Meaning.Meaning, Streams.Stream, Streams.TakesAll}
use Rattle.loc_spec_plane.specs.Tables.{Table}
use Rattle.loc_spec_text.specs.Bytes.{Text}
use Rattle.loc_course.specs.Courses.{Stopped, unwritten}
use Rattle.loc_course.specs.Following.{Follows, Moment, moment, searches_by}
use Rattle.loc_course.proofs.Taken.{cut, done}
use Rattle.loc_reach.specs.SpanCourses.{answered_course, met_output, spans_course, text_steps}

module _ (scale : ℕ) (t : Table) (text : Text) (shelf : Meaning) (o m : Stream) (k l : ℕ) (up : k ≤ l) (within : l ≤ k + text_steps scale t text) where
  -- all was written
  pub written : {T E : Type 0} (r : Result T E) (x : T) → r ≡ Ok x → TakesAll (met_output scale t text) o m r → Follows (answered_course scale t text) (moment shelf o k) (moment shelf m l) None
  written r x is takes = searches_by l up within (done (met_output scale t text) shelf l o m r x is takes)

  -- a write failed
  pub failed : {T E : Type 0} (r : Result T E) (e : E) → r ≡ Err e → TakesAll (met_output scale t text) o m r → Follows (answered_course scale t text) (moment shelf o k) (moment shelf m l) (Some unwritten)
  failed r e is takes = searches_by l up within (cut (met_output scale t text) shelf l o m r e is takes)

-- the same by the table that views show, and by the bytes of a text
pub same_course : (scale : ℕ) {u t : Table} {x text : Text} {m n : Moment} {end : Option Stopped} → u ≡ t → x ≡ text → Follows (answered_course scale u x) m n end → Follows (answered_course scale t text) m n end
same_course scale {u = u} {text = text} {m = m} {n = n} {end = end} same_table same_text follows =
    subst (λ (y : Table). Follows (answered_course scale y text) m n end) same_table
    (subst (λ (z : Text). Follows (answered_course scale u z) m n end) same_text follows)

-- the same course of spans by the table that views show
pub same_spans : (scale : ℕ) (spans : Text) {u t : Table} {m n : Moment} {end : Option Stopped} → u ≡ t → Follows (spans_course scale u spans) m n end → Follows (spans_course scale t spans) m n end
same_spans scale spans {m = m} {n = n} {end = end} same_table follows = subst (λ (y : Table). Follows (spans_course scale y spans) m n end) same_table follows
