-- The course of judging an index file. The words:
--   judged_course  the counts of an index are written where it has no flaw, and else it is refused by a line that says its flaw
--   verify_course  an index file is read and judged
use Rattle.std.specs.Prelude.{Option, Some, None}
use Rattle.loc_spec_text.specs.{Bytes.Text, Points.ended}
use Rattle.loc_spec_index.specs.{Content.Content, Flaws.Flaw}
use Rattle.loc_laws_judge.specs.FirstFlaw.{first_flaw}
use Rattle.loc_course.specs.{Courses.Course, Courses.refuses, Courses.writes, Outcomes.exactly}
use Rattle.loc_indexed.specs.{FlawTexts.index_text, FlawTexts.says, IndexedCourses.index_course}

-- the counts of the index are written where it has no flaw, and else it is refused by a line that says its flaw
abbrev pub judged_course : Content → Option Flaw → Course
judged_course c None = writes (exactly (ended (index_text c)))
judged_course c (Some flaw) = refuses (says c flaw)

-- an index file is read and judged: where it is refused, by its first flaw
abbrev pub verify_course : Text → Course
verify_course index = index_course index (λ c. judged_course c (first_flaw c))
