-- What a course on an index file makes, and by which lines it may refuse a file whose lines it answers.
use Rattle.std.proofs.Common.{◌≡◌, ◌⊎◌, ℕ, Bool, Ok, Err, inl, inr}
use Rattle.std.specs.Prelude.{Result, codes}
use Rattle.loc_spec_text.specs.{Bytes.Text, Points.Answer, Points.ended}
use Rattle.loc_spec_index.specs.{declared.IndexFault.IndexFault, Content.Content, Content.search_in}
use Rattle.loc_laws_index.specs.IndexReading.{reading}
use Rattle.loc_place.specs.declared.locator.Deep.{Deep}
use Rattle.loc_file.specs.Searches.{answer_of}
use Rattle.loc_batch.specs.{Answering.answer_by, Faces.unnumbered}
use Rattle.loc_answering.specs.ByLine.{as_bytes, deep_text}
use Rattle.loc_course.specs.{Courses.Course, Courses.refuses, Outcomes.exactly}
use Rattle.loc_course.specs.Sentences.{MakesNone, MayMake, MayRefuseBehind}
use Rattle.loc_indexed.specs.IndexedCourses.{ask_course, asked_course, index_in, rows_in}
use Rattle.loc_indexed.specs.IndexTexts.{index_fault_text}

-- what holds of refusals and behind an index holds of the course that reads it
pub index_all : (P : Course → Type 0) → ((passes : Text → Bool) → P (refuses passes)) → (r : Result Content IndexFault) (next : Content → Course) → ((c : Content) → P (next c)) → P (index_in r next)
index_all P refused_so (Ok c) next behind = behind c
index_all P refused_so (Err fault) next behind = refused_so (exactly (ended (index_fault_text fault)))

-- no file is made
pub ask_makes_none : (index points : Text) → MakesNone (ask_course index points)
ask_makes_none index points name maker = index_all (λ c. MayMake c name → ⊥) (λ passes maker. maker) (reading maker.0) (asked_course points) (λ c maker. maker) maker.1

-- the lines of the points' file are refused by these lines alone
abbrev RefusedSo : Text → Type 0
RefusedSo line = (line ≡ ended (codes "points: too long")) ⊎ ((version : ℕ) × (line ≡ deep_text version))

by_answer : (answer : Result Answer Deep) (line : Text) → as_bytes answer ≡ Err line → (version : ℕ) × (line ≡ deep_text version)
by_answer (Ok a) line is = absurd (cc is)
by_answer (Err d) line is = let same : deep_text d.version ≡ line = cc is in (d.version, cc same)

asked_refuses : (points line : Text) (c : Content) → MayRefuseBehind (asked_course points c) line → RefusedSo line
asked_refuses points line c (inl is) = inl is
asked_refuses points line c (inr asked) = inr (by_answer (answer_by c.scale (λ p. answer_of (search_in c p)) unnumbered (rows_in c) asked.0) line asked.1)

pub ask_refuses_behind : (index points line : Text) → MayRefuseBehind (ask_course index points) line → RefusedSo line
ask_refuses_behind index points line by = index_all (λ c. MayRefuseBehind c line → RefusedSo line) (λ passes by. absurd by) (reading by.0) (asked_course points) (λ c by. asked_refuses points line c by) by.1
