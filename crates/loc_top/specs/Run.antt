-- What a run is, by its words. The words:
--   file_of               the file of a layer that a command names
--   course_by, course_of  the course of a command, and of words that are one
--   made_by               the file that a command makes
--   BesideCourse          what holds of the files of a command beside its course
--   Untouched, Ran        what a run of words comes to
--   Leaves                what a run leaves, by its arguments
--   RefusesWords          words that are no command
--   OutOf                 what stands on out
--   AWriteFailed, WritesFail  when a write failed
--   FilesOf               which files change
--   OfCourse, RunSentences  what holds of the course of the words, and all that holds of a run by its words
use Rattle.std.specs.Prelude.{◌≡◌, ◌≢◌, ◌⊎◌, ℕ, ◌-◌, ◌^◌, ◌<◌, ⊤, true, List, Option, Some, None, IfSome, option_and_then, option_map, codes}
use Rattle.loc_spec_text.specs.{Bytes.Text, Points.ended}
use Rattle.loc_io.specs.{Meaning.KeepsFiles, Meaning.Meaning, Streams.InTime, Streams.Stream}
use Rattle.loc_words.specs.Usage.{usage_text}
use Rattle.loc_words.specs.Words.{Asked, AskedLayer, query, features, check, build, ask, verify, face, gen, trial, upgrade, edges, stab, valid, dissolve, command_of}
use Rattle.loc_course.specs.{Courses.Course, Courses.no_memory, Following.IsToldAtMost, Moments.Moment}
use Rattle.loc_course.specs.{Outcomes.outcome, Runs.Argument, Runs.over}
use Rattle.loc_course.specs.Sentences.{AtOnce, Counts, Done, Ended, InTimes, Misses, Names, NoCountRose, Notes, OutSo, ReadsFail, RefusedOnly, Refuses, RefusesPartly, Succeeds, Wrote, note_of}
use Rattle.loc_answering.specs.ByLine.{deep_text}
use Rattle.loc_indexed.specs.{Building.build_course, Builds.Built, IndexedCourses.ask_course, Verifies.Judged}
use Rattle.loc_indexed.specs.Verifying.{verify_course}
use Rattle.loc_maps.specs.MapCourses.{LayerFile, check_course, layer_file}
use Rattle.loc_query.specs.QueryCourses.{query_course}
use Rattle.loc_features.specs.FeatureCourses.{features_course}
use Rattle.loc_face.specs.FaceCourses.{face_course}
use Rattle.loc_breaches.specs.BreachCourses.{valid_course}
use Rattle.loc_groups.specs.GroupCourses.{dissolve_course}
use Rattle.loc_reach.specs.SpanCourses.{stab_course}
use Rattle.loc_trial.specs.TrialCourses.{gen_course, trial_course}
use Rattle.loc_upgrade.specs.{TellsEdges.Listed, UpgradeCourses.edges_course, UpgradeCourses.upgrade_course}
use Rattle.loc_upgrade.specs.Upgrades.{Upgraded}

-- the file of a layer that a command names
abbrev pub file_of : AskedLayer → LayerFile
file_of layer = layer_file layer.name layer.form layer.scale

-- the course of a command
abbrev pub course_by : Asked → Course
course_by (query asked) = query_course asked.index asked.order asked.faces (file_of asked.layer) asked.points
course_by (features asked) = features_course (file_of asked.layer) asked.points
course_by (check asked) = check_course (file_of asked)
course_by (build asked) = build_course (file_of asked.layer) asked.index
course_by (ask asked) = ask_course asked.index asked.points
course_by (verify asked) = verify_course asked.index
course_by (face asked) = face_course (file_of asked.layer) asked.point
course_by (gen asked) = gen_course asked.kind asked.n asked.shift
course_by (trial asked) = trial_course asked.index asked.kind asked.n asked.shift
course_by (upgrade asked) = upgrade_course asked.old asked.new
course_by (edges asked) = edges_course asked.index
course_by (stab asked) = stab_course (file_of asked.layer) asked.spans
course_by (valid asked) = valid_course (file_of asked)
course_by (dissolve asked) = dissolve_course (file_of asked)

-- the file that a command makes, if it makes one
abbrev pub made_by : Asked → Option Text
made_by (build asked) = Some asked.index
made_by (upgrade asked) = Some asked.new
made_by other = None

-- what holds of the files of a command beside its course
abbrev pub BesideCourse : Asked → Meaning → Meaning → ℕ → Type 0
BesideCourse (build asked) old new status = Built (file_of asked.layer) asked.index old new status
BesideCourse (verify asked) old new status = Judged (old.told asked.index) status
BesideCourse (upgrade asked) old new status = Upgraded asked.old asked.new old new status
BesideCourse (edges asked) old new status = Listed (old.told asked.index) status
BesideCourse other old new status = ⊤

-- the course of the words, if they are a command
abbrev pub course_of : List Text → Option Course
course_of words = option_map course_by (command_of words)

-- Words that are no command, or for which memory was wanting: nothing was done, and a line on notes says which.
pub record Untouched (old new : Moment) (n n' : Stream) (status : ℕ) : Type 0 where
  pub same : new ≡ old
  pub noted : ((status ≡ 2) × Wrote n n' usage_text) ⊎ ((status ≡ 5) × Wrote n n' (note_of no_memory))

-- what a run comes to, by the course of its words
abbrev pub Ran : Option Course → Moment → Moment → Stream → Stream → ℕ → Type 0
Ran None old new n n' status = Untouched old new n n' status
Ran (Some c) old new n n' status = Ended c old new n n' status

-- this holds of the outside, of notes and of the status that a run leaves, by the run's arguments
abbrev pub Leaves : {F O N : Type 0} → (Moment → Moment → Stream → Stream → ℕ → Type 0) → (F → Meaning) → Argument F → (O → Stream) → Argument O → Argument ℕ → (N → Stream) → Argument N → ℕ → Type 0
Leaves holds files shelf written out steps noted notes status = over holds files shelf written out steps (noted notes.entry.now) (noted notes.exit.now) status

-- Status 2 comes exactly for words that are no command, want of memory aside, with the usage on notes. For such words nothing is done.
pub record RefusesWords (course : Option Course) (old new : Moment) (n n' : Stream) (status : ℕ) : Type 0 where
  pub only : status ≡ 2 → (course ≡ None) × Wrote n n' usage_text
  pub refused : course ≡ None → (status ≡ 2) ⊎ (status ≡ 5)
  pub nothing : course ≡ None → new ≡ old

-- the points' file is refused by this line: it is too long, or the search of a point of it was given up
abbrev pub RefusesPoints : Text → Type 0
RefusesPoints line = (line ≡ ended (codes "points: too long")) ⊎ ((version : ℕ) × (line ≡ deep_text version))

-- Out has grown by no more than a front of what the told files come to. Nothing was written with status 2 and 5, and with status 1 nothing but the
-- answers to the first lines of points that are refused. A command that writes at once has written nothing with another status than 0 and 4.
pub record OutOf (course : Option Course) (old new : Moment) (n n' : Stream) (status : ℕ) : Type 0 where
  pub grows : IfSome course (λ (c : Course). OutSo (outcome old.shelf.told c) old.out.written new.out.written)
  pub kept : (status ≡ 2) ⊎ (status ≡ 5) → new.out.written ≡ old.out.written
  pub refused : status ≡ 1 → (new.out.written ≡ old.out.written) ⊎ ((line : Text) × RefusesPoints line × Wrote n n' line)
  pub at_once : IfSome course (λ (c : Course). AtOnce c → status ≢ 0 → status ≢ 4 → new.out.written ≡ old.out.written)

-- a count of writes rose: that of out, or that of files
abbrev pub AWriteFailed : Moment → Moment → Type 0
AWriteFailed old new = (old.out.faults < new.out.faults) ⊎ (old.shelf.write_faults < new.shelf.write_faults)

-- Status 4 comes exactly where a count of writes rose, and where the words make no file, exactly where that of out did, if these counts stood below their last value.
pub record WritesFail (asked : Option Asked) (old new : Moment) (status : ℕ) : Type 0 where
  pub rose : AWriteFailed old new → status ≡ 4
  pub only : status ≡ 4 → old.out.faults < 2 ^ 64 - 1 → old.shelf.write_faults < 2 ^ 64 - 1 → AWriteFailed old new
  pub only_out : option_and_then made_by asked ≡ None → status ≡ 4 → old.out.faults < 2 ^ 64 - 1 → old.out.faults < new.out.faults

-- No file changes but the one that the command makes; where it begins to make it, others may no longer be told. With another status than 0 and 4 all
-- files are as before. Where the words are no command that makes a file, all are as before, and no write of a file failed.
pub record FilesOf (asked : Option Asked) (old new : Moment) (status : ℕ) : Type 0 where
  pub others : (name : Text) → option_and_then made_by asked ≢ Some name → IsToldAtMost (old.shelf.told name) (new.shelf.told name)
  pub kept : status ≢ 0 → status ≢ 4 → KeepsFiles old.shelf new.shelf
  -- with status 0 no file is being made that was not being made before
  pub finished : status ≡ 0 → new.shelf.is_making ≡ true → old.shelf.is_making ≡ true
  pub none : option_and_then made_by asked ≡ None → KeepsFiles old.shelf new.shelf × (new.shelf.write_faults ≡ old.shelf.write_faults)

-- this holds of the course of the words, if they are a command
abbrev pub OfCourse : Option Asked → (Course → Type 0) → Type 0
OfCourse asked holds = IfSome (option_map course_by asked) holds

-- All that holds of a run by its words: what stands on out and on notes, and when each status comes.
pub record RunSentences (asked : Option Asked) (old new : Moment) (n n' : Stream) (status : ℕ) : Type 0 where
  pub done : OfCourse asked (λ (c : Course). Done c old new status)
  pub succeeds : OfCourse asked (λ (c : Course). Succeeds c old new status)
  pub refuses : OfCourse asked (λ (c : Course). Refuses c old new n n' status)
  pub refuses_partly : OfCourse asked (λ (c : Course). RefusesPartly c old new n n' status)
  pub refused_only : OfCourse asked (λ (c : Course). RefusedOnly c old new n n' status)
  pub misses : OfCourse asked (λ (c : Course). Misses c old status)
  pub reads_fail : ReadsFail old new status
  pub writes_fail : WritesFail asked old new status
  pub no_count_rose : NoCountRose old new status
  pub out : OutOf (option_map course_by asked) old new n n' status
  pub names : OfCourse asked (λ (c : Course). Names c old new status)
  pub steps : OfCourse asked (λ (c : Course). Counts c old new)
  pub in_time : InTimes old new
  pub notes : Notes n n' status
  pub notes_in_time : InTime n n'
