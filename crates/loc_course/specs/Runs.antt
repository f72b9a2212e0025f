-- What a call comes to by a course, said of the arguments that stand for the outside: files, out and the counter of steps. The words: `Argument`,
-- `over`, `Runs`, `RunsOnFilesAndOut`, `RunsOnFiles`, `RunsOnOut`, `RunsOnOutAndSteps`, `GoesOnFiles`.
use denote.MutBor.{MutBor}
use denote.Triple.Both.{Both}
use Rattle.std.specs.Prelude.{ℕ, Result}
use Rattle.loc_io.specs.{Meaning.Meaning, Streams.Stream}
use Rattle.loc_course.specs.{Courses.Course, Following.Follows, Moments.Moment, Moments.moment}
use Rattle.loc_course.specs.{Stops.GoesOn, Stops.end_of, declared.stop.Stop.Stop}

-- a `&mut` argument, as a call begins and as it ends
abbrev pub Argument : Type 0 → Type 0
Argument X = Both (MutBor X) (MutBor X)

-- what holds of the outside as a call begins and as it ends, where the call has files, out and the counter of steps
abbrev pub over {ℓ} : {T : Type ℓ} {F O : Type 0} → (Moment → Moment → T) → (F → Meaning) → Argument F → (O → Stream) → Argument O → Argument ℕ → T
over holds files shelf written out steps = holds (moment (files shelf.entry.now) (written out.entry.now) steps.entry.now) (moment (files shelf.exit.now) (written out.exit.now) steps.exit.now)

-- a call followed a course
abbrev pub Runs : {T F O : Type 0} → Course → (F → Meaning) → Argument F → (O → Stream) → Argument O → Argument ℕ → Result T Stop → Type 0
Runs course files shelf written out steps result = over (Follows course) files shelf written out steps (end_of result)

-- a call followed a course on files and out, and counted no step
abbrev pub RunsOnFilesAndOut : {T F O : Type 0} → Course → (F → Meaning) → Argument F → (O → Stream) → Argument O → Result T Stop → Type 0
RunsOnFilesAndOut course files shelf written out result = (k : ℕ) → Follows course (moment (files shelf.entry.now) (written out.entry.now) k) (moment (files shelf.exit.now) (written out.exit.now) k) (end_of result)

-- a call followed a course on files alone
abbrev pub RunsOnFiles : {T F : Type 0} → Course → (F → Meaning) → Argument F → Result T Stop → Type 0
RunsOnFiles course files shelf result = (o : Stream) (k : ℕ) → Follows course (moment (files shelf.entry.now) o k) (moment (files shelf.exit.now) o k) (end_of result)

-- a call followed a course on out alone
abbrev pub RunsOnOut : {T O : Type 0} → Course → (O → Stream) → Argument O → Result T Stop → Type 0
RunsOnOut course written out result = (shelf : Meaning) (k : ℕ) → Follows course (moment shelf (written out.entry.now) k) (moment shelf (written out.exit.now) k) (end_of result)

-- a call followed a course on out, and counted its steps
abbrev pub RunsOnOutAndSteps : {T O : Type 0} → Course → (O → Stream) → Argument O → Argument ℕ → Result T Stop → Type 0
RunsOnOutAndSteps course written out steps result = (shelf : Meaning) → Follows course (moment shelf (written out.entry.now) steps.entry.now) (moment shelf (written out.exit.now) steps.exit.now) (end_of result)

-- a call goes on from a course to what is left of it, for whatever course is to come, on files alone
abbrev pub GoesOnFiles : {N T F : Type 0} → (N → Course) → (N → T → Course) → (F → Meaning) → Argument F → Result T Stop → Type 0
GoesOnFiles {N = N} course left files shelf result = (next : N) (o : Stream) (k : ℕ) → GoesOn (course next) (moment (files shelf.entry.now) o k) (left next) (moment (files shelf.exit.now) o k) result
