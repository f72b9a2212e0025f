-- What holds of every command that follows a course, in the words of its user. The words: `status_of`, `note_of`, `Wrote`, `Noted`, `Notes`, `EndsSo`,
-- `Done`, `RefusedOnly`, `MayMake`, `MakesNone`, `Steady`, `NoneFailed`, `IsDoing`, `Succeeds`, `Refuses`, `RefusesPartly`, `Misses`, `ReadsFail`,
-- `WritesFail`, `NoCountRose`, `OutSo`, `AtOnce`, `MayRefuseBehind`, `OutGrows`, `Hands`, `HasLength`, `AreWhole`, `Names`, `Files`, `IsPlain`,
-- `WithinSteps`, `SearchesNothing`, `Counts`, `InTimes`, `Ended`, `Sentences`.
use Rattle.std.specs.Prelude.{◌≡◌, ◌≢◌, ◌⊎◌, ℕ, ◌+◌, ◌*◌, ◌-◌, ◌^◌, ◌<◌, ◌≤◌, Bool, true, List, [], ◌∷◌, ◌++◌, count_by, length, Option, Some, None, Result, Err, IsTrue, ⊤, codes}
use Rattle.std.specs.Io.KnownBytes.{Keeps, Appends}
use Rattle.loc_io.specs.{Causes.Rose, Entries.Entries, Reading.WroteFront, Streams.InTime, Streams.Stream}
use Rattle.loc_io.specs.Meaning.{KeepsFiles, NoneLate, Told, untold, absent, holds}
use Rattle.loc_spec_text.specs.{Bytes.Text, Points.ended}
use Rattle.loc_course.specs.Courses.{Source, Course, refuses, reads, searches, answers, writes, makes, Stopped, refused, unread, unwritten, no_memory}
use Rattle.loc_course.specs.Following.{Follows, IsToldAtMost, IsMade}
use Rattle.loc_course.specs.{Moments.Moment, Moments.IsToldText, Streams.AreSeen, Streams.IsToldFront}
use Rattle.loc_course.specs.Outcomes.{Outcome, unknown, missing, refusal, output, partly, file, outcome}

-- the status of a command
abbrev pub status_of : Option Stopped → ℕ
status_of None = 0
status_of (Some (refused line)) = 1
status_of (Some unread) = 3
status_of (Some unwritten) = 4
status_of (Some no_memory) = 5

-- the line on notes of why a command stopped
abbrev pub note_of : Stopped → Text
note_of (refused line) = line
note_of unread = ended (codes "read failed")
note_of unwritten = ended (codes "write failed")
note_of no_memory = ended (codes "out of memory")

-- the text was written on notes, or a front of it where the count of its faults rose
abbrev pub Wrote : Stream → Stream → Text → Type 0
Wrote n n' text = (Appends n.written n'.written text × (n'.faults ≡ n.faults)) ⊎ (WroteFront n.written n'.written text × Rose n.faults n'.faults)

-- the line of why a command stopped was written on notes, and nothing where it was done
abbrev pub Noted : Option Stopped → Stream → Stream → Type 0
Noted None n n' = n' ≡ n
Noted (Some stop) n n' = Wrote n n' (note_of stop)

-- Nothing is written on notes with status 0, and with 3, 4 and 5 the line of the cause, or a front of it where a write on notes failed.
pub record Notes (n n' : Stream) (status : ℕ) : Type 0 where
  pub done : status ≡ 0 → n' ≡ n
  pub read : status ≡ 3 → Wrote n n' (note_of unread)
  pub write : status ≡ 4 → Wrote n n' (note_of unwritten)
  pub memory : status ≡ 5 → Wrote n n' (note_of no_memory)

-- How a command ends, by what its told files come to. A read may fail, and memory may be wanting, whatever they come to.
abbrev pub EndsSo : Outcome → Option Text → Moment → Option Stopped → Type 0
EndsSo unknown before new end = ⊤
EndsSo missing before new None = ⊥
EndsSo missing before new (Some (refused line)) = ⊥
EndsSo missing before new (Some unread) = ⊤
EndsSo missing before new (Some unwritten) = ⊥
EndsSo missing before new (Some no_memory) = ⊤
EndsSo (refusal passes) before new None = ⊥
EndsSo (refusal passes) before new (Some (refused line)) = IsTrue (passes line)
EndsSo (refusal passes) before new (Some unread) = ⊤
EndsSo (refusal passes) before new (Some unwritten) = ⊥
EndsSo (refusal passes) before new (Some no_memory) = ⊤
EndsSo (output passes) before new None = (text : Text) × IsTrue (passes text) × Appends before new.out.written text
EndsSo (output passes) before new (Some (refused line)) = ⊥
EndsSo (output passes) before new (Some unread) = ⊤
EndsSo (output passes) before new (Some unwritten) = ⊤
EndsSo (output passes) before new (Some no_memory) = ⊤
EndsSo (partly out line) before new None = ⊥
EndsSo (partly out line) before new (Some (refused other)) = (other ≡ line) × Appends before new.out.written out
EndsSo (partly out line) before new (Some unread) = ⊤
EndsSo (partly out line) before new (Some unwritten) = ⊤
EndsSo (partly out line) before new (Some no_memory) = ⊤
EndsSo (file name passes) before new None = (text : Text) × IsTrue (passes text) × IsMade text (new.shelf.told name)
EndsSo (file name passes) before new (Some (refused line)) = ⊥
EndsSo (file name passes) before new (Some unread) = ⊤
EndsSo (file name passes) before new (Some unwritten) = ⊤
EndsSo (file name passes) before new (Some no_memory) = ⊤

-- With status 0 the files, where all are told, come to an output, and out has grown by one that passes; or to a file, and that which was made, where it is told, holds a text that passes.
abbrev pub Done : Course → Moment → Moment → ℕ → Type 0
Done c old new status = status ≡ 0 → EndsSo (outcome old.shelf.told c) old.out.written new None

-- With status 1 the files, where all are told, come to a refusal, and the line on notes passes; or to answers and then a refusal, and it is the line of that.
abbrev pub RefusedOnly : Course → Moment → Moment → Stream → Stream → ℕ → Type 0
RefusedOnly c old new n n' status = status ≡ 1 → (line : Text) × EndsSo (outcome old.shelf.told c) old.out.written new (Some (refused line)) × Wrote n n' line

-- a course may make a file of this name
abbrev pub MayMake : Course → Text → Type 0
MayMake (refuses passes) name = ⊥
MayMake (reads s next) name = (text : Text) × MayMake (next text) name
MayMake (searches k c) name = MayMake c name
MayMake (answers s searched each answer) name = ⊥
MayMake (writes passes) name = ⊥
MayMake (makes made passes) name = name ≡ made

-- a course makes no file
abbrev pub MakesNone : Course → Type 0
MakesNone c = (name : Text) → MayMake c name → ⊥

-- a count stood below its last value, and did not rise
abbrev pub Steady : ℕ → ℕ → Type 0
Steady before now = (before < 2 ^ 64 - 1) × (now ≡ before)

-- no call failed: of reads, of out, and of files where the course may make one
pub record NoneFailed (c : Course) (old new : Moment) : Type 0 where
  pub reads : Steady old.shelf.read_faults new.shelf.read_faults
  pub out : Steady old.out.faults new.out.faults
  pub files : (name : Text) → MayMake c name → Steady old.shelf.write_faults new.shelf.write_faults

-- the told files come to an output or to a file
abbrev pub IsDoing : Outcome → Type 0
IsDoing unknown = ⊥
IsDoing missing = ⊥
IsDoing (refusal passes) = ⊥
IsDoing (output passes) = ⊤
IsDoing (partly out line) = ⊥
IsDoing (file name passes) = ⊤

-- Where the told files come to an output or to a file and nothing failed, the status is 0, or 5.
abbrev pub Succeeds : Course → Moment → Moment → ℕ → Type 0
Succeeds c old new status = IsDoing (outcome old.shelf.told c) → NoneFailed c old new → (status ≡ 0) ⊎ (status ≡ 5)

-- Where the told files come to a refusal and no read failed, the status is 1 with a line that passes, or 5.
abbrev pub Refuses : Course → Moment → Moment → Stream → Stream → ℕ → Type 0
Refuses c old new n n' status = (passes : Text → Bool) → outcome old.shelf.told c ≡ refusal passes → Steady old.shelf.read_faults new.shelf.read_faults
    → ((status ≡ 1) × (line : Text) × IsTrue (passes line) × Wrote n n' line) ⊎ (status ≡ 5)

-- Where the told files come to some answers and then a refusal and nothing failed, the status is 1 with the line, and out has grown by these answers;
-- or it is 5.
abbrev pub RefusesPartly : Course → Moment → Moment → Stream → Stream → ℕ → Type 0
RefusesPartly c old new n n' status = (out line : Text) → outcome old.shelf.told c ≡ partly out line → NoneFailed c old new
    → ((status ≡ 1) × Appends old.out.written new.out.written out × Wrote n n' line) ⊎ (status ≡ 5)

-- Where a file on the way is not there, the status is 3, or 5.
abbrev pub Misses : Course → Moment → ℕ → Type 0
Misses c old status = outcome old.shelf.told c ≡ missing → (status ≡ 3) ⊎ (status ≡ 5)

-- status 3 comes exactly where the count of reads rose, if it stood below its last value
abbrev pub ReadsFail : Moment → Moment → ℕ → Type 0
ReadsFail old new status = old.shelf.read_faults < 2 ^ 64 - 1 → (status ≡ 3 → old.shelf.read_faults < new.shelf.read_faults) × (old.shelf.read_faults < new.shelf.read_faults → status ≡ 3)

-- Status 4 comes where a count of writes rose, that of out or that of files, and only there; of files only where the course may make one.
pub record WritesFail (c : Course) (old new : Moment) (status : ℕ) : Type 0 where
  pub rose : (old.out.faults < new.out.faults) ⊎ (old.shelf.write_faults < new.shelf.write_faults) → status ≡ 4
  pub only : status ≡ 4 → Rose old.out.faults new.out.faults ⊎ ((name : Text) × MayMake c name × Rose old.shelf.write_faults new.shelf.write_faults)

-- the count of reads rises with status 3 alone, and those of writes with status 4 alone
pub record NoCountRose (old new : Moment) (status : ℕ) : Type 0 where
  pub reads : status ≢ 3 → new.shelf.read_faults ≡ old.shelf.read_faults
  pub out : status ≢ 4 → new.out.faults ≡ old.out.faults
  pub files : status ≢ 4 → new.shelf.write_faults ≡ old.shelf.write_faults

-- out is as before, or has grown by a front of what the files come to, where all are told
abbrev pub OutSo : Outcome → Option Text → Option Text → Type 0
OutSo unknown before now = ⊤
OutSo missing before now = Keeps before now
OutSo (refusal passes) before now = now ≡ before
OutSo (output passes) before now = Keeps before now ⊎ ((text : Text) × IsTrue (passes text) × WroteFront before now text)
OutSo (partly out line) before now = WroteFront before now out
OutSo (file name passes) before now = now ≡ before

-- a course answers no lines: it writes at once
abbrev pub AtOnce : Course → Type 0
AtOnce (refuses passes) = ⊤
AtOnce (reads s next) = (text : Text) → AtOnce (next text)
AtOnce (searches k c) = AtOnce c
AtOnce (answers s searched each answer) = ⊥
AtOnce (writes passes) = ⊤
AtOnce (makes name passes) = ⊤

-- a line by which a course may refuse a file whose lines it answers: the file is too long, or a line is refused
abbrev pub MayRefuseBehind : Course → Text → Type 0
MayRefuseBehind (refuses passes) line = ⊥
MayRefuseBehind (reads s next) line = (text : Text) × MayRefuseBehind (next text) line
MayRefuseBehind (searches k c) line = MayRefuseBehind c line
MayRefuseBehind (answers s searched each answer) line = (line ≡ s.too_long) ⊎ ((asked : Text) × (answer asked ≡ Err line))
MayRefuseBehind (writes passes) line = ⊥
MayRefuseBehind (makes name passes) line = ⊥

-- Out has grown by no more than a front of what the told files come to. Nothing was written with status 5, and with status 1 only where the line on
-- notes refuses a file whose lines were answered. Where a course writes at once, nothing was written with status 1, 3 and 5.
pub record OutGrows (c : Course) (old new : Moment) (n n' : Stream) (status : ℕ) : Type 0 where
  pub grows : OutSo (outcome old.shelf.told c) old.out.written new.out.written
  pub memory : status ≡ 5 → new.out.written ≡ old.out.written
  pub refused : status ≡ 1 → (new.out.written ≡ old.out.written) ⊎ ((line : Text) × MayRefuseBehind c line × Wrote n n' line)
  pub kept : AtOnce c → status ≢ 0 → status ≢ 4 → new.out.written ≡ old.out.written

-- The entries that a course adds, by what is told of each name: of each source at most one, in order, and one behind another only where that
-- was read whole.
pub data Hands (told : Text → Told) : Course → Entries → Type 0 where
  hands_none : {c : Course} → Hands told c []
  hands_last : {s : Source} {next : Text → Course} (taken : ℕ) → Hands told (reads s next) ((s.name, taken) ∷ [])
  hands_on : {s : Source} {next : Text → Course} {more : Entries} (text : Text) → length text ≤ s.limit → IsToldText (told s.name) text
      → Hands told (next text) more → Hands told (reads s next) ((s.name, length text) ∷ more)
  hands_answered : {s : Source} {searched : Text → Bool} {each : ℕ} {answer : Text → Result Text Text} (taken : ℕ) → Hands told (answers s searched each answer) ((s.name, taken) ∷ [])
  hands_searched : {k : ℕ} {c : Course} {more : Entries} → Hands told c more → Hands told (searches k c) more

-- a file has so many bytes, where it is told
abbrev pub HasLength : Told → ℕ → Type 0
HasLength untold taken = ⊤
HasLength absent taken = ⊥
HasLength (holds bytes) taken = taken ≡ length bytes

-- as many bytes were taken under each name as its file has
abbrev pub AreWhole : (Text → Told) → Entries → Type 0
AreWhole told [] = ⊤
AreWhole told (e ∷ es) = HasLength (told e.0) e.1 × AreWhole told es

-- No name but those of the course is handed to the shelf, each in its turn. With status 0 each file was taken whole.
pub record Names (c : Course) (old new : Moment) (status : ℕ) : Type 0 where
  pub added : Entries
  pub entries : new.shelf.entries ≡ old.shelf.entries ++ added
  pub handed : Hands old.shelf.told c added
  pub whole : status ≡ 0 → AreWhole old.shelf.told added

-- No file changes but one that the course may make. Others may no longer be told then, and where there is none, all are told as before: so they are
-- unless the command was done or a write failed.
pub record Files (c : Course) (old new : Moment) (status : ℕ) : Type 0 where
  pub others : (name : Text) → (MayMake c name → ⊥) → IsToldAtMost (old.shelf.told name) (new.shelf.told name)
  pub all : MakesNone c → KeepsFiles old.shelf new.shelf
  pub steady : MakesNone c → new.shelf.write_faults ≡ old.shelf.write_faults
  pub kept : status ≢ 0 → status ≢ 4 → KeepsFiles old.shelf new.shelf
  -- with status 0 no file is being made that was not being made before
  pub finished : status ≡ 0 → new.shelf.is_making ≡ true → old.shelf.is_making ≡ true

-- a course writes at once, and makes no file
pub record IsPlain (c : Course) : Type 0 where
  pub at_once : AtOnce c
  pub makes_none : MakesNone c

-- a course takes at most so many steps, by what is told of each name
abbrev pub WithinSteps : (Text → Told) → Course → ℕ → Type 0
WithinSteps told (refuses passes) k = ⊤
WithinSteps told (reads s next) k = (text : Text) → length text ≤ s.limit → IsToldText (told s.name) text → WithinSteps told (next text) k
WithinSteps told (searches j c) k = (rest : ℕ) × (j + rest ≤ k) × WithinSteps told c rest
WithinSteps told (answers s searched each answer) k =
    (taken : ℕ) (text : Text) (seen : List Text) → length text ≤ s.limit → IsToldFront (told s.name) text → AreSeen (told s.name) taken text seen → count_by searched seen * each ≤ k
WithinSteps told (writes passes) k = ⊤
WithinSteps told (makes name passes) k = ⊤

-- a course searches nothing
abbrev pub SearchesNothing : Course → Type 0
SearchesNothing (refuses passes) = ⊤
SearchesNothing (reads s next) = (text : Text) → SearchesNothing (next text)
SearchesNothing (searches k c) = ⊥
SearchesNothing (answers s searched each answer) = ⊥
SearchesNothing (writes passes) = ⊤
SearchesNothing (makes name passes) = ⊤

-- Steps are counted upwards, and not more than the course takes. Where it searches nothing they stay, whatever is told.
pub record Counts (c : Course) (old new : Moment) : Type 0 where
  pub up : old.steps ≤ new.steps
  pub within : (k : ℕ) → WithinSteps old.shelf.told c k → new.steps ≤ old.steps + k
  pub stay : SearchesNothing c → new.steps ≡ old.steps

-- Where no call of the shelf had failed before, none was made after one had failed; so for out.
pub record InTimes (old new : Moment) : Type 0 where
  pub shelf : NoneLate old.shelf new.shelf
  pub out : InTime old.out new.out

-- What a command came to, and all of it by one end: it followed its course to this end, which gives the status and the line on notes.
pub record Ended (c : Course) (old new : Moment) (n n' : Stream) (status : ℕ) : Type 0 where
  pub end : Option Stopped
  pub follows : Follows c old new end
  pub noted : Noted end n n'
  pub status_is : status ≡ status_of end

-- All that holds of a command that follows a course, by its status, and the line on notes.
pub record Sentences (c : Course) (old new : Moment) (n n' : Stream) (status : ℕ) : Type 0 where
  pub done : Done c old new status
  pub succeeds : Succeeds c old new status
  pub refuses : Refuses c old new n n' status
  pub refuses_partly : RefusesPartly c old new n n' status
  pub refused_only : RefusedOnly c old new n n' status
  pub misses : Misses c old status
  pub reads_fail : ReadsFail old new status
  pub writes_fail : WritesFail c old new status
  pub no_count_rose : NoCountRose old new status
  pub out : OutGrows c old new n n' status
  pub names : Names c old new status
  pub files : Files c old new status
  pub steps : Counts c old new
  pub in_time : InTimes old new
  pub notes : Notes n n' status
