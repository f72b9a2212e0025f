-- What is answered to a line, as bytes; or the line on notes by which it is refused. The words: `deep_text`, `as_bytes`, `by_line`, `told_bytes`,
-- `told_by_line`, `stopped_by`.
use Rattle.std.specs.Prelude.{ℕ, List, ◌++◌, codes, Result, Ok, Err}
use Rattle.std.specs.Fmt.{decimal}
use Rattle.loc_spec_text.specs.Points.{Answer, ended}
use Rattle.loc_place.specs.declared.locator.Deep.{Deep}
use Rattle.loc_batch.specs.{Batches.Answering, Streams.line_of, Told.Telling, Told.Told}
use Rattle.loc_batch.specs.declared.faults.BatchFault.{BatchFault}
use Rattle.loc_batch.specs.declared.faults.BatchFault.TheVariants as b
use Rattle.loc_course.specs.Courses.{Stopped, refused, unread, unwritten}

-- the line on notes of a search that was given up
abbrev pub deep_text : ℕ → List ℕ
deep_text version = ended (codes "index: version " ++ decimal version ++ codes " deeper than 42")

-- an answer line with its LF, or the line on notes of a search that was given up
abbrev pub as_bytes : Result Answer Deep → Result (List ℕ) (List ℕ)
as_bytes (Ok a) = Ok (line_of a)
as_bytes (Err d) = Err (deep_text d.version)

-- the same of the answer to a line
abbrev pub by_line : Answering → List ℕ → Result (List ℕ) (List ℕ)
by_line answer line = as_bytes (answer line)

-- what is told to a line as bytes, or the line on notes of a search that was given up
abbrev pub told_bytes : Result Told Deep → Result (List ℕ) (List ℕ)
told_bytes (Ok told) = Ok told.line
told_bytes (Err d) = Err (deep_text d.version)

-- the same of what is told to each line
abbrev pub told_by_line : Telling → List ℕ → Result (List ℕ) (List ℕ)
told_by_line telling line = told_bytes (telling line)

-- why the command stops, with the line on notes where the file is too long
abbrev pub stopped_by : List ℕ → BatchFault → Stopped
stopped_by too_long b.ReadFault = unread
stopped_by too_long b.WriteFault = unwritten
stopped_by too_long b.PointsLong = refused too_long
stopped_by too_long (b.Deep version) = refused (deep_text version)
