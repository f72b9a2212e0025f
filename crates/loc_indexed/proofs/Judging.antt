-- With status 0 what was told is the file of a true index: a command that stopped has another status.
use Rattle.std.proofs.Common.{◌≡◌, Some, Result, Ok, Err, arith}
use Rattle.std.specs.Prelude.{IsErrAnd, OnOk}
use Rattle.loc_io.specs.Meaning.{Told}
use Rattle.loc_spec_index.specs.{Content.Content, TrueIndex.IsTrueIndex}
use Rattle.loc_course.specs.Courses.{Stopped, refused, unread, unwritten, no_memory}
use Rattle.loc_course.specs.{Sentences.status_of, Stops.end_of, Stops.stopped, declared.stop.Stop.Stop}
use Rattle.loc_indexed.specs.Verifies.{IsToldFile, Judged}

-- a command that stopped has another status than 0
stops_not_done : (stop : Stopped) → status_of (Some stop) ≡ 0 → ⊥
stops_not_done (refused line) zero = omega (arith, zero)
stops_not_done unread zero = omega (arith, zero)
stops_not_done unwritten zero = omega (arith, zero)
stops_not_done no_memory zero = omega (arith, zero)

-- so nothing is judged where it stopped
pub none_judged : {T : Type 0} (P : Stop → Type 0) (told : Told) (r : Result T Stop) → IsErrAnd r P → Judged told (status_of (end_of r))
none_judged P told (Ok x) is zero = absurd is
none_judged P told (Err stop) is zero = absurd (stops_not_done (stopped stop) zero)

-- and where it is done only if the content is true, what was told is the file of a true index
pub judged_by : {T : Type 0} (told : Told) (c : Content) (r : Result T Stop) → IsToldFile told c → OnOk r (IsTrueIndex c) → Judged told (status_of (end_of r))
judged_by told c (Ok x) file is zero = (c, file, is)
judged_by told c (Err stop) file is zero = absurd (stops_not_done (stopped stop) zero)
