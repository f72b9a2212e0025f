-- What was read is what the bytes read as, and bytes that were refused have the fault that they read as.
use Rattle.std.proofs.Common.{◌≡◌, ℕ, List, Some, Ok, Err, refl, sym, subst}
use Rattle.std.specs.Prelude.{Result}
use Rattle.loc_spec_text.specs.Points.{ended}
use Rattle.loc_spec_index.specs.{declared.IndexFault.IndexFault, Content.Content, IndexFile.HasFault}
use Rattle.loc_spec_index.specs.declared.IndexFault.TheVariants as f
use Rattle.loc_laws_index.specs.IndexReading.{AreBytes, reading}
use Rattle.loc_laws_index.proofs.HeldTold.{reads_files}
use Rattle.loc_file.specs.Refused.{IsRefused, faulty, unheld}
use Rattle.loc_course.specs.Courses.{Course, refused}
use Rattle.loc_course.specs.Following.{Moment, Follows, lacks, refuses_by}
use Rattle.loc_course.proofs.Told.{exactly_it}
use Rattle.loc_indexed.specs.{IndexBytes.IsIndexFile, IndexedCourses.index_in}
use Rattle.loc_indexed.specs.IndexTexts.{index_fault_text, index_stop}

-- what a file holds is what it reads as
pub file_reads : (bytes : List ℕ) (c : Content) → AreBytes bytes → IsIndexFile c bytes → reading bytes ≡ Ok c
file_reads bytes c small file = (reads_files.content bytes file.0 c small file.1).0

-- bytes with a first fault read as it
fault_reads : (bytes : List ℕ) (fault : IndexFault) → AreBytes bytes → HasFault bytes fault → reading bytes ≡ Err fault
fault_reads bytes fault small has = reads_files.fault bytes fault small has

-- a command goes on by what was read
pub goes_on_by : (bytes : List ℕ) (c : Content) (next : Content → Course) (m last : Moment) → AreBytes bytes → IsIndexFile c bytes → {end : _} → Follows (next c) m last end → Follows (index_in (reading bytes) next) m last end
goes_on_by bytes c next m last small file {end} follows = subst (λ (r : Result Content IndexFault). Follows (index_in r next) m last end) (sym (file_reads bytes c small file)) follows

-- the line of a fault, by which the bytes are refused
by_line : (bytes : List ℕ) (fault : IndexFault) (next : Content → Course) (m : Moment) → reading bytes ≡ Err fault → Follows (index_in (reading bytes) next) m m (Some (refused (ended (index_fault_text fault))))
by_line bytes fault next m is =
    let line = ended (index_fault_text fault) in
    subst (λ (r : Result Content IndexFault). Follows (index_in r next) m m (Some (refused line))) (sym is) (refuses_by line (exactly_it line line refl))

stops_by : (bytes : List ℕ) (fault : IndexFault) (next : Content → Course) (m : Moment) → reading bytes ≡ Err fault → Follows (index_in (reading bytes) next) m m (Some (index_stop fault))
stops_by bytes f.NoMemory next m is = lacks
stops_by bytes (f.Short need) next m is = by_line bytes (f.Short need) next m is
stops_by bytes f.Magic next m is = by_line bytes f.Magic next m is
stops_by bytes (f.Version found) next m is = by_line bytes (f.Version found) next m is
stops_by bytes (f.Field offset value bound) next m is = by_line bytes (f.Field offset value bound) next m is
stops_by bytes (f.NotSorted part row) next m is = by_line bytes (f.NotSorted part row) next m is
stops_by bytes (f.Long rest) next m is = by_line bytes (f.Long rest) next m is

-- a command stops where the bytes are refused
pub refuses_index : (bytes : List ℕ) (fault : IndexFault) (next : Content → Course) (m : Moment) → AreBytes bytes → IsRefused bytes fault → Follows (index_in (reading bytes) next) m m (Some (index_stop fault))
refuses_index bytes _ next m small (faulty fault has) = stops_by bytes fault next m (fault_reads bytes fault small has)
refuses_index bytes _ next m small unheld = lacks
