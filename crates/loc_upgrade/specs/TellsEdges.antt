-- What the edges of an index file tell, in the words of a user. The words:
--   Listed      with status 0 what was told is an index file
--   TellsEdges  all that a user is told
use Rattle.std.specs.Prelude.{◌≡◌, ◌≢◌, ℕ, ◌<◌, ◌≤◌, length, Err, codes}
use Rattle.std.specs.Io.KnownBytes.{Appends}
use Rattle.loc_spec_text.specs.{Bytes.Text, Points.ended, Limits.most_index}
use Rattle.loc_io.specs.{Meaning.Told, Meaning.holds, Streams.Stream}
use Rattle.loc_spec_index.specs.{declared.IndexFault.IndexFault, Content.Content}
use Rattle.loc_laws_index.specs.IndexReading.{reading}
use Rattle.loc_course.specs.{Moments.Moment, Sentences.Steady, Sentences.Wrote}
use Rattle.loc_indexed.specs.{Asks.IsDone, Asks.OrMemory, IndexBytes.IsIndexFile, IndexTexts.index_fault_text}
use Rattle.loc_indexed.specs.Verifies.{AreHeld, IsRefused, IsToldFile}
use Rattle.loc_upgrade.specs.EdgeTexts.{edges_text}

-- with status 0 what was told is an index file
abbrev pub Listed : Told → ℕ → Type 0
Listed told status = status ≡ 0 → (c : Content) × IsToldFile told c

-- A listing may want memory: the status is 5 then, and nothing is on out.
pub record TellsEdges (index : Text) (old new : Moment) (n n' : Stream) (status : ℕ) : Type 0 where
  -- The edges of every index file are told, true or not, unless a read or a write failed.
  pub lists : (bytes : Text) (c : Content) → AreHeld index old new bytes c → Steady old.out.faults new.out.faults → OrMemory old new status (IsDone old new status (edges_text c))
  -- With status 0 what was told is an index file, and out has grown by the lines of its edges.
  pub only : (bytes : Text) → old.shelf.told index ≡ holds bytes → status ≡ 0 → (c : Content) × IsIndexFile c bytes × Appends old.out.written new.out.written (edges_text c)
  -- Bytes that are too long or at fault are refused by their line, unless a read failed.
  pub too_long : (bytes : Text) → old.shelf.told index ≡ holds bytes → most_index < length bytes → Steady old.shelf.read_faults new.shelf.read_faults
      → OrMemory old new status (IsRefused old new status × Wrote n n' (ended (codes "index: too long")))
  pub at_fault : (bytes : Text) (fault : IndexFault) → old.shelf.told index ≡ holds bytes → length bytes ≤ most_index → reading bytes ≡ Err fault → Steady old.shelf.read_faults new.shelf.read_faults
      → OrMemory old new status (IsRefused old new status × Wrote n n' (ended (index_fault_text fault)))
  -- With another status than 0 and 4 nothing is on out.
  pub out : status ≢ 0 → status ≢ 4 → new.out.written ≡ old.out.written
