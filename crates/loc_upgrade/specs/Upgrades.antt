-- What an upgrade of an index file leaves, in the words of its user. The words:
--   IsUpgradeOf  a text is the file, of the second version, of the content of another
--   Upgraded     what is left under the name of the new file
--   Upgrades     all that a user is told
use Rattle.std.specs.Prelude.{◌≡◌, ◌≢◌, ◌⊎◌, ◌↔◌, ℕ, ◌<◌, ◌≤◌, length, Ok, Err, codes}
use Rattle.loc_spec_text.specs.{Bytes.Text, Points.ended, Limits.most_index}
use Rattle.loc_io.specs.Meaning.{KeepsFiles, Meaning, Told, holds}
use Rattle.loc_io.specs.Streams.{Stream}
use Rattle.loc_spec_index.specs.{declared.IndexFault.IndexFault, Content.Content}
use Rattle.loc_spec_index.specs.{IndexFile.IsFileOf, IndexFile.bytes_of, TrueIndex.IsTrueIndexFile}
use Rattle.loc_laws_index.specs.IndexReading.{reading}
use Rattle.loc_course.specs.{Following.IsCut, Following.IsMade, Following.IsToldAtMost, Moments.Moment}
use Rattle.loc_course.specs.{Outcomes.outcome, Sentences.Steady, Sentences.Wrote}
use Rattle.loc_indexed.specs.{Asks.OrMemory, IndexBytes.IsIndexFile, IndexTexts.index_fault_text}
use Rattle.loc_indexed.specs.{IndexedCourses.ask_course, Verifies.AreHeld, Verifies.IsRefused, Verifies.IsToldFile}
use Rattle.loc_indexed.specs.Verifying.{verify_course}
use Rattle.loc_upgrade.specs.UpgradeCourses.{edges_course}

-- Both texts are index files of one content, and the other one is of the second version.
pub record IsUpgradeOf (bytes made : Text) : Type 0 where
  pub content : Content
  pub file : IsIndexFile content bytes
  pub made_file : IsFileOf 2 content made
  -- and both read as it
  pub reads : reading bytes ≡ Ok content
  pub made_reads : reading made ≡ Ok content
  -- a file of the second version is made as it was
  pub same : (c : Content) → IsFileOf 2 c bytes → made ≡ bytes
  -- one is the file of a true index exactly where the other is
  pub as_true : IsTrueIndexFile bytes ↔ IsTrueIndexFile made
  -- whichever of both is asked, judged or listed, it comes to the same
  pub asked : (old new points : Text) (told later : Text → Told) → told old ≡ holds bytes → later new ≡ holds made → later points ≡ told points
      → outcome later (ask_course new points) ≡ outcome told (ask_course old points)
  pub judged : (old new : Text) (told later : Text → Told) → told old ≡ holds bytes → later new ≡ holds made → outcome later (verify_course new) ≡ outcome told (verify_course old)
  pub listed : (old new : Text) (told later : Text → Told) → told old ≡ holds bytes → later new ≡ holds made → outcome later (edges_course new) ≡ outcome told (edges_course old)

-- With status 0 the new file holds the second version of the content that the old one holds. With status 4 it is as before, or cut. Both are spoken
-- of where they are told.
pub record Upgraded (old new : Text) (from to : Meaning) (status : ℕ) : Type 0 where
  pub done : status ≡ 0 → (c : Content) × IsToldFile (from.told old) c × IsMade (bytes_of 2 c) (to.told new)
  pub cut : status ≡ 4 → (to.told new ≡ from.told new) ⊎ ((c : Content) × IsToldFile (from.told old) c × IsCut (bytes_of 2 c) (to.told new))

-- The bytes are those told of the old file. An upgrade may want memory: the status is 5 then, and nothing is on out.
pub record Upgrades (old new : Text) (from to : Moment) (n n' : Stream) (status : ℕ) : Type 0 where
  -- With status 0 the new file, where it is told, is an upgrade of the old one.
  pub made : (bytes : Text) → from.shelf.told old ≡ holds bytes → status ≡ 0 → (made : Text) × IsUpgradeOf bytes made × IsMade made (to.shelf.told new)
  -- With status 4 it is as before, or holds a front of an upgrade.
  pub cut : (bytes : Text) → from.shelf.told old ≡ holds bytes → status ≡ 4
      → (to.shelf.told new ≡ from.shelf.told new) ⊎ ((made : Text) × IsUpgradeOf bytes made × IsCut made (to.shelf.told new))
  -- The status is 0 for every index file, true or not, unless a read or a write failed.
  pub upgrades : (bytes : Text) (c : Content) → AreHeld old from to bytes c → Steady from.shelf.write_faults to.shelf.write_faults → OrMemory from to status (status ≡ 0)
  -- Bytes that are too long or at fault are refused by their line, unless a read failed.
  pub too_long : (bytes : Text) → from.shelf.told old ≡ holds bytes → most_index < length bytes → Steady from.shelf.read_faults to.shelf.read_faults
      → OrMemory from to status (IsRefused from to status × Wrote n n' (ended (codes "index: too long")))
  pub at_fault : (bytes : Text) (fault : IndexFault) → from.shelf.told old ≡ holds bytes → length bytes ≤ most_index → reading bytes ≡ Err fault → Steady from.shelf.read_faults to.shelf.read_faults
      → OrMemory from to status (IsRefused from to status × Wrote n n' (ended (index_fault_text fault)))
  -- Nothing is on out, whatever the status.
  pub out : to.out ≡ from.out
  -- With another status than 0 and 4 every file is told as before, and with these every other file, or it is told no longer.
  pub kept : status ≢ 0 → status ≢ 4 → KeepsFiles from.shelf to.shelf
  pub others : (name : Text) → name ≢ new → IsToldAtMost (from.shelf.told name) (to.shelf.told name)
