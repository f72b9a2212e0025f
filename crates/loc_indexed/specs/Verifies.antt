-- What a judgement of an index file tells, in the words of its user. The words:
--   IsToldFile  the text of a file, where it is told, is the index file of a content
--   Judged      with status 0 what was told is a true index
--   AreHeld     what is told is the index file of a content, and no read failed
--   IsRefused   the status is 1, and nothing is on out
--   Verifies    all that a user is told
use Rattle.std.specs.Prelude.{◌≡◌, ◌≢◌, ℕ, ◌<◌, ◌≤◌, length, Err, IsTrue, not, codes}
use Rattle.std.specs.Io.KnownBytes.{Appends}
use Rattle.loc_spec_text.specs.{Bytes.Text, Points.ended, Limits.most_index}
use Rattle.loc_io.specs.{Meaning.Told, Meaning.holds, Streams.Stream}
use Rattle.loc_spec_index.specs.{declared.IndexFault.IndexFault, Content.Content}
use Rattle.loc_spec_index.specs.{Flaws.Flaw, Flaws.IsFirst, Flaws.conflicting, TrueIndex.IsTrueIndex}
use Rattle.loc_indexed.specs.{IndexBytes.IsIndexFile, Asks.IsDone, Asks.OrMemory, IndexTexts.index_fault_text}
use Rattle.loc_laws_index.specs.IndexReading.{AreBytes, reading}
use Rattle.loc_course.specs.{Moments.Moment, Moments.IsToldText, Sentences.Steady, Sentences.Wrote}
use Rattle.loc_indexed.specs.FlawTexts.{flaw_text, index_text, is_clash, names_clash}

-- the text of a file, where it is told, is the index file of the content
abbrev pub IsToldFile : Told → Content → Type 0
IsToldFile told c = (bytes : Text) × IsToldText told bytes × AreBytes bytes × IsIndexFile c bytes

-- with status 0 what was told is the file of a true index
abbrev pub Judged : Told → ℕ → Type 0
Judged told status = status ≡ 0 → (c : Content) × IsToldFile told c × IsTrueIndex c

-- The bytes are told and within the limit, and they are the index file of the content. No read failed.
pub record AreHeld (index : Text) (old new : Moment) (bytes : Text) (c : Content) : Type 0 where
  pub told : old.shelf.told index ≡ holds bytes
  pub within : length bytes ≤ most_index
  pub small : AreBytes bytes
  pub file : IsIndexFile c bytes
  pub reads : Steady old.shelf.read_faults new.shelf.read_faults

-- the status is 1, and nothing is on out
abbrev pub IsRefused : Moment → Moment → ℕ → Type 0
IsRefused old new status = (status ≡ 1) × (new.out.written ≡ old.out.written)

-- A judgement may want memory: the status is 5 then, and nothing is on out.
pub record Verifies (index : Text) (old new : Moment) (n n' : Stream) (status : ℕ) : Type 0 where
  -- Of the file of a true index the counts are told, unless a read or a write failed.
  pub of_true : (bytes : Text) (c : Content) → AreHeld index old new bytes c → IsTrueIndex c → Steady old.out.faults new.out.faults
      → OrMemory old new status (IsDone old new status (ended (index_text c)))
  -- With status 0 what was told is the file of a true index, and out has grown by its counts.
  pub only_true : (bytes : Text) → old.shelf.told index ≡ holds bytes → status ≡ 0
      → (c : Content) × IsIndexFile c bytes × IsTrueIndex c × Appends old.out.written new.out.written (ended (index_text c))
  -- Other bytes are refused, unless a read or a write failed.
  pub other : (bytes : Text) → old.shelf.told index ≡ holds bytes → ((c : Content) → IsIndexFile c bytes → IsTrueIndex c → ⊥)
      → Steady old.shelf.read_faults new.shelf.read_faults → Steady old.out.faults new.out.faults → OrMemory old new status (IsRefused old new status)
  -- An index that is not true is refused, unless a read failed, by the line of its first flaw,
  pub flaw : (bytes : Text) (c : Content) (flaw : Flaw) → AreHeld index old new bytes c → IsFirst c flaw → IsTrue (not (is_clash flaw))
      → OrMemory old new status (IsRefused old new status × Wrote n n' (ended (flaw_text flaw)))
  -- or by one that names two edges that conflict, and how, where that is the first.
  pub clash : (bytes : Text) (c : Content) (a b : ℕ) → AreHeld index old new bytes c → IsFirst c (conflicting a b)
      → OrMemory old new status (IsRefused old new status × (line : Text) × IsTrue (names_clash c line) × Wrote n n' line)
  -- Bytes that are too long or at fault are refused by their line, unless a read failed.
  pub too_long : (bytes : Text) → old.shelf.told index ≡ holds bytes → most_index < length bytes → Steady old.shelf.read_faults new.shelf.read_faults
      → OrMemory old new status (IsRefused old new status × Wrote n n' (ended (codes "index: too long")))
  pub at_fault : (bytes : Text) (fault : IndexFault) → old.shelf.told index ≡ holds bytes → length bytes ≤ most_index → reading bytes ≡ Err fault → Steady old.shelf.read_faults new.shelf.read_faults
      → OrMemory old new status (IsRefused old new status × Wrote n n' (ended (index_fault_text fault)))
  -- With another status than 0 and 4 nothing is on out.
  pub out : status ≢ 0 → status ≢ 4 → new.out.written ≡ old.out.written
