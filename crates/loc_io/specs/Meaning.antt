-- What a shelf means, and what each of its calls does to that: `TakesUp`, `Reads`, `Creates`, `Writes` and `Finishes`.
use Rattle.std.specs.Prelude.{◌≡◌, ◌≢◌, ◌⊎◌, ℕ, ◌<◌, ◌≤◌, Bool, true, false, ◌||◌, nat_lt, List, [], length, Option, Some, None, Result, IfOk, OnOk, OnErr, MatchResult}
use Rattle.std.specs.Io.KnownBytes.{Keeps, ReadConsumes, WriteAppends}
use Rattle.loc_io.specs.{Causes.CountsLate, Causes.HasCause, Entries.Entries, Entries.handed, Entries.taken}

-- what a shelf tells of a name: nothing, that no file is there, or the bytes of the file
pub data Told : Type 0 where
  untold : Told
  absent : Told
  holds : List ℕ → Told

-- the bytes, where they are told
abbrev pub bytes_of : Told → Option (List ℕ)
bytes_of untold = None
bytes_of absent = None
bytes_of (holds bytes) = Some bytes

-- what can be said of a shelf at one moment
pub record Meaning : Type 0 where
  -- what is told of each name
  pub told : List ℕ → Told
  -- whether a file is taken up, and its rest where told
  pub is_open : Bool
  pub rest : Option (List ℕ)
  -- whether a file is being made, and its name where told
  pub is_making : Bool
  pub made : Option (List ℕ)
  -- the names handed to take_up, each with the number of bytes taken under it
  pub entries : Entries
  pub read_faults : ℕ
  pub write_faults : ℕ
  -- how many calls were made after one had failed
  pub late : ℕ

-- whether a call has failed
abbrev pub has_failed : Meaning → Bool
has_failed m = nat_lt 0 m.read_faults || nat_lt 0 m.write_faults

-- a call after a failed one is counted as late
abbrev pub IsCounted : Meaning → Meaning → Type 0
IsCounted old new = CountsLate (has_failed old) old.late new.late

-- where no call had failed before, none was made after one had failed
abbrev pub NoneLate : Meaning → Meaning → Type 0
NoneLate old new = old.read_faults ≡ 0 → old.write_faults ≡ 0 → new.late ≡ old.late

-- every name is told as it was: no file changed, came or went
abbrev pub KeepsFiles : Meaning → Meaning → Type 0
KeepsFiles old new = (name : List ℕ) → new.told name ≡ old.told name

-- every name is told as it was, or is no longer told
abbrev pub HidesAtMost : Meaning → Meaning → Type 0
HidesAtMost old new = (name : List ℕ) → (new.told name ≡ old.told name) ⊎ (new.told name ≡ untold)

-- the making goes on as it was
pub record KeepsMaking (old new : Meaning) : Type 0 where
  pub is_making : new.is_making ≡ old.is_making
  pub made : new.made ≡ old.made
  pub write_faults : new.write_faults ≡ old.write_faults

-- the reading goes on as it was
pub record KeepsReading (old new : Meaning) : Type 0 where
  pub is_open : new.is_open ≡ old.is_open
  pub rest : new.rest ≡ old.rest
  pub entries : new.entries ≡ old.entries
  pub read_faults : new.read_faults ≡ old.read_faults

-- nothing was handed over, nothing is taken up or being made, and no call has failed
pub record IsFresh (new : Meaning) : Type 0 where
  pub entries : new.entries ≡ []
  pub is_open : new.is_open ≡ false
  pub is_making : new.is_making ≡ false
  pub read_faults : new.read_faults ≡ 0
  pub write_faults : new.write_faults ≡ 0
  pub late : new.late ≡ 0

-- the name is noted; at Ok its file was there, and is taken up with all its bytes
pub record TakesUp {T E : Type 0} (name : List ℕ) (old new : Meaning) (result : Result T E) : Type 0 where
  pub files : KeepsFiles old new
  pub making : KeepsMaking old new
  pub entries : new.entries ≡ handed name old.entries
  -- a name that is not there is a failure
  pub opened : OnOk result ((old.told name ≢ absent) × (new.is_open ≡ true) × Keeps (bytes_of (old.told name)) new.rest)
  pub cause : HasCause old.read_faults new.read_faults result
  pub late : IsCounted old new

-- so many bytes went from the front of the rest to the front of `into`, and 0 only at the end
pub record Reads {E : Type 0} (old new : Meaning) (into : List ℕ) (result : Result ℕ E) : Type 0 where
  pub files : KeepsFiles old new
  pub making : KeepsMaking old new
  pub entries : MatchResult result (λ n. new.entries ≡ taken n old.entries) (λ _. new.entries ≡ old.entries)
  pub opened : OnOk result (new.is_open ≡ true)
  pub bytes : ReadConsumes old.rest new.rest result into
  pub bound : IfOk result (λ n. n ≤ length into)
  pub cause : HasCause old.read_faults new.read_faults result
  pub late : IsCounted old new

-- the file under the name is empty and is being made, and the others are as they were; or nothing is told any more
abbrev pub CreatesFile : List ℕ → Meaning → Meaning → Type 0
CreatesFile name old new =
    ((new.made ≡ Some name) × (new.told name ≡ holds []) × ((other : List ℕ) → other ≢ name → new.told other ≡ old.told other))
    ⊎ ((new.made ≡ None) × ((other : List ℕ) → new.told other ≡ untold))

-- at Ok the file is empty and being made, and at Err the files are as they were, where told
pub record Creates {T E : Type 0} (name : List ℕ) (old new : Meaning) (result : Result T E) : Type 0 where
  pub reading : KeepsReading old new
  pub file : OnOk result ((new.is_making ≡ true) × CreatesFile name old new)
  pub refused : OnErr result (HidesAtMost old new)
  pub cause : HasCause old.write_faults new.write_faults result
  pub late : IsCounted old new

-- at Ok the file being made has grown by a front of the piece, and at Err by nothing
pub record Writes {E : Type 0} (piece : List ℕ) (old new : Meaning) (result : Result ℕ E) : Type 0 where
  pub reading : KeepsReading old new
  pub bound : IfOk result (λ n. (0 < n) × (n ≤ length piece))
  pub made : OnOk result ((new.is_making ≡ true) × (new.made ≡ old.made))
  pub file : (name : List ℕ) → old.made ≡ Some name → WriteAppends (bytes_of (old.told name)) (bytes_of (new.told name)) result piece
  pub others : (name : List ℕ) → old.made ≢ Some name → new.told name ≡ old.told name
  pub refused : OnErr result (KeepsFiles old new)
  pub cause : HasCause old.write_faults new.write_faults result
  pub late : IsCounted old new

-- no file is being made any more, also at Err, and no file has changed
pub record Finishes {T E : Type 0} (old new : Meaning) (result : Result T E) : Type 0 where
  pub reading : KeepsReading old new
  pub files : KeepsFiles old new
  pub over : new.is_making ≡ false
  pub cause : HasCause old.write_faults new.write_faults result
  pub late : IsCounted old new

-- the file is there with these bytes, and all else is as it was
pub record PutsFile (name bytes : List ℕ) (old new : Meaning) : Type 0 where
  pub file : new.told name ≡ holds bytes
  pub others : (other : List ℕ) → other ≢ name → new.told other ≡ old.told other
  pub reading : KeepsReading old new
  pub making : KeepsMaking old new
  pub late : new.late ≡ old.late

-- the file was handed in, unless no file is told any more, and all else is as it was
pub record HandsIn (name bytes : List ℕ) (old new : Meaning) : Type 0 where
  pub file : (new.told name ≡ holds bytes) ⊎ ((other : List ℕ) → old.told other ≡ untold)
  pub others : (other : List ℕ) → other ≢ name → new.told other ≡ old.told other
  pub hidden : (other : List ℕ) → old.told other ≡ untold → new.told other ≡ untold
  pub reading : KeepsReading old new
  pub making : KeepsMaking old new
  pub late : new.late ≡ old.late
