-- What reading a whole file comes to. The words: `Whole`, `FaultIsTold`, `LengthIsTold`, `BytesAreTold`, `IsUnread`, `ReadsAll`.
use Rattle.std.specs.Prelude.{◌≡◌, ℕ, ◌<◌, ◌≤◌, List, [], ◌∷◌, ◌++◌, length, Option, Some, None, Result, Ok, Err, Vec, ⊤}
use Rattle.std.specs.declared.alloc.Global.{Global}
use Rattle.loc_io.specs.{Causes.Rose, declared.whole.ReadAllFault.ReadAllFault}
use Rattle.loc_io.specs.Meaning.{Meaning, KeepsFiles, KeepsMaking, NoneLate, absent, bytes_of}
use Rattle.loc_io.specs.declared.whole.ReadAllFault.TheVariants.{ReadFault, TooLong, NoMemory}

-- what `read_all` answers
abbrev pub Whole : Type 0
Whole = Result (Vec ℕ Global) ReadAllFault

-- `ReadFault` is told exactly where the count rose
abbrev pub FaultIsTold : ℕ → ℕ → Whole → Type 0
FaultIsTold before now (Ok v) = now ≡ before
FaultIsTold before now (Err ReadFault) = Rose before now
FaultIsTold before now (Err TooLong) = now ≡ before
FaultIsTold before now (Err NoMemory) = now ≡ before

-- `TooLong` is told exactly where more than limit bytes were taken
abbrev pub LengthIsTold : ℕ → ℕ → Whole → Type 0
LengthIsTold limit k (Ok v) = (k ≡ length v.items) × (k ≤ limit)
LengthIsTold limit k (Err ReadFault) = k ≤ limit
LengthIsTold limit k (Err TooLong) = limit < k
LengthIsTold limit k (Err NoMemory) = k ≤ limit

-- what comes back is the file, where it is told
abbrev pub BytesAreTold : ℕ → Option (List ℕ) → Whole → Type 0
BytesAreTold limit None result = ⊤
BytesAreTold limit (Some bytes) (Ok v) = v.items ≡ bytes
BytesAreTold limit (Some bytes) (Err ReadFault) = ⊤
BytesAreTold limit (Some bytes) (Err TooLong) = limit < length bytes
BytesAreTold limit (Some bytes) (Err NoMemory) = ⊤

-- the answer for a name that is not there: a read fault
abbrev pub IsUnread : Whole → Type 0
IsUnread (Ok v) = ⊥
IsUnread (Err ReadFault) = ⊤
IsUnread (Err TooLong) = ⊥
IsUnread (Err NoMemory) = ⊥

-- the file of this name was taken up and read, and all else is as it was
pub record ReadsAll (name : List ℕ) (limit : ℕ) (old new : Meaning) (result : Whole) : Type 0 where
  pub files : KeepsFiles old new
  pub making : KeepsMaking old new
  -- the name was handed to the shelf, and no other
  pub taken : ℕ
  pub entries : new.entries ≡ old.entries ++ (name, taken) ∷ []
  pub fault : FaultIsTold old.read_faults new.read_faults result
  pub length : LengthIsTold limit taken result
  pub bytes : BytesAreTold limit (bytes_of (old.told name)) result
  -- a name that is not there is never read
  pub there : old.told name ≡ absent → IsUnread result
  pub in_time : NoneLate old new
