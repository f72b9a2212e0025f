-- How bytes come into a file that is being made. The words:
--   Grew         these bytes have come behind those of the file, and all else is as it was
--   Broke        a write failed: a front of these bytes has come, and no call was made after it
--   WroteBytes   the one or the other, by the result of a call
--   PassesBytes  a page stands before the file: a front of what was held and of these bytes was written, and the rest is held
--   PutsBytes    likewise by the result of a call: these bytes were put behind what was held, or a write failed
use Rattle.std.specs.Prelude.{◌≡◌, ◌≢◌, ℕ, ◌≤◌, true, List, ◌++◌, Some, Result, OnOk, OnErr}
use Rattle.std.specs.Io.KnownBytes.{Appends}
use Rattle.loc_io.specs.{Causes.Rose, Reading.WroteFront}
use Rattle.loc_io.specs.Meaning.{Meaning, KeepsReading, NoneLate, bytes_of}

-- the bytes came behind those of the file that is being made, where they are told; no write failed, and no other file changed
pub record Grew (text : List ℕ) (old new : Meaning) : Type 0 where
  pub reading : KeepsReading old new
  pub is_making : new.is_making ≡ true
  pub made : new.made ≡ old.made
  pub file : (name : List ℕ) → old.made ≡ Some name → Appends (bytes_of (old.told name)) (bytes_of (new.told name)) text
  pub others : (name : List ℕ) → old.made ≢ Some name → new.told name ≡ old.told name
  pub steady : new.write_faults ≡ old.write_faults
  pub in_time : NoneLate old new

-- a write failed, and a front of the bytes came behind those of the file; no other file changed
pub record Broke (text : List ℕ) (old new : Meaning) : Type 0 where
  pub reading : KeepsReading old new
  pub file : (name : List ℕ) → old.made ≡ Some name → WroteFront (bytes_of (old.told name)) (bytes_of (new.told name)) text
  pub others : (name : List ℕ) → old.made ≢ Some name → new.told name ≡ old.told name
  pub later : old.write_faults ≤ new.write_faults
  pub rose : Rose old.write_faults new.write_faults
  pub in_time : NoneLate old new

-- all of the bytes were written, or a write failed
pub record WroteBytes {T E : Type 0} (text : List ℕ) (old new : Meaning) (result : Result T E) : Type 0 where
  pub ok : OnOk result (Grew text old new)
  pub err : OnErr result (Broke text old new)

-- a front of what was held and of the bytes was written, and the rest is held
pub record PassesBytes (text : List ℕ) (old new : Meaning) (held kept : List ℕ) : Type 0 where
  pub gone : List ℕ
  pub cut : held ++ text ≡ gone ++ kept
  pub grew : Grew gone old new

-- the bytes were put behind what was held, or a write failed
pub record PutsBytes {T E : Type 0} (text : List ℕ) (old new : Meaning) (held kept : List ℕ) (result : Result T E) : Type 0 where
  pub ok : OnOk result (PassesBytes text old new held kept)
  pub err : OnErr result (Broke (held ++ text) old new)
