-- What the making of a whole file does to the files. The words:
--   IsToldAtMost      a file is told as it was, or no longer
--   IsWhole, IsFront  a file holds a text, or a front of it, where it is told
--   WritesFile        a file was made with a text, or a write failed
use Rattle.std.specs.Prelude.{◌≡◌, ◌≢◌, ◌⊎◌, ℕ, List, ◌++◌, Result, MatchResult, false, ⊤}
use Rattle.loc_io.specs.Causes.{HasCause}
use Rattle.loc_io.specs.Meaning.{Meaning, KeepsReading, NoneLate, Told, untold, absent, holds}

-- a file is told as it was, or no longer
abbrev pub IsToldAtMost : Told → Told → Type 0
IsToldAtMost old new = (new ≡ old) ⊎ (new ≡ untold)

-- the file holds the text, where it is told
abbrev pub IsWhole : List ℕ → Told → Type 0
IsWhole text untold = ⊤
IsWhole text absent = ⊥
IsWhole text (holds bytes) = bytes ≡ text

-- the file holds a front of the text, where it is told
abbrev pub IsFront : List ℕ → Told → Type 0
IsFront text untold = ⊤
IsFront text absent = ⊥
IsFront text (holds bytes) = (rest : List ℕ) × (text ≡ bytes ++ rest)

-- the file was made with the text; or a write failed, and the file is as before or holds a front of the text. Every other file is told as before, or no longer
pub record WritesFile {T E : Type 0} (name text : List ℕ) (old new : Meaning) (result : Result T E) : Type 0 where
  pub reading : KeepsReading old new
  pub others : (other : List ℕ) → other ≢ name → IsToldAtMost (old.told other) (new.told other)
  pub file : MatchResult result (λ _. IsWhole text (new.told name)) (λ _. (new.told name ≡ old.told name) ⊎ IsFront text (new.told name))
  -- where it was made it was ended: no file is being made any more
  pub over : MatchResult result (λ _. new.is_making ≡ false) (λ _. ⊤)
  -- it fails exactly where the count of write faults rose
  pub cause : HasCause old.write_faults new.write_faults result
  -- where no call had failed before, none was made after one had failed
  pub in_time : NoneLate old new
