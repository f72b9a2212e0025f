-- What a sink means, and what a write on it does to that. The words: `Stream`, `stream`, `Takes`, `InTime`, `TakesAll`.
use Rattle.std.specs.Prelude.{◌≡◌, ℕ, ◌<◌, ◌≤◌, List, length, nat_lt, Option, Result, IfOk, OnOk, OnErr}
use Rattle.std.specs.Io.KnownBytes.{Appends, WriteAppends}
use Rattle.loc_io.specs.{Causes.CountsLate, Causes.HasCause, Reading.WroteFront}

-- what can be said of a sink at one moment
pub record Stream : Type 0 where
  -- the bytes written, where told
  pub written : Option (List ℕ)
  -- how many writes have failed; at its last value it stands still
  pub faults : ℕ
  -- how many writes were made after one had failed; so does it
  pub late : ℕ

-- a sink, by its parts
abbrev pub stream : Option (List ℕ) → ℕ → ℕ → Stream
stream written faults late = record { written = written; faults = faults; late = late }

-- a front of the piece was appended, of so many bytes; after a failure nothing was
pub record Takes {E : Type 0} (piece : List ℕ) (old new : Stream) (result : Result ℕ E) : Type 0 where
  pub count : IfOk result (λ n. (0 < n) × (n ≤ length piece))
  pub bytes : WriteAppends old.written new.written result piece
  pub cause : HasCause old.faults new.faults result
  pub late : CountsLate (nat_lt 0 old.faults) old.late new.late

-- where no write had failed before, none was made after one had failed
abbrev pub InTime : Stream → Stream → Type 0
InTime old new = old.faults ≡ 0 → new.late ≡ old.late

-- the whole piece was written; after a failure a front of it, and then no call was made
pub record TakesAll {T E : Type 0} (piece : List ℕ) (old new : Stream) (result : Result T E) : Type 0 where
  pub ok : OnOk result (Appends old.written new.written piece)
  pub err : OnErr result (WroteFront old.written new.written piece)
  pub cause : HasCause old.faults new.faults result
  pub in_time : InTime old new
