-- What a command answers whose files are told. The words:
--   OrMemory   this, or memory was wanting
--   IsDone     it was done, and wrote this
--   IsRefused  it was refused by this line
use Rattle.std.specs.Prelude.{◌≡◌, ◌⊎◌, ℕ}
use Rattle.std.specs.Io.KnownBytes.{Appends}
use Rattle.loc_io.specs.Streams.{Stream}
use Rattle.loc_spec_text.specs.Bytes.{Text}
use Rattle.loc_course.specs.{Moments.Moment, Sentences.Wrote}

-- this, or memory was wanting: the status is 5 then, and nothing is on out
abbrev pub OrMemory : Moment → Moment → ℕ → Type 0 → Type 0
OrMemory old new status So = So ⊎ ((status ≡ 5) × (new.out.written ≡ old.out.written))

-- done, and out has grown by exactly this text
abbrev pub IsDone : Moment → Moment → ℕ → Text → Type 0
IsDone old new status text = (status ≡ 0) × Appends old.out.written new.out.written text

-- refused by this line, and nothing is on out
abbrev pub IsRefused : Moment → Moment → Stream → Stream → ℕ → Text → Type 0
IsRefused old new n n' status line = (status ≡ 1) × (new.out.written ≡ old.out.written) × Wrote n n' line
