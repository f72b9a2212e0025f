-- A stream that comes in pieces. The words:
--   MeetsKept     what is answered to what is kept of a line is what is answered to the line
--   FeedsBoth     one piece fed behind another is both fed together
use Rattle.std.specs.Prelude.{◌≡◌, ℕ, List, ◌++◌, Result, Ok}
use Rattle.loc_io.specs.Streams.{Stream}
use Rattle.loc_batch.specs.{Batches.BatchState, Batches.FeedsBy, Batches.StaysSo, Kept.kept, Told.Telling}
use Rattle.loc_batch.specs.declared.faults.FeedFault.{FeedFault}

-- no more of a line counts than is kept
abbrev pub MeetsKept : {A : Type 0} → (List ℕ → A) → Type 0
MeetsKept answer = (line : List ℕ) → answer (kept line) ≡ answer line

-- what comes of a piece fed behind one whose lines were all answered comes of both fed together
abbrev pub FeedsBoth : Telling → Type 0
FeedsBoth answer = (s s1 s2 : BatchState) (p q : List ℕ) (o o1 o2 : Stream) (u : Unit {0}) (result : Result (Unit {0}) FeedFault)
    → StaysSo s s1 → FeedsBy answer s s1 p o o1 (Ok u) → FeedsBy answer s1 s2 q o1 o2 result → FeedsBy answer s s2 (p ++ q) o o2 result
