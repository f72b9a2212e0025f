-- What is answered whatever the line. The word: `AnswersAll`.
use Rattle.std.specs.Prelude.{◌≡◌, ℕ, List, Ok}
use Rattle.loc_spec_text.specs.Points.{Answer}
use Rattle.loc_batch.specs.Batches.{Answering}

-- no line is given up
abbrev pub AnswersAll : Answering → Type 0
AnswersAll answer = (line : List ℕ) → (a : Answer) × (answer line ≡ Ok a)
