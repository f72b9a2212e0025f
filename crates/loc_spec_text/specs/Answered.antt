-- Lines that are answered one after the other, until one is given up. The words: `Answered`, `with_answer`, `answered`.
use Rattle.std.specs.Prelude.{List, [], ◌∷◌, Option, Some, None, Result, Ok, Err}

-- the answers to the lines in front of the first that is given up, and why that is, if there is one
pub record Answered (A R : Type 0) : Type 0 where
  pub answers : List A
  pub refusal : Option R

-- the answers with one more in front, unless that line is given up
abbrev pub with_answer : {A R : Type 0} → Result A R → Answered A R → Answered A R
with_answer (Ok a) rest = record { answers = a ∷ rest.answers; refusal = rest.refusal }
with_answer (Err why) rest = record { answers = []; refusal = Some why }

-- the answers to lines, or to whatever stands for them
abbrev pub answered : {X A R : Type 0} → (X → Result A R) → List X → Answered A R
answered answer [] = record { answers = []; refusal = None }
answered answer (line ∷ more) = with_answer (answer line) (answered answer more)
