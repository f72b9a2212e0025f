-- Laws of lines: of a text that is cut at an LF, and of a text that comes in pieces.
use Rattle.std.proofs.Common.{◌≡◌, ℕ, List, [], ◌∷◌, ◌++◌, Bool, true, false, refl, sym, ◌∙◌, ap, ap₂}
use Rattle.std.specs.Prelude.{◌==◌, if◌then◌else◌}
use Rattle.std.specs.List.{onto_first, AllByRecursion}
use Rattle.loc_spec_text.specs.Bytes.{lines, split_lines, onto_split, ended_lines, unfinished}

-- an unfinished line is a line at the end of the text, unless it is empty
abbrev pub last_line : List ℕ → List (List ℕ)
last_line [] = []
last_line (b ∷ rest) = (b ∷ rest) ∷ []

onto_first-append : (b : ℕ) (done : List (List ℕ)) (rest : List ℕ) → onto_first b (done ++ last_line rest) ≡ (onto_split b done rest).0 ++ last_line (onto_split b done rest).1
onto_first-append b [] [] = refl
onto_first-append b [] (c ∷ rest) = refl
onto_first-append b (line ∷ done) rest = refl

step : (b : ℕ) (t : Bool) (more : List (List ℕ)) (done : List (List ℕ)) (rest : List ℕ) → more ≡ done ++ last_line rest
    → (if t then [] ∷ more else onto_first b more) ≡ (if t then ([] ∷ done, rest) else onto_split b done rest).0 ++ last_line (if t then ([] ∷ done, rest) else onto_split b done rest).1
step b true more done rest e = ap (λ ls. [] ∷ ls) e
step b false more done rest e = ap (onto_first b) e ∙ onto_first-append b done rest

-- the lines of a text are those that have ended, and the unfinished one
pub lines-split : (text : List ℕ) → lines text ≡ ended_lines text ++ last_line (unfinished text)
lines-split [] = refl
lines-split (b ∷ text) = step b (b == 10) (lines text) (ended_lines text) (unfinished text) (lines-split text)

-- the same in front of a piece
abbrev Continues : List (List ℕ) × List ℕ → List ℕ → List (List ℕ) × List ℕ → Type 0
Continues first piece both = (both.0 ≡ first.0 ++ ended_lines (first.1 ++ piece)) × (both.1 ≡ unfinished (first.1 ++ piece))

split-other : (b : ℕ) (text : List ℕ) → (b == 10) ≡ false → split_lines (b ∷ text) ≡ onto_split b (ended_lines text) (unfinished text)
split-other b text other = rw other refl

onto_continues : (b : ℕ) (piece : List ℕ) → (b == 10) ≡ false → (done : List (List ℕ)) (rest : List ℕ) (both : List (List ℕ) × List ℕ) → Continues (done, rest) piece both
    → Continues (onto_split b done rest) piece (onto_split b both.0 both.1)
onto_continues b piece other [] rest both h = let s = split-other b (rest ++ piece) other in
    (ap₂ (λ ls r. (onto_split b ls r).0) h.0 h.1 ∙ sym (ap (λ (p : List (List ℕ) × List ℕ). p.0) s), ap₂ (λ ls r. (onto_split b ls r).1) h.0 h.1 ∙ sym (ap (λ (p : List (List ℕ) × List ℕ). p.1) s))
onto_continues b piece other (line ∷ done) rest both h = rw (h.0, h.1) (refl, refl)

continues_step : (b : ℕ) (t : Bool) → (b == 10) ≡ t → (piece : List ℕ) (first both : List (List ℕ) × List ℕ) → Continues first piece both
    → Continues (if t then ([] ∷ first.0, first.1) else onto_split b first.0 first.1) piece (if t then ([] ∷ both.0, both.1) else onto_split b both.0 both.1)
continues_step b true e piece first both h = (ap (λ ls. [] ∷ ls) h.0, h.1)
continues_step b false e piece first both h = onto_continues b piece e first.0 first.1 both h

-- a text that goes on by a piece ends the lines that its unfinished line ends with the piece
pub split-append : (text piece : List ℕ) → Continues (split_lines text) piece (split_lines (text ++ piece))
split-append [] piece = (refl, refl)
split-append (b ∷ text) piece = continues_step b (b == 10) refl piece (split_lines text) (split_lines (text ++ piece)) (split-append text piece)

-- the lines that a piece ends: those that had ended, and those that the unfinished line and the piece end
pub ended_lines-append : (text piece : List ℕ) → ended_lines (text ++ piece) ≡ ended_lines text ++ ended_lines (unfinished text ++ piece)
ended_lines-append text piece = (split-append text piece).0

-- what is unfinished behind a piece
pub unfinished-append : (text piece : List ℕ) → unfinished (text ++ piece) ≡ unfinished (unfinished text ++ piece)
unfinished-append text piece = (split-append text piece).1

-- the first line of a text ends at its first LF
pub lines-cons : (line text : List ℕ) → AllByRecursion (λ b. (b == 10) ≡ false) line → lines (line ++ 10 ∷ text) ≡ line ∷ lines text
lines-cons [] text h = refl
lines-cons (b ∷ line) text h = rw (h.0, lines-cons line text h.1) refl
