-- What the writing of a whole piece comes to where it fails. The word: `WroteFront`.
use Rattle.std.specs.Prelude.{◌≡◌, ℕ, List, ◌++◌, Option}
use Rattle.std.specs.Io.KnownBytes.{Appends}

-- a front of the piece was written, where it is told
abbrev pub WroteFront : Option (List ℕ) → Option (List ℕ) → List ℕ → Type 0
WroteFront old new piece = (front back : List ℕ) × (piece ≡ front ++ back) × Appends old new front
