-- The names handed to a shelf, each with the number of bytes taken under it. The words: `Entries`, `handed`, `taken`, `noted`.
use Rattle.std.specs.Prelude.{ℕ, ◌+◌, List, [], ◌∷◌, ◌++◌}

-- the names in the order in which they were handed over
abbrev pub Entries : Type 0
Entries = List (List ℕ × ℕ)

-- a name more, of which nothing was taken
abbrev pub handed : List ℕ → Entries → Entries
handed name es = es ++ (name, 0) ∷ []

-- n bytes more were taken under the last name
abbrev pub taken : ℕ → Entries → Entries
taken n [] = []
taken n (e ∷ []) = (e.0, e.1 + n) ∷ []
taken n (e ∷ f ∷ es) = e ∷ taken n (f ∷ es)

-- what one note says: a name, or with a number how many bytes were taken
abbrev pub noted : List ℕ → List ℕ → Entries → Entries
noted [] name es = handed name es
noted (n ∷ ns) name es = taken n es
