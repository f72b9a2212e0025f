-- Members of a list by a list of flags, one for each. The words: `flagged`, `unflagged`.
use Rattle.std.specs.Prelude.{Bool, not, List, map, filter}
use Rattle.std.specs.List.{zip}

-- the members whose flag is true, in order
abbrev pub flagged : {X : Type 0} → List Bool → List X → List X
flagged {X} flags xs = map (λ (pair : Bool × X). pair.1) (filter (λ (pair : Bool × X). pair.0) (zip flags xs))

-- the members whose flag is false, in order
abbrev pub unflagged : {X : Type 0} → List Bool → List X → List X
unflagged {X} flags xs = map (λ (pair : Bool × X). pair.1) (filter (λ (pair : Bool × X). not pair.0) (zip flags xs))
