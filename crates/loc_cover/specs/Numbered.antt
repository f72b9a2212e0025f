-- The lists above the edges of a table, as far as they are known: `IsEven`, `AreBelow`, `IsNumbered`, `IsKnownUnder` and `IsPath`.
use Rattle.std.specs.Prelude.{◌≡◌, ◌≢◌, ℕ, ◌+◌, ◌<◌, Bool, List, [], length, get_or, Option, Some, None, map, true}
use Rattle.std.specs.List.{list_any}
use Rattle.loc_spec_plane.specs.Tables.{Table, AllEnds, AllEven, NoConflict, edge_numbers}
use Rattle.loc_spec_plane.specs.{Places.IsJustBelow, Covers.cover_above}

-- every corner is an end, marks are even at every corner, and no two edges conflict: so one cover list follows from the one below it
pub record IsEven (t : Table) : Type 0 where
  pub all_ends : AllEnds t
  pub all_even : AllEven t
  pub apart : NoConflict t

-- for each edge the edge just below it
pub record AreBelow (t : Table) (below : List (Option ℕ)) : Type 0 where
  pub as_many : length below ≡ length t.ends
  pub are : (e : ℕ) → e < length t.ends → IsJustBelow t e (get_or below e None)

-- each member of the first is one of the second
abbrev pub IsWithin : {X : Type 0} → List X → List X → Type 0
IsWithin {X} xs ys = (p : X → Bool) → list_any p xs ≡ true → list_any p ys ≡ true

-- the lists above all edges
abbrev pub covers_of : Table → List (List ℕ)
covers_of t = map (cover_above t) (edge_numbers t)

-- where an edge has a number, the row of that number is the list above it; and each row is the list above some edge
pub record IsNumbered (t : Table) (rows : List (List ℕ)) (numbers : List (Option ℕ)) : Type 0 where
  pub as_many : length numbers ≡ length t.ends
  pub known : (e n : ℕ) → e < length t.ends → get_or numbers e None ≡ Some n → (n < length rows) × (get_or rows n [] ≡ cover_above t e)
  pub covers : IsWithin rows (covers_of t)

-- there is no edge below, or its list is known
abbrev pub IsKnownUnder : List (Option ℕ) → Option ℕ → Type 0
IsKnownUnder numbers None = Unit {0}
IsKnownUnder numbers (Some d) = get_or numbers d None ≢ None

-- what is known stays known
abbrev pub KeepsKnown : List (Option ℕ) → List (Option ℕ) → Type 0
KeepsKnown old new = (e : ℕ) → get_or old e None ≢ None → get_or new e None ≢ None

-- edges from the first one down, each just above the next, and what is under the last is known
pub record IsPath (t : Table) (below numbers : List (Option ℕ)) (first : ℕ) (path : List ℕ) : Type 0 where
  pub within : (i : ℕ) → i < length path → get_or path i 0 < length t.ends
  pub links : (i : ℕ) → i + 1 < length path → get_or below (get_or path i 0) None ≡ Some (get_or path (i + 1) 0)
  pub foot : (i : ℕ) → i + 1 ≡ length path → IsKnownUnder numbers (get_or below (get_or path i 0) None)
  pub begins : 0 < length path → get_or path 0 0 ≡ first
  pub ends : length path ≡ 0 → get_or numbers first None ≢ None
