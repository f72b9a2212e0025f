-- What becomes of the list of a status: `IsInserted` and `IsRemoved`; what stands beside an edge of it: `IsBeside`; where an edge goes:
-- `IsPlaceFor`; and the last of a list: `IsLast`.
use Rattle.std.specs.Prelude.{◌≡◌, ℕ, ◌-◌, ◌<◌, ◌≤◌, Bool, List, [], ◌∷◌, ◌++◌, length, map, take, drop, Option, None, Some, slice_get}
use Rattle.std.specs.List.{All}
use Rattle.loc_spec_plane.specs.{Tables.Table, Tables.corner, Tables.edge, Places.is_chain}
use Rattle.loc_edges.specs.declared.ranks.Placing.TheVariants.{Below, Above}
use Rattle.loc_edges.specs.Placing.{IsPlacing}
use Rattle.loc_status.specs.declared.status.Beside.{Beside}

-- the last member of a list, or none
pub record IsLast (list : List ℕ) (last : Option ℕ) : Type 0 where
  pub none : length list ≡ 0 → last ≡ None
  pub some : 0 < length list → last ≡ slice_get list (length list - 1)

-- the list is a chain at corner c
abbrev pub is_chain_at : Table → ℕ → List ℕ → Bool
is_chain_at t c es = is_chain (corner t c) (map (edge t) es)

-- edge e is above each edge of the list
abbrev pub GoesAbove : Table → ℕ → List ℕ → Type 0
GoesAbove t e es = All (λ a. IsPlacing (edge t a) (edge t e) Above) es

-- edge e is below each edge of the list
abbrev pub GoesBelow : Table → ℕ → List ℕ → Type 0
GoesBelow t e es = All (λ a. IsPlacing (edge t a) (edge t e) Below) es

-- edge e has come into the list, in its place: behind each edge that it is above, and before each that it is below
pub record IsInserted (t : Table) (e : ℕ) (old new : List ℕ) : Type 0 where
  pub front : List ℕ
  pub back : List ℕ
  pub old_is : old ≡ front ++ back
  pub new_is : new ≡ front ++ e ∷ back
  pub behind : GoesAbove t e front
  pub ahead : GoesBelow t e back

-- edge e has gone from the list
pub record IsRemoved (e : ℕ) (old new : List ℕ) : Type 0 where
  pub front : List ℕ
  pub back : List ℕ
  pub old_is : old ≡ front ++ e ∷ back
  pub new_is : new ≡ front ++ back

-- the edge before e in the list, or none where e is the first
abbrev pub IsNextBelow : ℕ → List ℕ → Option ℕ → Type 0
IsNextBelow e es None = (back : List ℕ) × (es ≡ e ∷ back)
IsNextBelow e es (Some d) = (front : List ℕ) × (back : List ℕ) × (es ≡ front ++ d ∷ e ∷ back)

-- the edge behind e in the list, or none where e is the last
abbrev pub IsNextAbove : ℕ → List ℕ → Option ℕ → Type 0
IsNextAbove e es None = (front : List ℕ) × (es ≡ front ++ e ∷ [])
IsNextAbove e es (Some a) = (front : List ℕ) × (back : List ℕ) × (es ≡ front ++ e ∷ a ∷ back)

-- the edges before and behind e in the list
pub record IsBeside (e : ℕ) (es : List ℕ) (found : Beside) : Type 0 where
  pub below : IsNextBelow e es found.below
  pub above : IsNextAbove e es found.above

-- where edge e goes in the list: above the edges before the place, and below the others
pub record IsPlaceFor (t : Table) (e : ℕ) (es : List ℕ) (place : ℕ) : Type 0 where
  pub within : place ≤ length es
  pub behind : GoesAbove t e (take place es)
  pub ahead : GoesBelow t e (drop place es)
