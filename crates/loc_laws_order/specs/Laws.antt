-- Laws of the vertical order, as statements that the contracts of public functions cite. The words: `IsSweep`, `SweepLaw`, `ListIsChain`, `ChainIsList`,
-- `OneList`, `OneNext`, `later_or`, `last_that`, `FloorOfList`.
use Rattle.std.specs.Prelude.{◌≡◌, ℕ, ◌<◌, Bool, true, false, List, [], ◌∷◌, length, map, Option, Some, None}
use Rattle.loc_spec_plane.specs.{Lists.is_in, Points.Point, Points.is_above, HalfEdges.IsNext}
use Rattle.loc_spec_plane.specs.Tables.{Table, IsTable, NoConflict, corner, edge}
use Rattle.loc_spec_plane.specs.Places.{alive_at, is_chain, IsListAt, IsFloor}

-- a list of edge numbers for each corner: a chain there, of exactly the edges that are alive there
pub record IsSweep (t : Table) (lists : ℕ → List ℕ) : Type 0 where
  pub chains : (i : ℕ) → i < length t.corners → is_chain (corner t i) (map (edge t) (lists i)) ≡ true
  pub exact : (i n : ℕ) → i < length t.corners → is_in n (lists i) ≡ alive_at t (corner t i) n

-- where the lists are those of a sweep, no two edges conflict (Shamos and Hoey 1976)
abbrev pub SweepLaw : Type 0
SweepLaw = (t : Table) → IsTable t → (lists : ℕ → List ℕ) → IsSweep t lists → NoConflict t

-- where nothing conflicts, the list of the edges alive at a point is a chain there
abbrev pub ListIsChain : Type 0
ListIsChain = (t : Table) → NoConflict t → (p : Point) (es : List ℕ) → IsListAt t p es → is_chain p (map (edge t) es) ≡ true

-- where nothing conflicts, a chain of exactly the edges alive at a point is the list there
abbrev pub ChainIsList : Type 0
ChainIsList = (t : Table) → NoConflict t → (p : Point) (es : List ℕ) → is_chain p (map (edge t) es) ≡ true → ((n : ℕ) → is_in n es ≡ alive_at t p n) → IsListAt t p es

-- there is at most one list at a point
abbrev pub OneList : Type 0
OneList = (t : Table) (p : Point) (es ds : List ℕ) → IsListAt t p es → IsListAt t p ds → es ≡ ds

-- there is at most one next of a half-edge
abbrev pub OneNext : Type 0
OneNext = (t : Table) (h a b : ℕ) → IsNext t h a → IsNext t h b → a ≡ b

-- the later one found, else n where it passes
abbrev pub later_or : Option ℕ → Bool → ℕ → Option ℕ
later_or (Some m) passes n = Some m
later_or None true n = Some n
later_or None false n = None

-- the last member that passes, or none
abbrev pub last_that : (ℕ → Bool) → List ℕ → Option ℕ
last_that test [] = None
last_that test (n ∷ ns) = later_or (last_that test ns) (test n) n

-- the floor of a point is the last edge of the list at the point that has it above
abbrev pub FloorOfList : Type 0
FloorOfList = (t : Table) (p : Point) (es : List ℕ) → IsListAt t p es → IsFloor t p (last_that (λ e. is_above (edge t e) p) es)
