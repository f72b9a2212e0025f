-- The search graph: a trapezoid that was cut leads to its pieces. The words:
--   Graph, step_of          the map, and for each trapezoid the edge that cut it, with its split
--   IsPiece                 a split leads to a trapezoid
--   IsStepOf, IsGraphOf     the graph of a table's edges
--   IsIndexOf               all edges of a planar table are added
--   IsTurn                  where a point goes on
--   Marks                   splits are noted
use Rattle.std.specs.Prelude.{◌≡◌, ℕ, suc, ◌<◌, ◌≤◌, ◌⊎◌, true, List, length, get_or, Option, Some, None}
use Rattle.loc_spec_plane.specs.{Points.Point, Tables.Table, Tables.AllEnds, Places.is_edge, Places.IsPlace}
use Rattle.loc_laws_traps.specs.Sets.{is_inside, has_real_bounds}
use Rattle.loc_place.specs.Planar.{IsPlanar}
use Rattle.loc_traps.specs.{declared.map.Split.Split, Splits.split_of, Splits.IsSplitOf}
use Rattle.loc_traps.specs.Meaning.{MapMeaning, IsMapOf, no_bounds, row_of, live_of, among}
use Rattle.loc_trapdag.specs.{declared.index.Step.Step, declared.turn.Turn.Turn}
use Rattle.loc_trapdag.specs.declared.turn.Turn.TheVariants.{At, To}

-- the map, and for each trapezoid that was cut the edge and the split
pub record Graph : Type 0 where
  pub map : MapMeaning
  pub cuts : List (Option Step)

-- the step of a trapezoid, if it was cut
abbrev pub step_of : List (Option Step) → ℕ → Option Step
step_of cuts n = get_or cuts n None

-- the split leads to the trapezoid
abbrev pub IsPiece : Split → ℕ → Type 0
IsPiece split k = (split.before ≡ Some k) ⊎ ((split.above ≡ k) ⊎ ((split.below ≡ k) ⊎ (split.behind ≡ Some k)))

-- the step of trapezoid n: an edge that was added cut it, and its pieces come later
pub record IsStepOf (t : Table) (m : MapMeaning) (n : ℕ) (step : Step) : Type 0 where
  pub added : among m.added step.edge ≡ true
  pub cut : step.split.cut ≡ n
  pub split : IsSplitOf t step.edge (suc n) m.rows step.split

-- the trapezoids without a step are those that are live; the first has no bounds; and each piece was made by a later edge than what it is a piece of
pub record IsGraphOf (t : Table) (g : Graph) : Type 0 where
  pub map : IsMapOf t g.map
  pub many : length g.cuts ≡ length g.map.rows
  pub some : 0 < length g.map.rows
  pub first : row_of g.map.rows 0 ≡ no_bounds
  pub real : (n : ℕ) → n < length g.map.rows → has_real_bounds t (row_of g.map.rows n) ≡ true
  pub leaf : (n : ℕ) → n < length g.map.rows → step_of g.cuts n ≡ None → live_of g.map.is_live n ≡ true
  pub node : (n : ℕ) (step : Step) → n < length g.map.rows → step_of g.cuts n ≡ Some step → IsStepOf t g.map n step
  pub birth : ℕ → ℕ
  pub born : (n : ℕ) → n < length g.map.rows → birth n ≤ length g.map.added
  pub later : (n k : ℕ) (step : Step) → n < length g.map.rows → step_of g.cuts n ≡ Some step → IsPiece step.split k → birth n < birth k

-- the graph of all edges of a planar table of which every corner is an end
pub record IsIndexOf (t : Table) (g : Graph) : Type 0 where
  pub planar : IsPlanar t
  pub ends : AllEnds t
  pub graph : IsGraphOf t g
  pub all : (e : ℕ) → among g.map.added e ≡ is_edge t e
  pub counted : length g.map.added ≡ length t.ends

-- a point in a trapezoid that was cut has its place, or goes on to a piece that it is in
abbrev pub IsTurn : Table → Graph → Split → Point → Turn → Type 0
IsTurn t g split p (At place) = IsPlace t p place
IsTurn t g split p (To k) = (is_inside t (row_of g.map.rows k) p ≡ true) × IsPiece split k

-- the first so many splits of an edge are noted, and nothing else is changed
pub record Marks (e : ℕ) (splits : List Split) (many : ℕ) (old now : List (Option Step)) : Type 0 where
  pub noted : (j : ℕ) → j < many → step_of now (split_of splits j).cut ≡ Some (record { edge = e; split = split_of splits j })
  pub stay : (n : ℕ) → ((j : ℕ) → j < many → (split_of splits j).cut ≡ n → ⊥) → step_of now n ≡ step_of old n
  pub same_length : length now ≡ length old
