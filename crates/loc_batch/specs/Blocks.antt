-- A block of lines, whose points are sought before the lines are answered. The words:
--   BlockState, no_lines, with_line  what is seen of a block
--   Holds                            the block has lines that read as these points
--   placed, AreKnown                 what is found for the queries, each in its line; and that each is known to what answers
--   ReadsLines                       lines of a text were read into a block
use Rattle.std.specs.Prelude.{◌≡◌, ℕ, ◌+◌, ◌≤◌, List, [], ◌∷◌, ◌++◌, count_by, length, get_or, map, set, Option, Some, None, IfSome}
use Rattle.std.specs.{List.All, List.Contains, Option.is_some}
use Rattle.loc_spec_plane.specs.Points.{Point}
use Rattle.loc_spec_text.specs.{Bytes.ended_lines, Bytes.split_lines, Bytes.unfinished, Points.point_of}
use Rattle.loc_batch.specs.{Kept.IsUnbroken, declared.block.Query.Query}

-- the points that are sought, and what is known of each line
pub record BlockState (F : Type 0) : Type 0 where
  pub queries : List Query
  pub found : List (Option F)

-- a query more, where a line reads as a point
abbrev pub with_query : List Query → ℕ → Option Point → List Query
with_query queries line None = queries
with_query queries line (Some p) = queries ++ record { point = p; line = line } ∷ []

-- a block without lines
abbrev pub no_lines : {F : Type 0} → BlockState F
no_lines = record { queries = []; found = [] }

-- one line more, by the point that it reads as
abbrev pub with_line : {F : Type 0} → BlockState F → Option Point → BlockState F
with_line b p = record { queries = with_query b.queries (length b.found) p; found = b.found ++ None ∷ [] }

-- what is found for a point stands in its line
abbrev pub placed_one : {F : Type 0} → (Point → F) → Query → List (Option F) → List (Option F)
placed_one finds q found = set found q.line (Some (finds q.point))

-- what is found for each query, one after the other
abbrev pub placed : {F : Type 0} → (Point → F) → List Query → List (Option F) → List (Option F)
placed finds [] found = found
placed finds (q ∷ queries) found = placed finds queries (placed_one finds q found)

-- what was found for each line that reads as a point is known
abbrev pub AreKnown : {F : Type 0} → (F → Type 0) → List (Option F) → Type 0
AreKnown knows found = All (λ f. IfSome f knows) found

-- The block has lines that read as these points or as none: nothing is found yet, each query is of its line, each point has a query, and there are no more queries than points.
pub record Holds {F : Type 0} (points : List (Option Point)) (b : BlockState F) : Type 0 where
  pub as_many : length b.found ≡ length points
  pub empty : All (λ f. f ≡ None) b.found
  pub right : All (λ q. get_or points q.line None ≡ Some q.point) b.queries
  pub asked : (i : ℕ) (p : Point) → get_or points i None ≡ Some p → Contains b.queries (record { point = p; line = i })
  pub few : length b.queries ≤ count_by is_some points

-- Lines were read into a block from a text behind an unfinished line, and what follows them is left.
pub record ReadsLines {F : Type 0} (scale : ℕ) (line text line' rest : List ℕ) (b : BlockState F) : Type 0 where
  pub lines : List (List ℕ)
  pub holds : Holds (map (point_of scale) lines) b
  pub split : split_lines (line ++ text) ≡ (lines ++ ended_lines (line' ++ rest), unfinished (line' ++ rest))
  pub unbroken : IsUnbroken line'
  pub shorter : length rest + length lines ≤ length text
  pub none : lines ≡ [] → (line' ≡ line) × (rest ≡ text)
