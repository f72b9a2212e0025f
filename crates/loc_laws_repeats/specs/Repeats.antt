-- Edges that stand in a list more than once. The words: `IsFirstTwice`.
use Rattle.std.specs.Prelude.{◌≡◌, ◌<◌, ◌≤◌, true, List, Option, Some, None, count_by}
use Rattle.loc_spec_plane.specs.Points.{Edge, edge_before, same_edge}

-- the edge stands there more than once, and no edge before it does; or none does
abbrev pub IsFirstTwice : List Edge → Option Edge → Type 0
IsFirstTwice edges None = (x : Edge) → count_by (same_edge x) edges ≤ 1
IsFirstTwice edges (Some x) = (1 < count_by (same_edge x) edges) × ((y : Edge) → edge_before y x ≡ true → count_by (same_edge y) edges ≤ 1)
