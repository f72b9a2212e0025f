-- Whether two edges of a list conflict. The words: `table_edges`, `conflicts_with`, `has_conflict`.
use Rattle.std.specs.{Prelude.Bool, Prelude.List, Prelude.map, List.list_any}
use Rattle.loc_spec_plane.specs.{Points.Edge, Points.conflict, Tables.Table, Tables.edge, Tables.edge_numbers}

-- the edges of a table by their points, in order
abbrev pub table_edges : Table → List Edge
table_edges t = map (edge t) (edge_numbers t)

-- the edge conflicts with one of the list
abbrev pub conflicts_with : List Edge → Edge → Bool
conflicts_with es a = list_any (conflict a) es

-- some two of the edges conflict
abbrev pub has_conflict : List Edge → Bool
has_conflict es = list_any (conflicts_with es) es
