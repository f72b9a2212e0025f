-- The text of a file behind its header, in three pieces: `front_text`, ids, corners, edges and marks; `list_text`, cover lists and floors; and `tree_text`, roots and nodes. `head_text` is the header and the first two.
use Rattle.std.specs.Prelude.{ℕ, List, ◌++◌, length, sum_by}
use Rattle.std.specs.List.{flat_map}
use Rattle.loc_spec_plane.specs.Tables.{Table}
use Rattle.loc_spec_index.specs.{declared.NodeRow.NodeRow, IndexFile.none_or_next}
use Rattle.loc_cover.specs.Legends.{LegendRows}
use Rattle.loc_write.specs.Bytes.{header_bytes, id_bytes, corner_bytes, edge_bytes, mark_bytes, cover_bytes, number_bytes, node_bytes}
use Rattle.loc_write.specs.Written.{edge_rows, marks_from}

-- ids, corners, edges and marks
abbrev pub front_text : Table → LegendRows → List ℕ
front_text t rows = flat_map id_bytes rows.ids ++ (flat_map corner_bytes t.corners ++ (flat_map edge_bytes (edge_rows t.ends t.sources rows.above) ++ flat_map mark_bytes (marks_from 0 t.marks)))

-- cover lists and floors
abbrev pub list_text : LegendRows → List ℕ
list_text rows = flat_map cover_bytes rows.lists ++ flat_map (λ floor. number_bytes (none_or_next floor)) rows.floors

-- roots and nodes
abbrev pub tree_text : List ℕ → List NodeRow → List ℕ
tree_text roots nodes = flat_map number_bytes roots ++ flat_map node_bytes nodes

-- the header, with the number of nodes, and all rows but the roots and the nodes
abbrev pub head_text : ℕ → Table → LegendRows → ℕ → List ℕ
head_text scale t rows nodes = header_bytes scale (length rows.ids) (length t.corners) (length t.ends) (sum_by length t.marks) (length rows.lists) nodes ++ (front_text t rows ++ list_text rows)
