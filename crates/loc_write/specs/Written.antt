-- The content that is written of a table, a legend and versions. The words:
--   edge_rows          edges by their ends, their sources and the numbers of their cover lists
--   marks_from         the marks of edges one behind another, each behind the number of its edge
--   content_of         the content of a table, a legend, roots and nodes
--   IsContentOf        a content is that of a table, a legend and versions, at a scale
--   HoldsParts         a content has the table, and says of its edges what the legend says
--   ContentHoldsParts  as a law: a content of a table, a legend and versions holds them
use Rattle.std.specs.Prelude.{◌≡◌, ℕ, ◌+◌, List, [], ◌∷◌, ◌++◌, length, map}
use Rattle.loc_spec_plane.specs.{declared.Mark.Mark, Tables.Table, Tables.IsTable}
use Rattle.loc_spec_index.specs.declared.NodeRow.{NodeRow}
use Rattle.loc_spec_index.specs.Content.{Content, EdgeRow, table_in, cover_numbers}
use Rattle.loc_cover.specs.Legends.{LegendRows}
use Rattle.loc_persist.specs.{Meaning.VersionsMeaning, ByNumber.AreRowsByNumber, ByNumber.AreRootsByNumber}

-- edges by their ends, sources and cover lists
abbrev pub edge_rows : List (ℕ × ℕ) → List (ℕ × ℕ) → List ℕ → List EdgeRow
edge_rows [] sources covers = []
edge_rows (pair ∷ ends) [] covers = []
edge_rows (pair ∷ ends) (source ∷ sources) [] = []
edge_rows (pair ∷ ends) (source ∷ sources) (cover ∷ covers) = record { ends = pair; source = source; cover = cover } ∷ edge_rows ends sources covers

-- the marks of the edges from number e on
abbrev pub marks_from : ℕ → List (List Mark) → List (ℕ × Mark)
marks_from e [] = []
marks_from e (row ∷ rows) = map (λ (m : Mark). (e, m)) row ++ marks_from (e + 1) rows

-- the content of these parts
abbrev pub content_of : ℕ → Table → LegendRows → List ℕ → List NodeRow → Content
content_of scale table legend roots nodes = record {
  scale = scale;
  ids = legend.ids;
  corners = table.corners;
  edges = edge_rows table.ends table.sources legend.above;
  marks = marks_from 0 table.marks;
  covers = legend.lists;
  floors = legend.floors;
  roots = roots;
  nodes = nodes;
}

-- ids, lists and floors are the legend's, corners, edges and marks are the table's; the nodes are those of the versions by number, and the roots are those of the sealed ones
pub record IsContentOf (scale : ℕ) (t : Table) (rows : LegendRows) (m : VersionsMeaning) (c : Content) : Type 0 where
  pub parts : c ≡ content_of scale t rows c.roots c.nodes
  pub nodes : AreRowsByNumber m.rows c.nodes
  pub roots : AreRootsByNumber m.rows m.roots c.roots
  pub as_many : length c.roots ≡ length m.roots

-- its table is this one, and each edge names the list above it
pub record HoldsParts (t : Table) (rows : LegendRows) (c : Content) : Type 0 where
  pub table : table_in c ≡ t
  pub above : cover_numbers c ≡ rows.above

-- a content of a table, a legend and versions holds them
abbrev pub ContentHoldsParts : Type 0
ContentHoldsParts = (scale : ℕ) (t : Table) (rows : LegendRows) (m : VersionsMeaning) (c : Content) → IsTable t → length rows.above ≡ length t.ends → IsContentOf scale t rows m c → HoldsParts t rows c
