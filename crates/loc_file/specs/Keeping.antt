-- What a held file keeps: its version, a table, a legend, roots and nodes, and the content that they are (`content_of`). The words:
--   FileOf  the version of a file, and its content
--   IsHeld  a content is that of a file, and a table and a legend are its own
use Rattle.std.specs.Prelude.{◌≡◌, ℕ, length}
use Rattle.loc_spec_plane.specs.Tables.{Table}
use Rattle.loc_spec_index.specs.{Content.Content, Content.table_in, IndexFile.IsFileOf, IndexFile.bytes_of}
use Rattle.loc_cover.specs.Legends.{LegendRows, FitsTable}
pub use Rattle.loc_write.specs.Written.{edge_rows, marks_from, content_of}

-- the version of a file, and its content
pub record FileOf : Type 0 where
  pub version : ℕ
  pub content : Content

-- the content is that of a file of the version, and the table and the legend are its own
pub record IsHeld (v : ℕ) (c : Content) (table : Table) (legend : LegendRows) : Type 0 where
  pub file : IsFileOf v c (bytes_of v c)
  pub table_is : table ≡ table_in c
  pub legend_fits : FitsTable table legend
  pub sourced : length table.sources ≡ length table.ends
  pub as_many : length legend.above ≡ length table.ends
