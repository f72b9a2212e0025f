-- The lines of the edges of an index. The words:
--   ends_in     the numbers of the ends of an edge
--   pair_text   two corners of a table by their numbers, as printed at a scale
--   edge_line   the line of an edge: its number, its ends, and the ends of its source
--   edge_lines  the lines of all edges of a table, in order
--   edges_text  the lines of all edges of a content, at its scale
use Rattle.std.specs.Prelude.{ℕ, ◌++◌, codes, get_or}
use Rattle.std.specs.{Fmt.decimal, List.flat_map}
use Rattle.loc_spec_plane.specs.Tables.{Table, corner, edge_numbers, source_of}
use Rattle.loc_spec_text.specs.{Bytes.Text, Points.ended, Points.position_text}
use Rattle.loc_spec_index.specs.Content.{Content, table_in}

-- the numbers of the ends of edge e, the lower first
abbrev pub ends_in : Table → ℕ → ℕ × ℕ
ends_in t e = get_or t.ends e (0, 0)

-- two corners by their numbers, as printed at a scale
abbrev pub pair_text : ℕ → Table → ℕ × ℕ → Text
pair_text scale t pair = position_text scale (corner t pair.0) ++ codes ", " ++ position_text scale (corner t pair.1)

-- the line of edge e: the edge, and its source
abbrev pub edge_line : ℕ → Table → ℕ → Text
edge_line scale t e = ended (codes "edge " ++ decimal e ++ codes " " ++ pair_text scale t (ends_in t e) ++ codes " of " ++ pair_text scale t (source_of t e))

-- the lines of all edges, in order
unfoldable pub edge_lines : ℕ → Table → Text
edge_lines scale t = flat_map (edge_line scale t) (edge_numbers t)

-- the lines of all edges of a content, at its scale
abbrev pub edges_text : Content → Text
edges_text c = edge_lines c.scale (table_in c)
