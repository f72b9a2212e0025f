-- Edges and headers as they are read, and the grammar of them. The words:
--   told_source, told an edge in a version, which is its own source where the version names none
--   told_row          the fields of an edge behind another
--   header_row        the fields of a header
use Rattle.std.specs.Prelude.{ℕ, List, Option, option_map, if◌then◌else◌}
use Rattle.loc_spec_index.specs.Content.{EdgeRow}
use Rattle.loc_spec_index.specs.IndexFile.{Field, edge_row, header_of, names_sources}
use Rattle.loc_file.specs.{declared.edges.EdgeOf.EdgeOf, declared.header.Header.Header}

-- the source of an edge in a version
abbrev pub told_source : ℕ → EdgeOf → ℕ × ℕ
told_source v e = if names_sources v then e.source else e.ends

-- an edge in a version
abbrev pub told : ℕ → EdgeOf → EdgeRow
told v e = record { ends = e.ends; source = told_source v e; cover = e.cover }

-- an edge behind another
abbrev pub told_row : ℕ → ℕ → ℕ → ℕ → Option EdgeOf → EdgeOf → List Field
told_row v corners covers row last e = edge_row v corners covers row (option_map (told v) last) (told v e)

-- a header
abbrev pub header_row : Header → List Field
header_row h = header_of h.version h.scale h.features h.corners h.edges h.marks h.covers h.nodes
