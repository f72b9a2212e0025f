-- The courses of commands on an index file. The words:
--   rows_in         what answers are made of, as a content has it
--   answer_in       what is answered to a line by the search of a content and by its rows
--   index_in, index_course  bytes are read as an index, and a file is
--   asked_course    the lines of a file are answered from a content
--   ask_course      an index file is asked for the points of another
use Rattle.std.specs.Prelude.{map, Result, Ok, Err, codes}
use Rattle.loc_spec_text.specs.{Bytes.Text, Points.ended, Limits.most_index, Limits.most_text}
use Rattle.loc_spec_plane.specs.{Covers.has_at, Tables.corner_numbers, Tables.edge_numbers, Tables.has}
use Rattle.loc_spec_index.specs.declared.IndexFault.{IndexFault}
use Rattle.loc_spec_index.specs.Content.{Content, cover_numbers, search_in, table_in}
use Rattle.loc_laws_index.specs.IndexReading.{reading}
use Rattle.loc_cover.specs.Legends.{LegendRows}
use Rattle.loc_file.specs.{Depths.most_of, Searches.answer_of}
use Rattle.loc_batch.specs.{Answering.answer_by, Faces.unnumbered, Marked.features_where, PointLines.is_point_line}
use Rattle.loc_answering.specs.ByLine.{by_line}
use Rattle.loc_course.specs.Courses.{Course, answers, reads, refuses}
use Rattle.loc_course.specs.{Outcomes.exactly, Stops.source, Streams.Answering}
use Rattle.loc_indexed.specs.IndexTexts.{index_fault_text}

-- What answers are made of: the features that touch a corner or an edge are those of the marks; all else is as the file has it.
unfoldable pub rows_in : Content → LegendRows
rows_in c = record {
  ids = c.ids;
  on_corner = map (λ n. features_where (table_in c) (has_at (table_in c) n)) (corner_numbers (table_in c));
  on_edge = map (λ e. features_where (table_in c) (λ f. has (table_in c) f e)) (edge_numbers (table_in c));
  lists = c.covers;
  above = cover_numbers c;
  floors = c.floors;
}

-- what is answered to a line: by what the search of its point finds, and by the file's own rows; or that the search was given up
abbrev pub answer_in : Content → Answering
answer_in c = by_line (answer_by c.scale (λ p. answer_of (search_in c p)) unnumbered (rows_in c))

-- bytes are read as an index, or refused by the line of their first fault
abbrev pub index_in : Result Content IndexFault → (Content → Course) → Course
index_in (Ok c) next = next c
index_in (Err fault) next = refuses (exactly (ended (index_fault_text fault)))

-- an index file is read
abbrev pub index_course : Text → (Content → Course) → Course
index_course index next = reads (source index most_index (ended (codes "index: too long"))) (λ bytes. index_in (reading bytes) next)

-- the points' file is read in pieces, its lines are answered from an index, and those that read as points are sought
abbrev pub asked_course : Text → Content → Course
asked_course points c = answers (source points most_text (ended (codes "points: too long"))) (is_point_line c.scale) (most_of c (table_in c)) (answer_in c)

-- an index file is asked for the points of another
abbrev pub ask_course : Text → Text → Course
ask_course index points = index_course index (asked_course points)
