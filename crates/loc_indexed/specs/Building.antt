-- The course of making the index file of a layer. The words:
--   same_mark, same_pair, same_table  two marks, two pairs of numbers, two tables are one
--   is_content_for  a content has the scale, the ids and the table of a layer
--   is_read_for     what was read is such a content
--   is_index_text   a text reads as an index file that holds such a content
--   made_course     a layer is read and accepted, and a file is made by a test of its text
--   build_course    the index file of a layer is made
use Rattle.std.specs.Prelude.{ℕ, Bool, false, not, ◌&&◌, ◌==◌, List, map, Result, Ok, Err}
use Rattle.std.specs.{Cmp.Lexicographic.pointwise, Str.bytes_eq}
use Rattle.loc_spec_text.specs.Bytes.{Text}
use Rattle.loc_spec_plane.specs.{declared.Mark.Mark, Lists.exactly_one, Points.same_point}
use Rattle.loc_spec_plane.specs.Tables.{Table, noded_table_of}
use Rattle.loc_spec_index.specs.{declared.IndexFault.IndexFault, Content.Content, Content.table_in}
use Rattle.loc_laws_index.specs.IndexReading.{reading}
use Rattle.loc_rings.specs.Values.{Feature, rings_of}
use Rattle.loc_course.specs.Courses.{Course, makes}
use Rattle.loc_maps.specs.MapCourses.{LayerFile, accepted_course, layer_course}

-- two marks are one
abbrev pub same_mark : Mark → Mark → Bool
same_mark a b = (a.feature == b.feature) && not (exactly_one a.odd b.odd)

-- two pairs of numbers are one
abbrev pub same_pair : ℕ × ℕ → ℕ × ℕ → Bool
same_pair a b = (a.0 == b.0) && (a.1 == b.1)

-- two tables have the same corners, the same edges, the same marks and the same sources
abbrev pub same_table : Table → Table → Bool
same_table s t = pointwise same_point s.corners t.corners && (pointwise same_pair s.ends t.ends && (pointwise (pointwise same_mark) s.marks t.marks && pointwise same_pair s.sources t.sources))

-- a content has the scale, the ids and the table of a layer
abbrev pub is_content_for : ℕ → List Feature → Content → Bool
is_content_for scale layer c =
    (c.scale == scale) && (pointwise bytes_eq c.ids (map (λ (f : Feature). f.id) layer) && same_table (table_in c) (noded_table_of (map rings_of layer)))

-- what was read is such a content
abbrev pub is_read_for : ℕ → List Feature → Result Content IndexFault → Bool
is_read_for scale layer (Ok c) = is_content_for scale layer c
is_read_for scale layer (Err fault) = false

-- a text reads as an index file that holds such a content
unfoldable pub is_index_text : ℕ → List Feature → Text → Bool
is_index_text scale layer text = is_read_for scale layer (reading text)

-- a layer is read and accepted, and a file is made by a test of its text
abbrev pub made_course : (List Feature → Text → Bool) → LayerFile → Text → Course
made_course passes file index = layer_course file (λ layer. accepted_course file.scale layer (makes index (passes layer)))

-- the index file of a layer is made
abbrev pub build_course : LayerFile → Text → Course
build_course file index = made_course (is_index_text file.scale) file index
