-- The course of the groups of a layer. The words:
--   groups_text      the groups of a layer as a layer in form csv
--   dissolve_course  they are written behind a layer that is accepted
use Rattle.std.specs.Prelude.{ℕ, List}
use Rattle.loc_spec_text.specs.Bytes.{Text}
use Rattle.loc_rings.specs.Values.{Feature}
use Rattle.loc_faces.specs.Subdivision.{face_at, next_at}
use Rattle.loc_spec_groups.specs.{Groups.dissolved, GroupTexts.dissolved_text}
use Rattle.loc_dissolve.specs.Grouping.{ids_of}
use Rattle.loc_course.specs.{Courses.Course, Courses.writes, Outcomes.exactly}
use Rattle.loc_maps.specs.{Located.table_in, MapCourses.LayerFile, MapCourses.accepted_course, MapCourses.layer_course}

-- the groups of a layer, each as a row of a layer in form csv
unfoldable pub groups_text : ℕ → List Feature → Text
groups_text scale layer = dissolved_text scale (dissolved next_at face_at (table_in layer) (ids_of layer))

-- the groups of an accepted layer are written
abbrev pub dissolve_course : LayerFile → Course
dissolve_course file = layer_course file (λ layer. accepted_course file.scale layer (writes (exactly (groups_text file.scale layer))))
