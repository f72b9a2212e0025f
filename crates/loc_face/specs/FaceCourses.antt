-- The course of a face. The words:
--   line_at, text_above  the line by which a corner or a border is refused, and the text of the face above a floor
--   place_course, point_course, face_course  what is done at a place, for a point, and for a word behind a layer
use Rattle.std.specs.Prelude.{ℕ, ◌++◌, Option, Some, None, codes}
use Rattle.std.specs.Fmt.{decimal}
use Rattle.loc_spec_text.specs.{Bytes.Text, Points.ended, Points.point_of}
use Rattle.loc_spec_plane.specs.declared.Place.{Place}
use Rattle.loc_spec_plane.specs.declared.Place.TheVariants.{Corner, Border, Area}
use Rattle.loc_spec_plane.specs.{Points.Point, Tables.Table, Faces.face_above}
use Rattle.loc_place.specs.{Found.place_at, Steps.most_steps}
use Rattle.loc_faces.specs.{FaceTexts.face_text, Subdivision.face_at, Subdivision.next_at}
use Rattle.loc_course.specs.Courses.{Course, refuses, searches, writes}
use Rattle.loc_course.specs.Outcomes.{exactly}
use Rattle.loc_maps.specs.{Located.table_in, MapCourses.LayerFile, MapCourses.accepted_course, MapCourses.layer_course}

-- a point is no point of an open face, by a word and a number
abbrev pub line_at : Text → ℕ → Text
line_at word n = ended (word ++ decimal n)

-- the text of the face above a floor
unfoldable pub text_above : ℕ → Table → Option ℕ → Text
text_above scale t floor = face_text scale t (next_at t) (face_at t) (face_above (face_at t) floor)

-- a corner and a border are refused by number, and the text of an open face is written
abbrev pub place_course : ℕ → Table → Place → Course
place_course scale t (Corner n) = refuses (exactly (line_at (codes "point: corner ") n))
place_course scale t (Border e) = refuses (exactly (line_at (codes "point: border ") e))
place_course scale t (Area floor) = writes (exactly (text_above scale t floor))

-- a point is sought in the tree; what is no point is refused
abbrev pub point_course : ℕ → Table → Option Point → Course
point_course scale t None = refuses (exactly (ended (codes "point: unread")))
point_course scale t (Some p) = searches (most_steps t) (place_course scale t (place_at t p))

-- the face of a word's point: the word is read as a line of points behind an accepted layer
abbrev pub face_course : LayerFile → Text → Course
face_course file word = layer_course file (λ layer. accepted_course file.scale layer (point_course file.scale (table_in layer) (point_of file.scale word)))
