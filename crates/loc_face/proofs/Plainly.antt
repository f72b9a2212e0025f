-- The course of a face writes at once and makes no file.
use Rattle.std.proofs.Common.{ℕ, Option, Some, None}
use Rattle.loc_spec_text.specs.{Bytes.Text, Points.point_of}
use Rattle.loc_spec_plane.specs.declared.Place.{Place}
use Rattle.loc_spec_plane.specs.declared.Place.TheVariants.{Corner, Border, Area}
use Rattle.loc_spec_plane.specs.{Points.Point, Tables.Table}
use Rattle.loc_csvform.specs.Layer.{layer_of}
use Rattle.loc_place.specs.{Found.place_at, Steps.most_steps}
use Rattle.loc_course.specs.{Outcomes.exactly, Sentences.IsPlain}
use Rattle.loc_course.proofs.Plain.{plain_reads, plain_refuses, plain_searches, plain_writes}
use Rattle.loc_maps.specs.{Located.table_in, MapCourses.LayerFile, MapCourses.accepted_course}
use Rattle.loc_maps.proofs.Judged.{accepted_all, layer_all}
use Rattle.loc_face.specs.FaceCourses.{face_course, place_course, point_course, text_above}

place_plain : (scale : ℕ) (t : Table) (place : Place) → IsPlain (place_course scale t place)
place_plain scale t (Corner n) = plain_refuses _
place_plain scale t (Border e) = plain_refuses _
place_plain scale t (Area floor) = plain_writes (exactly (text_above scale t floor))

point_plain : (scale : ℕ) (t : Table) (p : Option Point) → IsPlain (point_course scale t p)
point_plain scale t None = plain_refuses _
point_plain scale t (Some p) = plain_searches (most_steps t) (place_course scale t (place_at t p)) (place_plain scale t (place_at t p))

pub face_plain : (file : LayerFile) (point : Text) → IsPlain (face_course file point)
face_plain file point = plain_reads _ _ (λ text. layer_all IsPlain plain_refuses file.form (layer_of file.form file.scale text) (λ l. accepted_course file.scale l (point_course file.scale (table_in l) (point_of file.scale point)))
    (λ l. accepted_all IsPlain plain_refuses file.scale l (point_course file.scale (table_in l) (point_of file.scale point)) (point_plain file.scale (table_in l) (point_of file.scale point))))
