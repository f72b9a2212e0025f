-- The course of the groups of a layer writes at once and makes no file.
use Rattle.loc_csvform.specs.Layer.{layer_of}
use Rattle.loc_course.specs.{Courses.writes, Outcomes.exactly, Sentences.IsPlain}
use Rattle.loc_course.proofs.Plain.{plain_reads, plain_refuses, plain_writes}
use Rattle.loc_maps.specs.MapCourses.{LayerFile, accepted_course}
use Rattle.loc_maps.proofs.Judged.{accepted_all, layer_all}
use Rattle.loc_groups.specs.GroupCourses.{dissolve_course, groups_text}

pub dissolve_plain : (file : LayerFile) → IsPlain (dissolve_course file)
dissolve_plain file = plain_reads _ _ (λ text. layer_all IsPlain plain_refuses file.form (layer_of file.form file.scale text) (λ l. accepted_course file.scale l (writes (exactly (groups_text file.scale l))))
    (λ l. accepted_all IsPlain plain_refuses file.scale l (writes (exactly (groups_text file.scale l))) (plain_writes (exactly (groups_text file.scale l)))))
