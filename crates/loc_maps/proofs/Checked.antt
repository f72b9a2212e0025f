-- The course of a check writes at once, makes no file and searches nothing.
use Rattle.loc_csvform.specs.Layer.{layer_of}
use Rattle.loc_course.specs.{Courses.writes, Outcomes.exactly, Sentences.IsPlain, Sentences.SearchesNothing}
use Rattle.loc_course.proofs.Plain.{plain_reads, plain_refuses, plain_writes}
use Rattle.loc_maps.specs.{Located.counts_of, MapCourses.LayerFile, MapCourses.check_course, MapCourses.accepted_course}
use Rattle.loc_maps.proofs.Judged.{accepted_all, layer_all}

pub check_plain : (file : LayerFile) → IsPlain (check_course file)
check_plain file = plain_reads _ _ (λ text. layer_all IsPlain plain_refuses file.form (layer_of file.form file.scale text) (λ l. accepted_course file.scale l (writes (exactly (counts_of l))))
    (λ l. accepted_all IsPlain plain_refuses file.scale l (writes (exactly (counts_of l))) (plain_writes (exactly (counts_of l)))))

pub check_searches_nothing : (file : LayerFile) → SearchesNothing (check_course file)
check_searches_nothing file text = layer_all SearchesNothing (λ passes. tt) file.form (layer_of file.form file.scale text) (λ l. accepted_course file.scale l (writes (exactly (counts_of l))))
    (λ l. accepted_all SearchesNothing (λ passes. tt) file.scale l (writes (exactly (counts_of l))) tt)
