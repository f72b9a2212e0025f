-- What the told file of a layer that reads comes to, as rows: a feature that is not judged, and the lines.
use Rattle.std.proofs.Common.{◌≡◌, List, Option, Some, None, ◌∙◌, ap}
use Rattle.loc_io.specs.Meaning.{Told, holds}
use Rattle.loc_spec_text.specs.{Bytes.Text, Points.ended}
use Rattle.loc_rings.specs.Values.{Feature}
use Rattle.loc_course.specs.Courses.{writes}
use Rattle.loc_course.specs.Outcomes.{Outcome, exactly, outcome, output, refusal}
use Rattle.loc_maps.specs.MapCourses.{IsRead, LayerFile}
use Rattle.loc_maps.proofs.ReadRows.{layer_reads}
use Rattle.loc_breaches.specs.BreachCourses.{are_lines, first_refusal, judged_course, refused_or, valid_course}

module _ (told : Text → Told) (file : LayerFile) (layer : Text) (is : told file.name ≡ holds layer) (features : List Feature) (r : IsRead file layer features) where
  abbrev lines : Option Text → Outcome
  lines line = outcome told (refused_or line (writes (are_lines file.scale features)))

  pub refused_so : (line : Text) → first_refusal features ≡ Some line → outcome told (valid_course file) ≡ refusal (exactly (ended line))
  refused_so line first = layer_reads told file (judged_course file.scale) layer is features r ∙ ap lines first

  pub written : first_refusal features ≡ None → outcome told (valid_course file) ≡ output (are_lines file.scale features)
  written none = layer_reads told file (judged_course file.scale) layer is features r ∙ ap lines none
