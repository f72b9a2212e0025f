-- What the told file of a layer comes to, as rows: each refusal, and what comes behind a layer that reads.
use Rattle.std.proofs.Common.{◌≡◌, ◌<◌, ◌≤◌, List, length, Option, None, Ok, Err, refl, ◌∙◌, ap, inl, inr, codes}
use Rattle.loc_io.specs.Meaning.{Told, holds}
use Rattle.loc_spec_text.specs.{Bytes.Text, Points.ended, Limits.most_text}
use Rattle.loc_rings.specs.Values.{Feature}
use Rattle.loc_csvform.specs.{Layer.LayerRead, Layer.layer_of, declared.faults.LayerFault.LayerFault}
use Rattle.loc_course.specs.{Courses.Course, Courses.Source, Moments.Moment, Sentences.EndsSo, Stops.source}
use Rattle.loc_course.specs.Outcomes.{Outcome, exactly, outcome, refusal}
use Rattle.loc_course.proofs.{Streamed.long_or_short, Texts.long, Texts.short}
use Rattle.loc_told.proofs.Ends.{not_done}
use Rattle.loc_maps.specs.LineTexts.{layer_fault_text}
use Rattle.loc_maps.specs.MapCourses.{IsRead, LayerFile, read_course, read_in}

module _ (told : Text → Told) (file : LayerFile) (next : List Feature → Course) (layer : Text) (is : told file.name ≡ holds layer) where
  abbrev behind : LayerRead → Outcome
  behind r = outcome told (read_in file.form r next)

  abbrev of_layer : Source
  of_layer = source file.name most_text (ended (codes "layer: too long"))

  pub layer_long : most_text < length layer → outcome told (read_course file next) ≡ refusal (exactly (ended (codes "layer: too long")))
  layer_long more = long of_layer (λ text. behind (layer_of file.form file.scale text)) (told file.name) layer is more

  read : length layer ≤ most_text → (r : LayerRead) → layer_of file.form file.scale layer ≡ r → outcome told (read_course file next) ≡ behind r
  read few r reads = short of_layer (λ text. behind (layer_of file.form file.scale text)) (told file.name) layer is few ∙ ap behind reads

  pub layer_line : (fault : LayerFault) → length layer ≤ most_text → layer_of file.form file.scale layer ≡ Err fault → outcome told (read_course file next) ≡ refusal (exactly (ended (layer_fault_text file.form fault)))
  layer_line fault few reads = read few (Err fault) reads

  pub layer_reads : (features : List Feature) → IsRead file layer features → outcome told (read_course file next) ≡ outcome told (next features)
  layer_reads features r = read r.within (Ok features) r.reads

  -- where the command was done, its layer reads
  pub was_read : (before : Option Text) (new : Moment) → EndsSo (outcome told (read_course file next)) before new None → (features : List Feature) × IsRead file layer features
  was_read before new ends = elim (long_or_short most_text layer) [
    | inl long ↦ absurd (not_done _ _ before new (layer_long long.0) ends)
    | inr short ↦ by_read short.0 (layer_of file.form file.scale layer) refl
  ]
    where
      by_read : length layer ≤ most_text → (r : LayerRead) → layer_of file.form file.scale layer ≡ r → (features : List Feature) × IsRead file layer features
      by_read few (Err fault) reads = absurd (not_done _ _ before new (layer_line fault few reads) ends)
      by_read few (Ok features) reads = (features, record { within = few; reads = reads })
