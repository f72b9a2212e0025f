-- What `features` answers whose files are told, in the words of its user. The words:
--   features_within  the answers to the lines that end within the first bytes of a points text
--   steps_in         the most steps of a line, where the layer reads
--   FeaturesTold     all that a user is told
use Rattle.std.specs.Prelude.{◌≡◌, ℕ, ◌+◌, ◌*◌, ◌<◌, ◌≤◌, List, length, take, Ok, Err, codes}
use Rattle.std.specs.{Io.KnownBytes.Appends, List.flat_map}
use Rattle.loc_io.specs.{Streams.Stream, Meaning.holds}
use Rattle.loc_spec_text.specs.{Bytes.Text, Bytes.ended_lines, Bytes.lines, Points.ended, Limits.most_text}
use Rattle.loc_rings.specs.Values.{Feature}
use Rattle.loc_csvform.specs.{Layer.LayerRead, Layer.layer_of, declared.faults.LayerFault.LayerFault}
use Rattle.loc_batch.specs.PointLines.{point_count}
use Rattle.loc_course.specs.{Moments.Moment, Sentences.Steady, Sentences.Wrote}
use Rattle.loc_maps.specs.{LineTexts.layer_fault_text, MapCourses.IsRead, MapCourses.LayerFile}
use Rattle.loc_told.specs.Answers.{IsDone, IsRefused, OrMemory}
use Rattle.loc_features.specs.{FeatureCourses.features_steps, Features.features_line, Features.features_output}

-- the answers to those lines that end within the first bytes of a points text
abbrev pub features_within : ℕ → ℕ → List Feature → Text → Text
features_within most scale layer points = flat_map (features_line scale layer) (ended_lines (take most points))

-- the most steps of a line, where the layer reads
abbrev pub steps_in : LayerRead → ℕ
steps_in (Ok features) = features_steps features
steps_in (Err fault) = 0

-- The texts of the layer and of the points are those told of their files. An answer may want memory: the status is 5 then, and nothing is on out.
pub record FeaturesTold (file : LayerFile) (points : Text) (old new : Moment) (n n' : Stream) (status : ℕ) : Type 0 where
  -- With status 0 the layer reads, the points are within the limit, and out has grown by exactly one line for each line of the points: the features that
  -- touch its point and those that cover it, by name, in the order of the layer; `unread` where it reads as no point.
  pub done : (layer text : Text) → old.shelf.told file.name ≡ holds layer → old.shelf.told points ≡ holds text → status ≡ 0
      → (features : List Feature) × IsRead file layer features × (length text ≤ most_text) × Appends old.out.written new.out.written (features_output file.scale features text)
  -- The status is 0 for every layer that reads and points within the limit, unless a read or a write failed.
  pub answers : (layer text : Text) (features : List Feature) → old.shelf.told file.name ≡ holds layer → old.shelf.told points ≡ holds text → IsRead file layer features → length text ≤ most_text
      → Steady old.shelf.read_faults new.shelf.read_faults → Steady old.out.faults new.out.faults → OrMemory old new status (IsDone old new status (features_output file.scale features text))
  -- Else, unless a read failed, it is 1, nothing is on out, and the line on notes is that of the cause: the layer is too long,
  pub layer_long : (layer : Text) → old.shelf.told file.name ≡ holds layer → most_text < length layer → Steady old.shelf.read_faults new.shelf.read_faults
      → OrMemory old new status (IsRefused old new n n' status (ended (codes "layer: too long")))
  -- or is at fault,
  pub layer_fault : (layer : Text) (fault : LayerFault) → old.shelf.told file.name ≡ holds layer → length layer ≤ most_text → layer_of file.form file.scale layer ≡ Err fault → Steady old.shelf.read_faults new.shelf.read_faults
      → OrMemory old new status (IsRefused old new n n' status (ended (layer_fault_text file.form fault)))
  -- or it reads and the points are too long: then the lines that end within the limit are answered, unless a write failed.
  pub points_long : (layer text : Text) (features : List Feature) → old.shelf.told file.name ≡ holds layer → old.shelf.told points ≡ holds text → IsRead file layer features → most_text < length text
      → Steady old.shelf.read_faults new.shelf.read_faults → Steady old.out.faults new.out.faults
      → OrMemory old new status ((status ≡ 1) × Appends old.out.written new.out.written (features_within most_text file.scale features text) × Wrote n n' (ended (codes "points: too long")))
  -- In all no more steps were counted than 1,008, and one for each segment of the layer, for each line of the points that reads as a point.
  pub steps : (layer text : Text) → old.shelf.told file.name ≡ holds layer → old.shelf.told points ≡ holds text
      → new.steps ≤ old.steps + point_count file.scale (lines text) * steps_in (layer_of file.form file.scale layer)
