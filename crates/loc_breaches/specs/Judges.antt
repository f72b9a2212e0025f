-- What `valid` answers whose layer is told, in the words of its user. The words:
--   IsJudged     a feature is judged
--   IsFirst      a feature of a layer, those before which are judged
--   Judges       all that a user is told
use Rattle.std.specs.Prelude.{◌≡◌, ℕ, ◌<◌, ◌≤◌, ◌++◌, ◌∷◌, All, List, length, Err, codes}
use Rattle.std.specs.Io.KnownBytes.{Appends}
use Rattle.loc_io.specs.{Streams.Stream, Meaning.holds}
use Rattle.loc_spec_text.specs.{Bytes.Text, Points.ended, Limits.most_text}
use Rattle.loc_rings.specs.Values.{Feature}
use Rattle.loc_csvform.specs.{Layer.layer_of, declared.faults.LayerFault.LayerFault}
use Rattle.loc_valid.specs.Judged.{HasManyCovers, HasManyPieces}
use Rattle.loc_course.specs.{Moments.Moment, Sentences.Steady}
use Rattle.loc_maps.specs.LineTexts.{covers_text, layer_fault_text, pieces_text}
use Rattle.loc_maps.specs.MapCourses.{IsRead, LayerFile}
use Rattle.loc_told.specs.Answers.{IsRefused, OrMemory}
use Rattle.loc_breaches.specs.BreachCourses.{AreLines}

-- neither the pieces nor the cover lists of the feature's rings keep it from being judged
pub record IsJudged (feature : Feature) : Type 0 where
  pub few_pieces : HasManyPieces feature.polygons → ⊥
  pub few_covers : HasManyCovers feature.polygons → ⊥

-- the feature is one of the layer, and those before it are judged
pub record IsFirst (features : List Feature) (feature : Feature) : Type 0 where
  pub before : List Feature
  pub behind : List Feature
  pub stands : features ≡ before ++ feature ∷ behind
  pub judged : All IsJudged before

-- The text of the layer is that told of its file. A judgement may want memory: the status is 5 then, and nothing is on out.
pub record Judges (file : LayerFile) (old new : Moment) (n n' : Stream) (status : ℕ) : Type 0 where
  -- With status 0 the layer reads, each feature is judged, and out has grown by a line for each feature, in order: its id, and its first breach or that it is valid.
  pub done : (layer : Text) → old.shelf.told file.name ≡ holds layer → status ≡ 0
      → (features : List Feature) × IsRead file layer features × All IsJudged features × ((text : Text) × AreLines file.scale features text × Appends old.out.written new.out.written text)
  -- The status is 0 for every layer that reads and whose features are judged, unless a read or a write failed.
  pub answers : (layer : Text) (features : List Feature) → old.shelf.told file.name ≡ holds layer → IsRead file layer features → All IsJudged features
      → Steady old.shelf.read_faults new.shelf.read_faults → Steady old.out.faults new.out.faults
      → OrMemory old new status ((status ≡ 0) × ((text : Text) × AreLines file.scale features text × Appends old.out.written new.out.written text))
  -- Else, unless a read failed, the status is 1, nothing is on out, and the line on notes is that of the cause: the layer is too long,
  pub layer_long : (layer : Text) → old.shelf.told file.name ≡ holds layer → most_text < length layer → Steady old.shelf.read_faults new.shelf.read_faults
      → OrMemory old new status (IsRefused old new n n' status (ended (codes "layer: too long")))
  -- or is at fault,
  pub layer_fault : (layer : Text) (fault : LayerFault) → old.shelf.told file.name ≡ holds layer → length layer ≤ most_text → layer_of file.form file.scale layer ≡ Err fault → Steady old.shelf.read_faults new.shelf.read_faults
      → OrMemory old new status (IsRefused old new n n' status (ended (layer_fault_text file.form fault)))
  -- or the pieces of the first feature that is not judged are past the limit,
  pub pieces : (layer : Text) (features : List Feature) (feature : Feature) → old.shelf.told file.name ≡ holds layer → IsRead file layer features → IsFirst features feature → HasManyPieces feature.polygons
      → Steady old.shelf.read_faults new.shelf.read_faults → OrMemory old new status (IsRefused old new n n' status (ended pieces_text))
  -- or its cover lists are.
  pub covers : (layer : Text) (features : List Feature) (feature : Feature) → old.shelf.told file.name ≡ holds layer → IsRead file layer features → IsFirst features feature → HasManyCovers feature.polygons
      → Steady old.shelf.read_faults new.shelf.read_faults → OrMemory old new status (IsRefused old new n n' status (ended covers_text))
