-- What `dissolve` answers whose layer is told, in the words of its user. The words:
--   AreDissolved  what the written groups of a layer are
--   Dissolves     all that a user is told
use Rattle.std.specs.Prelude.{◌≡◌, ℕ, ◌<◌, ◌≤◌, All, List, length, map, Ok, Err, IsTrue, codes}
use Rattle.std.specs.Io.KnownBytes.{Appends}
use Rattle.loc_io.specs.{Streams.Stream, Meaning.holds}
use Rattle.loc_spec_plane.specs.{Covers.cover_sum, Tables.piece_count}
use Rattle.loc_spec_text.specs.{Bytes.Text, Points.ended, declared.Form.TheVariants.Csv}
use Rattle.loc_rings.specs.{Layers.IsLayer, Values.Feature}
use Rattle.loc_csvform.specs.{Layer.layer_of, declared.faults.LayerFault.LayerFault}
use Rattle.loc_spec_text.specs.Limits.{most_members, most_pieces, most_text}
use Rattle.loc_edges.specs.{Conflicts.has_conflict, Layers.layer_rings}
use Rattle.loc_dissolve.specs.{Dissolving.CoversAsMembers, Dissolving.HasKeptOnce, Grouping.ids_of}
use Rattle.loc_laws_regroup.specs.Laws.{feature_of, groups_of}
use Rattle.loc_course.specs.{Moments.Moment, Sentences.Steady}
use Rattle.loc_maps.specs.Conflicts.{Accepts, names_conflict}
use Rattle.loc_maps.specs.LineTexts.{covers_text, layer_fault_text, pieces_text}
use Rattle.loc_maps.specs.{Located.edges_of, Located.table_in, MapCourses.LayerFile, Maps.HasFewPieces}
use Rattle.loc_query.specs.Headline.{IsAccepted}
use Rattle.loc_told.specs.Answers.{IsDone, IsRefused, OrMemory}
use Rattle.loc_groups.specs.GroupCourses.{groups_text}

-- What the groups are whose text is written.
pub record AreDissolved (scale : ℕ) (features : List Feature) : Type 0 where
  -- The segments of a group's rings are the edges of which it covers one side alone, each once.
  pub segments : All (HasKeptOnce (table_in features) (ids_of features)) (groups_of features)
  -- Its rings cover a point on no edge of the layer exactly where a feature with its id does.
  pub covering : All (CoversAsMembers (table_in features) features) (groups_of features)
  -- The text, where its features and points are within the limits of a layer, reads in form csv at the same scale as one feature for each group, with its id and its rings.
  pub reads_back : IsLayer (map feature_of (groups_of features)) → layer_of Csv scale (groups_text scale features) ≡ Ok (map feature_of (groups_of features))

-- The text of the layer is that told of its file. An answer may want memory: the status is 5 then, and nothing is on out.
pub record Dissolves (file : LayerFile) (old new : Moment) (n n' : Stream) (status : ℕ) : Type 0 where
  -- With status 0 the layer is accepted, and out has grown by exactly the text of its groups.
  pub done : (layer : Text) → old.shelf.told file.name ≡ holds layer → status ≡ 0 → (features : List Feature) × IsAccepted file layer features × Appends old.out.written new.out.written (groups_text file.scale features)
  -- The status is 0 for every accepted layer, unless a read or a write failed.
  pub answers : (layer : Text) (features : List Feature) → old.shelf.told file.name ≡ holds layer → IsAccepted file layer features
      → Steady old.shelf.read_faults new.shelf.read_faults → Steady old.out.faults new.out.faults → OrMemory old new status (IsDone old new status (groups_text file.scale features))
  -- The groups are those of the features that the layer's text reads as, and their text, where it is within the limits of a layer, reads back.
  pub groups : (layer : Text) (features : List Feature) → IsAccepted file layer features → AreDissolved file.scale features
  -- Else, unless a read failed, the status is 1, nothing is on out, and the line on notes is that of the cause: the layer is too long,
  pub layer_long : (layer : Text) → old.shelf.told file.name ≡ holds layer → most_text < length layer → Steady old.shelf.read_faults new.shelf.read_faults
      → OrMemory old new status (IsRefused old new n n' status (ended (codes "layer: too long")))
  -- or is at fault,
  pub layer_fault : (layer : Text) (fault : LayerFault) → old.shelf.told file.name ≡ holds layer → length layer ≤ most_text → layer_of file.form file.scale layer ≡ Err fault → Steady old.shelf.read_faults new.shelf.read_faults
      → OrMemory old new status (IsRefused old new n n' status (ended (layer_fault_text file.form fault)))
  -- or its segments have too many pieces together,
  pub pieces : (layer : Text) (features : List Feature) → old.shelf.told file.name ≡ holds layer → length layer ≤ most_text → layer_of file.form file.scale layer ≡ Ok features
      → most_pieces < piece_count (layer_rings features) → Steady old.shelf.read_faults new.shelf.read_faults
      → OrMemory old new status (IsRefused old new n n' status (ended pieces_text))
  -- or two of its edges conflict, and the line names two that do,
  pub conflict : (layer : Text) (features : List Feature) → old.shelf.told file.name ≡ holds layer → length layer ≤ most_text → layer_of file.form file.scale layer ≡ Ok features
      → HasFewPieces features → IsTrue (has_conflict (edges_of features)) → Steady old.shelf.read_faults new.shelf.read_faults
      → OrMemory old new status ((line : Text) × IsTrue (names_conflict file.scale (edges_of features) line) × IsRefused old new n n' status line)
  -- or its distinct cover lists have too many members together.
  pub covers : (layer : Text) (features : List Feature) → old.shelf.told file.name ≡ holds layer → length layer ≤ most_text → layer_of file.form file.scale layer ≡ Ok features
      → HasFewPieces features → Accepts features → most_members < cover_sum (table_in features) → Steady old.shelf.read_faults new.shelf.read_faults
      → OrMemory old new status (IsRefused old new n n' status (ended covers_text))
