-- What `stab` answers whose files are told, in the words of its user. The words: `IsApart`, `OrMemory`, `Stabs`.
use Rattle.std.specs.Prelude.{◌≡◌, ◌⊎◌, ℕ, ◌+◌, ◌<◌, ◌≤◌, List, length, Ok, Err, IsTrue, codes}
use Rattle.std.specs.Io.KnownBytes.{Appends}
use Rattle.loc_io.specs.{Streams.Stream, Meaning.holds}
use Rattle.loc_spec_plane.specs.Tables.{piece_count}
use Rattle.loc_spec_text.specs.{Bytes.Text, Points.ended, Limits.most_pieces, Limits.most_text}
use Rattle.loc_rings.specs.Values.{Feature}
use Rattle.loc_csvform.specs.{Layer.layer_of, declared.faults.LayerFault.LayerFault}
use Rattle.loc_edges.specs.{Conflicts.has_conflict, Layers.layer_rings}
use Rattle.loc_course.specs.{Moments.Moment, Sentences.Steady, Sentences.Wrote}
use Rattle.loc_maps.specs.Conflicts.{Accepts, names_conflict}
use Rattle.loc_maps.specs.{LineTexts.layer_fault_text, LineTexts.pieces_text, Located.edges_of, Located.table_in}
use Rattle.loc_maps.specs.{MapCourses.LayerFile, Maps.HasFewPieces}
use Rattle.loc_reach.specs.SpanCourses.{met_output, text_steps}

-- the text is within the limit and reads as a layer of these features, its pieces are few, and no two of its edges conflict
pub record IsApart (file : LayerFile) (layer : Text) (features : List Feature) : Type 0 where
  pub within : length layer ≤ most_text
  pub reads : layer_of file.form file.scale layer ≡ Ok features
  pub few_pieces : HasFewPieces features
  pub apart : Accepts features

-- this, or memory was wanting: the status is 5 then, and nothing is on out
abbrev pub OrMemory : Moment → Moment → ℕ → Type 0 → Type 0
OrMemory old new status So = So ⊎ ((status ≡ 5) × (new.out.written ≡ old.out.written))

-- refused by this line, and nothing is on out
abbrev pub IsRefused : Moment → Moment → Stream → Stream → ℕ → Text → Type 0
IsRefused old new n n' status line = (status ≡ 1) × (new.out.written ≡ old.out.written) × Wrote n n' line

-- The texts of the layer and of the spans are those told of their files. An answer may want memory: the status is 5 then, and nothing is on out.
pub record Stabs (file : LayerFile) (spans : Text) (old new : Moment) (n n' : Stream) (status : ℕ) : Type 0 where
  -- With status 0 the layer has few pieces, no two of its edges conflict, the spans are within the limit, and out has grown by exactly the answers to their lines.
  pub done : (layer text : Text) → old.shelf.told file.name ≡ holds layer → old.shelf.told spans ≡ holds text → status ≡ 0
      → (features : List Feature) × IsApart file layer features × (length text ≤ most_text) × Appends old.out.written new.out.written (met_output file.scale (table_in features) text)
  -- The status is 0 for all such texts, unless a read or a write failed.
  pub answers : (layer text : Text) (features : List Feature) → old.shelf.told file.name ≡ holds layer → old.shelf.told spans ≡ holds text → IsApart file layer features → length text ≤ most_text
      → Steady old.shelf.read_faults new.shelf.read_faults → Steady old.out.faults new.out.faults
      → OrMemory old new status ((status ≡ 0) × Appends old.out.written new.out.written (met_output file.scale (table_in features) text))
  -- Else, unless a read failed, it is 1, nothing is on out, and the line on notes is that of the cause: the layer is too long,
  pub layer_long : (layer : Text) → old.shelf.told file.name ≡ holds layer → most_text < length layer → Steady old.shelf.read_faults new.shelf.read_faults
      → OrMemory old new status (IsRefused old new n n' status (ended (codes "layer: too long")))
  -- or is at fault,
  pub layer_fault : (layer : Text) (fault : LayerFault) → old.shelf.told file.name ≡ holds layer → length layer ≤ most_text → layer_of file.form file.scale layer ≡ Err fault → Steady old.shelf.read_faults new.shelf.read_faults
      → OrMemory old new status (IsRefused old new n n' status (ended (layer_fault_text file.form fault)))
  -- or its segments have too many pieces together,
  pub pieces : (layer : Text) (features : List Feature) → old.shelf.told file.name ≡ holds layer → length layer ≤ most_text → layer_of file.form file.scale layer ≡ Ok features
      → most_pieces < piece_count (layer_rings features) → Steady old.shelf.read_faults new.shelf.read_faults
      → OrMemory old new status (IsRefused old new n n' status (ended pieces_text))
  -- or two of its edges conflict, and the line names two that do,
  pub conflict : (layer : Text) (features : List Feature) → old.shelf.told file.name ≡ holds layer → length layer ≤ most_text → layer_of file.form file.scale layer ≡ Ok features
      → HasFewPieces features → IsTrue (has_conflict (edges_of features)) → Steady old.shelf.read_faults new.shelf.read_faults
      → OrMemory old new status ((line : Text) × IsTrue (names_conflict file.scale (edges_of features) line) × IsRefused old new n n' status line)
  -- or the spans are too long.
  pub spans_long : (layer text : Text) (features : List Feature) → old.shelf.told file.name ≡ holds layer → old.shelf.told spans ≡ holds text → IsApart file layer features → most_text < length text
      → Steady old.shelf.read_faults new.shelf.read_faults → OrMemory old new status (IsRefused old new n n' status (ended (codes "spans: too long")))
  -- No more steps were counted than the bounds of the lines together.
  pub steps : (layer text : Text) (features : List Feature) → old.shelf.told file.name ≡ holds layer → old.shelf.told spans ≡ holds text → layer_of file.form file.scale layer ≡ Ok features
      → new.steps ≤ old.steps + text_steps file.scale (table_in features) text
