-- What making the index file of a layer leaves, in the words of its user. The words:
--   IsIndexFileOf  a text is the file of a true index of a layer
--   IsBuiltOf      the text of a layer's file is accepted, and another is the file of a true index of its layer
--   Built          what is left under the name of the index
--   Builds         all that a user is told
use Rattle.std.specs.Prelude.{◌≡◌, ◌≢◌, ◌⊎◌, ℕ, ◌<◌, ◌≤◌, List, length, map, Ok, Err, IsTrue, codes}
use Rattle.loc_spec_text.specs.{Bytes.Text, Points.ended, Limits.most_members, Limits.most_text}
use Rattle.loc_io.specs.{Meaning.Meaning, Meaning.KeepsFiles, Meaning.holds, Streams.Stream}
use Rattle.loc_spec_plane.specs.Covers.{cover_sum}
use Rattle.loc_spec_index.specs.{Content.Content, IndexFile.IsFileOf, TrueIndex.IsIndexOf, TrueIndex.IsTrueIndex}
use Rattle.loc_laws_index.specs.IndexReading.{AreBytes}
use Rattle.loc_rings.specs.Values.{Feature, rings_of}
use Rattle.loc_csvform.specs.{Layer.layer_of, declared.faults.LayerFault.LayerFault}
use Rattle.loc_edges.specs.Conflicts.{has_conflict}
use Rattle.loc_course.specs.Following.{IsCut, IsMade, IsToldAtMost}
use Rattle.loc_course.specs.{Moments.Moment, Moments.IsToldText, Sentences.Steady, Sentences.Wrote}
use Rattle.loc_maps.specs.Conflicts.{Accepts, names_conflict}
use Rattle.loc_maps.specs.LineTexts.{layer_fault_text, covers_text, pieces_text}
use Rattle.loc_maps.specs.{Located.edges_of, Located.table_in, MapCourses.LayerFile}
use Rattle.loc_maps.specs.Maps.{HasFewPieces, has_many_pieces}
use Rattle.loc_query.specs.Headline.{IsAccepted}
use Rattle.loc_indexed.specs.Asks.{OrMemory}

-- the text is the file, of the second version, of a content that is a true index, of this layer at this scale
pub record IsIndexFileOf (scale : ℕ) (layer : List Feature) (text : Text) : Type 0 where
  pub content : Content
  pub bytes : AreBytes text
  pub file : IsFileOf 2 content text
  pub is_true : IsTrueIndex content
  pub of_layer : IsIndexOf 2 scale (map (λ (f : Feature). f.id) layer) (map rings_of layer) content

-- the text of a layer's file is accepted, and the other text is an index file of its layer
pub record IsBuiltOf (file : LayerFile) (text made : Text) : Type 0 where
  pub layer : List Feature
  pub accepted : IsAccepted file text layer
  pub index : IsIndexFileOf file.scale layer made

-- With status 0 the index file of the layer was made. With status 4 the file under its name is as before, or cut. The layer's text and the file are spoken of where they are told.
pub record Built (file : LayerFile) (index : Text) (old new : Meaning) (status : ℕ) : Type 0 where
  pub done : status ≡ 0 → (text made : Text) × IsToldText (old.told file.name) text × IsBuiltOf file text made × IsMade made (new.told index)
  pub cut : status ≡ 4 → (new.told index ≡ old.told index) ⊎ ((text made : Text) × IsToldText (old.told file.name) text × IsBuiltOf file text made × IsCut made (new.told index))

-- The text is that told of the layer's file. A build may want memory: the status is 5 then, and nothing is on out.
pub record Builds (file : LayerFile) (index : Text) (old new : Moment) (n n' : Stream) (status : ℕ) : Type 0 where
  -- With status 0 the layer is accepted, and the index file, where it is told, is that of a true index of the layer.
  pub made : (text : Text) → old.shelf.told file.name ≡ holds text → status ≡ 0 → (made : Text) × IsBuiltOf file text made × IsMade made (new.shelf.told index)
  -- With status 4 it is as before, or the layer is accepted and it holds a front of such a file.
  pub cut : (text : Text) → old.shelf.told file.name ≡ holds text → status ≡ 4
      → (new.shelf.told index ≡ old.shelf.told index) ⊎ ((made : Text) × IsBuiltOf file text made × IsCut made (new.shelf.told index))
  -- The status is 0 for every accepted layer, unless a read or a write failed.
  pub builds : (text : Text) (layer : List Feature) → old.shelf.told file.name ≡ holds text → IsAccepted file text layer
      → Steady old.shelf.read_faults new.shelf.read_faults → Steady old.shelf.write_faults new.shelf.write_faults → OrMemory old new status (status ≡ 0)
  -- Else, unless a read failed, it is 1, and the line on notes is that of the cause: the layer is too long,
  pub layer_long : (text : Text) → old.shelf.told file.name ≡ holds text → most_text < length text → Steady old.shelf.read_faults new.shelf.read_faults
      → OrMemory old new status ((status ≡ 1) × Wrote n n' (ended (codes "layer: too long")))
  -- or is at fault,
  pub layer_fault : (text : Text) (fault : LayerFault) → old.shelf.told file.name ≡ holds text → length text ≤ most_text → layer_of file.form file.scale text ≡ Err fault
      → Steady old.shelf.read_faults new.shelf.read_faults → OrMemory old new status ((status ≡ 1) × Wrote n n' (ended (layer_fault_text file.form fault)))
  -- or its segments have too many pieces together,
  pub pieces : (text : Text) (layer : List Feature) → old.shelf.told file.name ≡ holds text → length text ≤ most_text → layer_of file.form file.scale text ≡ Ok layer
      → IsTrue (has_many_pieces layer) → Steady old.shelf.read_faults new.shelf.read_faults
      → OrMemory old new status ((status ≡ 1) × Wrote n n' (ended pieces_text))
  -- or two of its edges conflict, and the line names two that do,
  pub conflict : (text : Text) (layer : List Feature) → old.shelf.told file.name ≡ holds text → length text ≤ most_text → layer_of file.form file.scale text ≡ Ok layer → HasFewPieces layer
      → IsTrue (has_conflict (edges_of layer)) → Steady old.shelf.read_faults new.shelf.read_faults
      → OrMemory old new status ((status ≡ 1) × (line : Text) × IsTrue (names_conflict file.scale (edges_of layer) line) × Wrote n n' line)
  -- or its distinct cover lists have too many members together.
  pub covers : (text : Text) (layer : List Feature) → old.shelf.told file.name ≡ holds text → length text ≤ most_text → layer_of file.form file.scale text ≡ Ok layer → HasFewPieces layer
      → Accepts layer → most_members < cover_sum (table_in layer) → Steady old.shelf.read_faults new.shelf.read_faults
      → OrMemory old new status ((status ≡ 1) × Wrote n n' (ended covers_text))
  -- Nothing is on out, whatever the status.
  pub out : new.out ≡ old.out
  -- With another status than 0 and 4 every file is told as before, and with these every other file, or it is told no longer.
  pub kept : status ≢ 0 → status ≢ 4 → KeepsFiles old.shelf new.shelf
  pub others : (name : Text) → name ≢ index → IsToldAtMost (old.shelf.told name) (new.shelf.told name)
