-- What asking an index file answers, in the words of its user: `Asks`.
use Rattle.std.specs.Prelude.{◌≡◌, ◌⊎◌, ℕ, ◌+◌, ◌*◌, ◌<◌, ◌≤◌, List, length, map, Some, None, Ok, Err, codes, false}
use Rattle.std.specs.{Io.KnownBytes.Appends, List.flat_map}
use Rattle.loc_io.specs.{Streams.Stream, Meaning.holds}
use Rattle.loc_spec_text.specs.{Answered.answered, Bytes.Text, Bytes.lines, Points.ended}
use Rattle.loc_spec_index.specs.{declared.IndexFault.IndexFault, Content.Content, Content.table_in}
use Rattle.loc_indexed.specs.{IndexBytes.IsIndexFile, IndexedCourses.answer_in, IndexTexts.index_fault_text}
use Rattle.loc_spec_index.specs.TrueIndex.{IsIndexOf, IsTrueIndex}
use Rattle.loc_laws_index.specs.IndexReading.{AreBytes, reading}
use Rattle.loc_place.specs.Steps.{most_steps}
use Rattle.loc_file.specs.Depths.{most_of}
use Rattle.loc_rings.specs.Values.{Feature, rings_of}
use Rattle.loc_batch.specs.PointLines.{point_count}
use Rattle.loc_course.specs.{Moments.Moment, Sentences.Steady, Sentences.Wrote, Streams.out_of}
use Rattle.loc_spec_text.specs.Limits.{most_index, most_text}
use Rattle.loc_query.specs.Answered.{output_of}
use Rattle.loc_indexed.specs.Marked.{marked_line}

-- The files are told, and within their limits, and no read and no write failed.
pub record AreAsked (index points : Text) (old new : Moment) (bytes text : Text) : Type 0 where
  pub index_told : old.shelf.told index ≡ holds bytes
  pub points_told : old.shelf.told points ≡ holds text
  pub index_short : length bytes ≤ most_index
  pub points_short : length text ≤ most_text
  pub reads : Steady old.shelf.read_faults new.shelf.read_faults
  pub out : Steady old.out.faults new.out.faults

-- An answer may want memory: the status is 5 then, and nothing is on out.
abbrev pub OrMemory : Moment → Moment → ℕ → Type 0 → Type 0
OrMemory old new status Else = Else ⊎ ((status ≡ 5) × (new.out.written ≡ old.out.written))

-- done, and out has grown by these answers
abbrev pub IsDone : Moment → Moment → ℕ → Text → Type 0
IsDone old new status answer = (status ≡ 0) × Appends old.out.written new.out.written answer

pub record Asks (index points : Text) (old new : Moment) (n n' : Stream) (status : ℕ) : Type 0 where
  -- Where the bytes are an index file of any content and the search of no point is given up, each line is answered by the search and the rows of the content.
  pub answers : (bytes text : Text) (c : Content) → AreAsked index points old new bytes text → reading bytes ≡ Ok c → (answered (answer_in c) (lines text)).refusal ≡ None
      → OrMemory old new status (IsDone old new status (out_of (answered (answer_in c) (lines text))))
  -- Where a search is given up, the lines before it are answered, and the line on notes names the version.
  pub gives_up : (bytes text line : Text) (c : Content) → AreAsked index points old new bytes text → reading bytes ≡ Ok c → (answered (answer_in c) (lines text)).refusal ≡ Some line
      → OrMemory old new status ((status ≡ 1) × Appends old.out.written new.out.written (out_of (answered (answer_in c) (lines text))) × Wrote n n' line)
  -- The answers of a true index file are those by its marks,
  pub of_true : (bytes text : Text) (c : Content) → AreAsked index points old new bytes text → AreBytes bytes → IsIndexFile c bytes → IsTrueIndex c
      → OrMemory old new status (IsDone old new status (flat_map (marked_line c) (lines text)))
  -- and where it is of a layer, those of a query of the layer.
  pub of_layer : (bytes text : Text) (c : Content) (v scale : ℕ) (layer : List Feature) → AreAsked index points old new bytes text → AreBytes bytes → IsIndexFile c bytes → IsTrueIndex c
      → IsIndexOf v scale (map (λ (f : Feature). f.id) layer) (map rings_of layer) c → OrMemory old new status (IsDone old new status (output_of false scale layer text))
  -- In all no more steps were counted than a search in the content may take for each line of the points that reads as a point,
  pub steps : (bytes text : Text) (c : Content) → old.shelf.told index ≡ holds bytes → old.shelf.told points ≡ holds text → reading bytes ≡ Ok c
      → new.steps ≤ old.steps + point_count c.scale (lines text) * most_of c (table_in c)
  -- and in a true index file that is the bound of the tree.
  pub steps_of_true : (bytes text : Text) (c : Content) → old.shelf.told index ≡ holds bytes → old.shelf.told points ≡ holds text → AreBytes bytes → IsIndexFile c bytes → IsTrueIndex c
      → new.steps ≤ old.steps + point_count c.scale (lines text) * most_steps (table_in c)
  -- Bytes that are too long or at fault are refused, and nothing is on out, unless a read failed.
  pub too_long : (bytes : Text) → old.shelf.told index ≡ holds bytes → most_index < length bytes → Steady old.shelf.read_faults new.shelf.read_faults
      → OrMemory old new status ((status ≡ 1) × (new.out.written ≡ old.out.written) × Wrote n n' (ended (codes "index: too long")))
  pub at_fault : (bytes : Text) (fault : IndexFault) → old.shelf.told index ≡ holds bytes → length bytes ≤ most_index → reading bytes ≡ Err fault → Steady old.shelf.read_faults new.shelf.read_faults
      → OrMemory old new status ((status ≡ 1) × (new.out.written ≡ old.out.written) × Wrote n n' (ended (index_fault_text fault)))
