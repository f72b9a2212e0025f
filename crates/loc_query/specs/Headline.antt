-- The headline of the program, in the words of its user: what a query whose files are told answers. The words: `IsAccepted`, `IsOrderTold`, `IsInOrder`,
-- `edge_count`, `steps_in`, `Headline`.
use Rattle.std.specs.Prelude.{◌≡◌, ◌⊎◌, ℕ, ◌+◌, ◌*◌, ◌<◌, ◌≤◌, Bool, List, length, Ok, Err, IsTrue, ⊤, codes}
use Rattle.std.specs.Io.KnownBytes.{Appends}
use Rattle.loc_io.specs.{Streams.Stream, Meaning.Told, Meaning.holds}
use Rattle.loc_spec_plane.specs.Covers.{cover_sum}
use Rattle.loc_spec_asked.specs.{declared.Index.Index, Orders.AskedOrder, Orders.in_file, Orders.shuffled_from}
use Rattle.loc_spec_text.specs.{Bytes.Text, Bytes.lines, Points.ended, Limits.most_members, Limits.most_text}
use Rattle.loc_rings.specs.Values.{Feature}
use Rattle.loc_csvform.specs.{Layer.LayerRead, Layer.layer_of, declared.faults.LayerFault.LayerFault}
use Rattle.loc_edges.specs.Conflicts.{has_conflict}
use Rattle.loc_course.specs.{Moments.Moment, Sentences.Steady, Sentences.Wrote}
use Rattle.loc_maps.specs.Conflicts.{Accepts, names_conflict}
use Rattle.loc_maps.specs.LineTexts.{layer_fault_text, covers_text, pieces_text}
use Rattle.loc_maps.specs.{Located.edges_of, Located.table_in, MapCourses.LayerFile}
use Rattle.loc_maps.specs.Maps.{HasFewPieces, has_many_pieces}
use Rattle.loc_trapdag.specs.{Orders.order_of, declared.order.OrderFault.OrderFault}
use Rattle.loc_orders.specs.OrderTexts.{order_fault_text}
use Rattle.loc_batch.specs.PointLines.{point_count}
use Rattle.loc_query.specs.{Answered.output_of, Answered.output_within, QueryCourses.steps_by}

-- the text is within the limit and reads as a layer of these features, its pieces are few, no two of its edges conflict, and its cover lists are few
pub record IsAccepted (file : LayerFile) (layer : Text) (features : List Feature) : Type 0 where
  pub within : length layer ≤ most_text
  pub reads : layer_of file.form file.scale layer ≡ Ok features
  pub few_pieces : HasFewPieces features
  pub apart : Accepts features
  pub few_covers : cover_sum (table_in features) ≤ most_members

-- the text of the order's file is told, if that of a file is asked for
abbrev pub IsOrderTold : (Text → Told) → AskedOrder → Type 0
IsOrderTold told (in_file name) = (text : Text) × (told name ≡ holds text)
IsOrderTold told (shuffled_from number) = ⊤

-- the text of the order's file, if that of a file is asked for, is told and within the limit, and has each of so many edges in one line
abbrev pub IsInOrder : (Text → Told) → AskedOrder → ℕ → Type 0
IsInOrder told (in_file name) edges = (text : Text) × (told name ≡ holds text) × (length text ≤ most_text) × (order : List ℕ) × (order_of edges text ≡ Ok order)
IsInOrder told (shuffled_from number) edges = ⊤

-- the edges of a layer
abbrev pub edge_count : List Feature → ℕ
edge_count features = length (table_in features).ends

-- the steps of an answer at most, where the layer reads
abbrev pub steps_in : Index → LayerRead → ℕ
steps_in index (Ok features) = steps_by index (table_in features)
steps_in index (Err fault) = 0

-- The texts of the layer, of the order and of the points are those told of their files. With `faces` the answers name the number of each open face. An answer may want memory: the status is 5 then, and nothing is on out.
pub record Headline (index : Index) (order : AskedOrder) (faces : Bool) (file : LayerFile) (points : Text) (old new : Moment) (n n' : Stream) (status : ℕ) : Type 0 where
  -- With status 0 the layer is accepted, the order is one of its edges, the points are within the limit, and out has grown by exactly the defined answers.
  pub done : (layer text : Text) → old.shelf.told file.name ≡ holds layer → old.shelf.told points ≡ holds text → IsOrderTold old.shelf.told order → status ≡ 0
      → (features : List Feature) × IsAccepted file layer features × IsInOrder old.shelf.told order (edge_count features) × (length text ≤ most_text) × Appends old.out.written new.out.written (output_of faces file.scale features text)
  -- The status is 0 for every accepted layer, order of its edges and points within the limit, unless a read or a write failed.
  pub answers : (layer text : Text) (features : List Feature) → old.shelf.told file.name ≡ holds layer → old.shelf.told points ≡ holds text
      → IsAccepted file layer features → IsInOrder old.shelf.told order (edge_count features) → length text ≤ most_text → Steady old.shelf.read_faults new.shelf.read_faults → Steady old.out.faults new.out.faults
      → ((status ≡ 0) × Appends old.out.written new.out.written (output_of faces file.scale features text)) ⊎ ((status ≡ 5) × (new.out.written ≡ old.out.written))
  -- Else, unless a read failed, it is 1, nothing is on out, and the line on notes is that of the cause: the layer is too long,
  pub layer_long : (layer : Text) → old.shelf.told file.name ≡ holds layer → most_text < length layer → Steady old.shelf.read_faults new.shelf.read_faults
      → ((status ≡ 1) × (new.out.written ≡ old.out.written) × Wrote n n' (ended (codes "layer: too long"))) ⊎ ((status ≡ 5) × (new.out.written ≡ old.out.written))
  -- or is at fault,
  pub layer_fault : (layer : Text) (fault : LayerFault) → old.shelf.told file.name ≡ holds layer → length layer ≤ most_text → layer_of file.form file.scale layer ≡ Err fault → Steady old.shelf.read_faults new.shelf.read_faults
      → ((status ≡ 1) × (new.out.written ≡ old.out.written) × Wrote n n' (ended (layer_fault_text file.form fault))) ⊎ ((status ≡ 5) × (new.out.written ≡ old.out.written))
  -- or it reads, and its segments have too many pieces together,
  pub pieces : (layer : Text) (features : List Feature) → old.shelf.told file.name ≡ holds layer → length layer ≤ most_text → layer_of file.form file.scale layer ≡ Ok features
      → IsTrue (has_many_pieces features) → Steady old.shelf.read_faults new.shelf.read_faults
      → ((status ≡ 1) × (new.out.written ≡ old.out.written) × Wrote n n' (ended pieces_text)) ⊎ ((status ≡ 5) × (new.out.written ≡ old.out.written))
  -- or they are few, and the order is too long,
  pub order_long : (layer text name : Text) (features : List Feature) → order ≡ in_file name → old.shelf.told file.name ≡ holds layer → length layer ≤ most_text → layer_of file.form file.scale layer ≡ Ok features → HasFewPieces features
      → old.shelf.told name ≡ holds text → most_text < length text → Steady old.shelf.read_faults new.shelf.read_faults
      → ((status ≡ 1) × (new.out.written ≡ old.out.written) × Wrote n n' (ended (codes "order: too long"))) ⊎ ((status ≡ 5) × (new.out.written ≡ old.out.written))
  -- or is at fault,
  pub order_fault : (layer text name : Text) (features : List Feature) (fault : OrderFault) → order ≡ in_file name → old.shelf.told file.name ≡ holds layer → length layer ≤ most_text → layer_of file.form file.scale layer ≡ Ok features → HasFewPieces features
      → old.shelf.told name ≡ holds text → length text ≤ most_text → order_of (edge_count features) text ≡ Err fault → Steady old.shelf.read_faults new.shelf.read_faults
      → ((status ≡ 1) × (new.out.written ≡ old.out.written) × Wrote n n' (ended (order_fault_text fault))) ⊎ ((status ≡ 5) × (new.out.written ≡ old.out.written))
  -- or two edges of the layer conflict, and the line names two that do,
  pub conflict : (layer : Text) (features : List Feature) → old.shelf.told file.name ≡ holds layer → length layer ≤ most_text → layer_of file.form file.scale layer ≡ Ok features → HasFewPieces features
      → IsInOrder old.shelf.told order (edge_count features) → IsTrue (has_conflict (edges_of features)) → Steady old.shelf.read_faults new.shelf.read_faults
      → ((status ≡ 1) × (new.out.written ≡ old.out.written) × (line : Text) × IsTrue (names_conflict file.scale (edges_of features) line) × Wrote n n' line) ⊎ ((status ≡ 5) × (new.out.written ≡ old.out.written))
  -- or its distinct cover lists have too many members together,
  pub covers : (layer : Text) (features : List Feature) → old.shelf.told file.name ≡ holds layer → length layer ≤ most_text → layer_of file.form file.scale layer ≡ Ok features → HasFewPieces features
      → IsInOrder old.shelf.told order (edge_count features) → Accepts features → most_members < cover_sum (table_in features) → Steady old.shelf.read_faults new.shelf.read_faults
      → ((status ≡ 1) × (new.out.written ≡ old.out.written) × Wrote n n' (ended covers_text)) ⊎ ((status ≡ 5) × (new.out.written ≡ old.out.written))
  -- or the layer is accepted and the points are too long: then the lines that end within the limit are answered, unless a write failed.
  pub points_long : (layer text : Text) (features : List Feature) → old.shelf.told file.name ≡ holds layer → old.shelf.told points ≡ holds text
      → IsAccepted file layer features → IsInOrder old.shelf.told order (edge_count features) → most_text < length text → Steady old.shelf.read_faults new.shelf.read_faults → Steady old.out.faults new.out.faults
      → ((status ≡ 1) × Appends old.out.written new.out.written (output_within most_text faces file.scale features text) × Wrote n n' (ended (codes "points: too long"))) ⊎ ((status ≡ 5) × (new.out.written ≡ old.out.written))
  -- So many steps were counted at most for each line of the points that reads as a point.
  pub steps : (layer text : Text) → old.shelf.told file.name ≡ holds layer → old.shelf.told points ≡ holds text
      → new.steps ≤ old.steps + point_count file.scale (lines text) * steps_in index (layer_of file.form file.scale layer)
