-- The refusals of a query and its output, as rows: what the told files come to.
use Rattle.std.proofs.Common.{◌≡◌, ℕ, ◌<◌, ◌≤◌, Bool, List, length, take, Result, Ok, Err, refl, ◌∙◌, ap, true, codes}
use Rattle.std.specs.Prelude.{nat_lt}
use Rattle.std.proofs.{lemmas.Bool.cond-true, lemmas.Bool.Decides.Decides-ltb}
use Rattle.loc_io.specs.Meaning.{Told, holds}
use Rattle.loc_spec_plane.specs.Covers.{cover_sum}
use Rattle.loc_spec_asked.specs.{declared.Index.Index, Orders.AskedOrder, Orders.in_file, Orders.shuffled_from}
use Rattle.loc_spec_text.specs.{Answered.Answered, Answered.answered, Bytes.Text, Bytes.ended_lines, Bytes.lines}
use Rattle.loc_spec_text.specs.{Points.ended, Limits.most_members, Limits.most_text}
use Rattle.loc_spec_text.proofs.AnsweredLaws.{all_answered, joined}
use Rattle.loc_rings.specs.Values.{Feature}
use Rattle.loc_csvform.specs.{Layer.LayerRead, Layer.layer_of, declared.faults.LayerFault.LayerFault}
use Rattle.loc_edges.specs.Conflicts.{has_conflict}
use Rattle.loc_course.specs.{Courses.Source, Courses.Course, Courses.refuses, Stops.source}
use Rattle.loc_course.specs.Outcomes.{Outcome, refusal, output, partly, by_text, by_lines, by_refusal, exactly, outcome}
use Rattle.loc_course.specs.Streams.{Answering, answered_long, out_of}
use Rattle.loc_course.proofs.{Streamed.of_whole, Texts.long, Texts.short}
use Rattle.loc_maps.specs.Conflicts.{Accepts, names_conflict}
use Rattle.loc_maps.specs.LineTexts.{layer_fault_text, covers_text, pieces_text}
use Rattle.loc_maps.specs.Located.{edges_of, table_in}
use Rattle.loc_maps.specs.MapCourses.{LayerFile, accepted_course, covers_course, layer_in}
use Rattle.loc_maps.specs.Maps.{HasFewPieces, has_many_covers, has_many_pieces}
use Rattle.loc_maps.proofs.Judged.{on_apart, on_few_covers, on_few_pieces}
use Rattle.loc_trapdag.specs.{Orders.order_of, declared.order.OrderFault.OrderFault}
use Rattle.loc_orders.specs.{OrderCourses.asked_course, OrderCourses.order_in, OrderTexts.order_fault_text}
use Rattle.loc_query.specs.Answered.{answer_line, output_of, output_within}
use Rattle.loc_query.specs.Headline.{IsInOrder, edge_count}
use Rattle.loc_query.specs.QueryCourses.{asked_layer, points_course, query_course}

-- an order's file, and a course behind one that is an order
abbrev order_source : Text → Source
order_source name = source name most_text (ended (codes "order: too long"))

in_order : (told : Text → Told) (order : AskedOrder) (edges : ℕ) (next : Course) → IsInOrder told order edges → outcome told (asked_course order edges (λ _. next)) ≡ outcome told next
in_order told (shuffled_from number) edges next o = refl
in_order told (in_file name) edges next o = short (order_source name) (λ text. outcome told (order_in (order_of edges text) (λ _. next))) (told name) o.0 o.1 o.2
    ∙ ap (λ (r : Result (List ℕ) OrderFault). outcome told (order_in r (λ _. next))) o.4

module _ (told : Text → Told) (index : Index) (order : AskedOrder) (faces : Bool) (file : LayerFile) (points layer : Text) (is : told file.name ≡ holds layer) where
  abbrev behind : LayerRead → Outcome
  behind r = outcome told (layer_in file.form r (λ l. asked_layer index order faces file.scale points l))

  abbrev by_layer : Text → Outcome
  by_layer text = behind (layer_of file.form file.scale text)

  abbrev of_layer : Source
  of_layer = source file.name most_text (ended (codes "layer: too long"))

  abbrev of_points : Source
  of_points = source points most_text (ended (codes "points: too long"))

  abbrev answering : List Feature → Answering
  answering features line = Ok (answer_line faces file.scale features line)

  pub layer_long : most_text < length layer → outcome told (query_course index order faces file points) ≡ refusal (exactly (ended (codes "layer: too long")))
  layer_long more = long of_layer by_layer (told file.name) layer is more

  read : length layer ≤ most_text → (r : LayerRead) → layer_of file.form file.scale layer ≡ r → outcome told (query_course index order faces file points) ≡ behind r
  read few r reads = short of_layer by_layer (told file.name) layer is few ∙ ap behind reads

  pub layer_line : (fault : LayerFault) → length layer ≤ most_text → layer_of file.form file.scale layer ≡ Err fault → outcome told (query_course index order faces file points) ≡ refusal (exactly (ended (layer_fault_text file.form fault)))
  layer_line fault few reads = read few (Err fault) reads

  pub pieces : (features : List Feature) → length layer ≤ most_text → layer_of file.form file.scale layer ≡ Ok features → has_many_pieces features ≡ true → outcome told (query_course index order faces file points) ≡ refusal (exactly (ended pieces_text))
  pieces features few reads many = read few (Ok features) reads
      ∙ ap (outcome told) (cond-true (has_many_pieces features) (refuses (exactly (ended pieces_text))) (asked_layer index order faces file.scale points features) many)

  module _ (features : List Feature) (few : length layer ≤ most_text) (reads : layer_of file.form file.scale layer ≡ Ok features) (few_pieces : HasFewPieces features) where
    -- a layer whose pieces are few
    cut : outcome told (query_course index order faces file points) ≡ outcome told (asked_layer index order faces file.scale points features)
    cut = read few (Ok features) reads ∙ ap (outcome told) (on_few_pieces features (asked_layer index order faces file.scale points features) few_pieces)

    abbrev behind_order : Course
    behind_order = accepted_course file.scale features (points_course index faces file.scale points features)

    abbrev by_order : Text → Outcome
    by_order text = outcome told (order_in (order_of (edge_count features) text) (λ _. behind_order))

    named : (name : Text) → order ≡ in_file name → outcome told (query_course index order faces file points) ≡ by_text (order_source name) by_order (told name)
    named name is_named = cut ∙ ap (λ (o : AskedOrder). outcome told (asked_layer index o faces file.scale points features)) is_named

    pub order_long : (name text : Text) → order ≡ in_file name → told name ≡ holds text → most_text < length text → outcome told (query_course index order faces file points) ≡ refusal (exactly (ended (codes "order: too long")))
    order_long name text is_named also more = named name is_named ∙ long (order_source name) by_order (told name) text also more

    pub order_line : (name text : Text) (fault : OrderFault) → order ≡ in_file name → told name ≡ holds text → length text ≤ most_text → order_of (edge_count features) text ≡ Err fault
        → outcome told (query_course index order faces file points) ≡ refusal (exactly (ended (order_fault_text fault)))
    order_line name text fault is_named also less faulty = named name is_named ∙ (short (order_source name) by_order (told name) text also less
        ∙ ap (λ (r : Result (List ℕ) OrderFault). outcome told (order_in r (λ _. behind_order))) faulty)

    -- an order of the edges does not show
    ordered : IsInOrder told order (edge_count features) → outcome told (query_course index order faces file points) ≡ outcome told behind_order
    ordered o = cut ∙ in_order told order (edge_count features) behind_order o

    pub conflict : IsInOrder told order (edge_count features) → has_conflict (edges_of features) ≡ true → outcome told (query_course index order faces file points) ≡ refusal (names_conflict file.scale (edges_of features))
    conflict o has = ordered o
        ∙ ap (outcome told) (cond-true (has_conflict (edges_of features)) (refuses (names_conflict file.scale (edges_of features))) (covers_course (table_in features) (points_course index faces file.scale points features)) has)

    pub covers : IsInOrder told order (edge_count features) → Accepts features → most_members < cover_sum (table_in features) → outcome told (query_course index order faces file points) ≡ refusal (exactly (ended covers_text))
    covers o apart many = ordered o
        ∙ (ap (outcome told) (on_apart file.scale (edges_of features) (covers_course (table_in features) (points_course index faces file.scale points features)) apart)
        ∙ ap (outcome told) (cond-true (has_many_covers (table_in features)) (refuses (exactly (ended covers_text))) (points_course index faces file.scale points features) ((Decides-ltb most_members (cover_sum (table_in features))).1 many)))

    accepted : IsInOrder told order (edge_count features) → Accepts features → cover_sum (table_in features) ≤ most_members → outcome told (query_course index order faces file points) ≡ by_lines of_points (answering features) (told points)
    accepted o apart few_covers = ordered o
        ∙ (ap (outcome told) (on_apart file.scale (edges_of features) (covers_course (table_in features) (points_course index faces file.scale points features)) apart)
        ∙ ap (outcome told) (on_few_covers (table_in features) (points_course index faces file.scale points features) few_covers))

    module _ (o : IsInOrder told order (edge_count features)) (apart : Accepts features) (few_covers : cover_sum (table_in features) ≤ most_members) (text : Text) (also : told points ≡ holds text) where
      pub points_long : most_text < length text → outcome told (query_course index order faces file points) ≡ partly (output_within most_text faces file.scale features text) (ended (codes "points: too long"))
      points_long more =
          let first = ended_lines (take most_text text) in
          let is_long = cond-true (nat_lt most_text (length text)) (answered_long of_points.too_long (answered (answering features) first)) (answered (answering features) (lines text)) ((Decides-ltb most_text (length text)).1 more) in
          accepted o apart few_covers ∙ (ap (by_lines of_points (answering features)) also
          ∙ (ap (λ (a : Answered Text Text). by_refusal (out_of a) a.refusal) (is_long ∙ ap (answered_long of_points.too_long) (all_answered (answer_line faces file.scale features) first))
          ∙ ap (λ out. partly out of_points.too_long) (joined (answer_line faces file.scale features) first)))

      pub answered_all : length text ≤ most_text → outcome told (query_course index order faces file points) ≡ output (exactly (output_of faces file.scale features text))
      unfolding output_of
      answered_all less =
          accepted o apart few_covers ∙ (ap (by_lines of_points (answering features)) also
          ∙ (ap (λ (a : Answered Text Text). by_refusal (out_of a) a.refusal) (of_whole of_points (answering features) text less ∙ all_answered (answer_line faces file.scale features) (lines text))
          ∙ ap (λ out. output (exactly out)) (joined (answer_line faces file.scale features) (lines text))))
