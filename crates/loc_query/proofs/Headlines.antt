-- The headline, by what the told files come to.
use Rattle.std.proofs.Common.{◌≡◌, ◌⊎◌, ℕ, ◌*◌, ◌<◌, ◌≤◌, Bool, true, false, List, length, Option, None, Result, Ok, Err, refl, sym, subst, inl, inr, arith}
use Rattle.std.specs.{Prelude.IsTrue, Prelude.codes, Prelude.not, Io.KnownBytes.Appends}
use Rattle.std.proofs.{lemmas.Bool.cases_lt, lemmas.Bool.Decides.Decides-ltb}
use Rattle.loc_io.specs.{Streams.Stream, Meaning.Told, Meaning.holds}
use Rattle.loc_spec_plane.specs.{Covers.cover_sum, Tables.piece_count}
use Rattle.loc_spec_asked.specs.{declared.Index.Index, Orders.AskedOrder, Orders.in_file, Orders.shuffled_from}
use Rattle.loc_spec_text.specs.{Bytes.Text, Bytes.lines, Points.ended}
use Rattle.loc_rings.specs.Values.{Feature}
use Rattle.loc_csvform.specs.Layer.{LayerRead, layer_of}
use Rattle.loc_edges.specs.{Conflicts.has_conflict, Layers.layer_rings}
use Rattle.loc_spec_text.specs.Limits.{most_members, most_pieces, most_text}
use Rattle.loc_batch.specs.PointLines.{is_point_line, point_count}
use Rattle.loc_course.specs.Courses.{Source, Course, reads as reads_from, refuses}
use Rattle.loc_course.specs.Moments.{Moment, IsToldText}
use Rattle.loc_course.specs.Outcomes.{Outcome, refusal, output, exactly, outcome}
use Rattle.loc_course.specs.Sentences.{EndsSo, IsDoing, MakesNone, MayRefuseBehind, NoneFailed, OutSo, Sentences, Steady, WithinSteps, Wrote}
use Rattle.loc_course.proofs.{Streamed.long_or_short, Streamed.seen_steps, Told.it_exactly}
use Rattle.loc_maps.specs.Conflicts.{Accepts, names_conflict}
use Rattle.loc_maps.specs.LineTexts.{layer_fault_text, covers_text, pieces_text}
use Rattle.loc_maps.specs.Located.{edges_of, table_in}
use Rattle.loc_maps.specs.{MapCourses.LayerFile, MapCourses.accepted_course, MapCourses.layer_in, Maps.HasFewPieces}
use Rattle.loc_maps.proofs.Judged.{accepted_all, layer_all, pieces_all}
use Rattle.loc_trapdag.specs.{Orders.order_of, declared.order.OrderFault.OrderFault}
use Rattle.loc_orders.specs.OrderTexts.{order_fault_text}
use Rattle.loc_orders.proofs.Asked.{asked_all}
use Rattle.loc_query.specs.Answered.{output_of, output_within}
use Rattle.loc_query.specs.Headline.{Headline, IsAccepted, IsInOrder, IsOrderTold, edge_count, steps_in}
use Rattle.loc_query.specs.QueryCourses.{asked_layer, points_course, query_course, steps_by}
use Rattle.loc_query.proofs.Rows as rows

-- what holds of refusals, of files that are read, and behind an accepted layer holds of a query
query_all : (P : Course → Type 0) → ((passes : Text → Bool) → P (refuses passes)) → ((s : Source) (next : Text → Course) → ((text : Text) → P (next text)) → P (reads_from s next))
    → (index : Index) (order : AskedOrder) (faces : Bool) (file : LayerFile) (points : Text) → ((layer : List Feature) → P (points_course index faces file.scale points layer)) → P (query_course index order faces file points)
query_all P refused_so reads_so index order faces file points behind = reads_so _ _ (λ text. layer_all P refused_so file.form (layer_of file.form file.scale text) (λ l. asked_layer index order faces file.scale points l)
    (λ l. asked_all P refused_so reads_so order (edge_count l) (λ _. accepted_course file.scale l (points_course index faces file.scale points l))
    (λ _. accepted_all P refused_so file.scale l (points_course index faces file.scale points l) (behind l))))

-- a query makes no file
pub query_makes_none : (index : Index) (order : AskedOrder) (faces : Bool) (file : LayerFile) (points : Text) → MakesNone (query_course index order faces file points)
query_makes_none index order faces file points = query_all MakesNone (λ passes name maker. maker) (λ s next none name maker. none maker.0 name maker.1) index order faces file points (λ layer name maker. maker)

-- and no line of its points is refused
pub query_refuses_behind : (index : Index) (order : AskedOrder) (faces : Bool) (file : LayerFile) (points line : Text) → MayRefuseBehind (query_course index order faces file points) line → line ≡ ended (codes "points: too long")
query_refuses_behind index order faces file points line = query_all (λ c. MayRefuseBehind c line → line ≡ ended (codes "points: too long")) (λ passes by. absurd by) (λ s next is by. is by.0 by.1) index order faces file points here
  where
    here : (layer : List Feature) → MayRefuseBehind (points_course index faces file.scale points layer) line → line ≡ ended (codes "points: too long")
    here layer (inl is) = is
    here layer (inr asked) = absurd (cc asked.1)

-- the text of a named order is too long, or at fault, or an order
abbrev FailsSo : ℕ → Text → Type 0
FailsSo edges text = (most_text < length text) ⊎ ((length text ≤ most_text) × (fault : OrderFault) × (order_of edges text ≡ Err fault))

order_cases : (told : Text → Told) (order : AskedOrder) (edges : ℕ) → IsOrderTold told order
    → IsInOrder told order edges ⊎ ((name text : Text) × (order ≡ in_file name) × (told name ≡ holds text) × FailsSo edges text)
order_cases told (shuffled_from number) edges is_told = inl tt
order_cases told (in_file name) edges is_told = elim (long_or_short most_text is_told.0) [
  | inl long ↦ inr (name, is_told.0, refl, is_told.1, inl long.0)
  | inr short ↦ by_read short.0 (order_of edges is_told.0) refl
]
  where
    by_read : length is_told.0 ≤ most_text → (r : Result (List ℕ) OrderFault) → order_of edges is_told.0 ≡ r
        → IsInOrder told (in_file name) edges ⊎ ((other text : Text) × (in_file name ≡ in_file other) × (told other ≡ holds text) × FailsSo edges text)
    by_read few (Ok order) reads = inl (is_told.0, is_told.1, few, order, reads)
    by_read few (Err fault) reads = inr (name, is_told.0, refl, is_told.1, inr (few, fault, reads))

-- a refusal is no output
not_done : (o by : Outcome) (before : Option Text) (new : Moment) → o ≡ by → (EndsSo by before new None → ⊥) → EndsSo o before new None → ⊥
not_done o by before new is none ends = none (subst (λ (x : Outcome). EndsSo x before new None) is ends)

module _ (told : Text → Told) (index : Index) (order : AskedOrder) (faces : Bool) (file : LayerFile) (points layer text : Text) (is : told file.name ≡ holds layer) (also : told points ≡ holds text) where
  -- where a query was done, its layer is accepted, its order is one of the edges, and its points are not too long
  abbrev WasAccepted : Type 0
  WasAccepted = (features : List Feature) × IsAccepted file layer features × IsInOrder told order (edge_count features) × (length text ≤ most_text)

  accepted : IsOrderTold told order → (before : Option Text) (new : Moment) → EndsSo (outcome told (query_course index order faces file points)) before new None → WasAccepted
  accepted order_told before new ends = elim (long_or_short most_text layer) [
    | inl long ↦ absurd (not_done _ _ before new (rows.layer_long told index order faces file points layer is long.0) (λ e. e) ends)
    | inr short ↦ by_read short.0 (layer_of file.form file.scale layer) refl
  ]
    where
      by_points : (features : List Feature) → IsAccepted file layer features → IsInOrder told order (edge_count features) → WasAccepted
      by_points features a o = elim (long_or_short most_text text) [
        | inl long ↦ absurd (not_done _ _ before new (rows.points_long told index order faces file points layer is features a.within a.reads a.few_pieces o a.apart a.few_covers text also long.0) (λ e. e) ends)
        | inr short ↦ (features, a, o, short.0)
      ]

      by_covers : (features : List Feature) → length layer ≤ most_text → layer_of file.form file.scale layer ≡ Ok features → HasFewPieces features → IsInOrder told order (edge_count features) → Accepts features → WasAccepted
      by_covers features few reads cut o apart = elim (cases_lt most_members (cover_sum (table_in features))) [
        | inl many ↦ absurd (not_done _ _ before new (rows.covers told index order faces file points layer is features few reads cut o apart many) (λ e. e) ends)
        | inr less ↦ by_points features (record { within = few; reads = reads; few_pieces = cut; apart = apart; few_covers = less }) o
      ]

      by_conflict : (features : List Feature) → length layer ≤ most_text → layer_of file.form file.scale layer ≡ Ok features → HasFewPieces features → IsInOrder told order (edge_count features) → (b : Bool) → has_conflict (edges_of features) ≡ b → WasAccepted
      by_conflict features few reads cut o true has = absurd (not_done _ _ before new (rows.conflict told index order faces file points layer is features few reads cut o has) (λ e. e) ends)
      by_conflict features few reads cut o false has = by_covers features few reads cut o (subst (λ (b : Bool). IsTrue (not b)) (sym has) refl)

      by_failure : (features : List Feature) → length layer ≤ most_text → layer_of file.form file.scale layer ≡ Ok features → HasFewPieces features → (name text : Text) → order ≡ in_file name → told name ≡ holds text → FailsSo (edge_count features) text → WasAccepted
      by_failure features few reads cut name text named holds_it (inl long) = absurd (not_done _ _ before new (rows.order_long told index order faces file points layer is features few reads cut name text named holds_it long) (λ e. e) ends)
      by_failure features few reads cut name text named holds_it (inr fails) = absurd (not_done _ _ before new (rows.order_line told index order faces file points layer is features few reads cut name text fails.1 named holds_it fails.0 fails.2) (λ e. e) ends)

      by_order : (features : List Feature) → length layer ≤ most_text → layer_of file.form file.scale layer ≡ Ok features → HasFewPieces features → WasAccepted
      by_order features few reads cut = elim (order_cases told order (edge_count features) order_told) [
        | inl o ↦ by_conflict features few reads cut o (has_conflict (edges_of features)) refl
        | inr fails ↦ by_failure features few reads cut fails.0 fails.1 fails.2 fails.3 fails.4
      ]

      by_read : length layer ≤ most_text → (r : LayerRead) → layer_of file.form file.scale layer ≡ r → WasAccepted
      by_read few (Err fault) reads = absurd (not_done _ _ before new (rows.layer_line told index order faces file points layer is fault few reads) (λ e. e) ends)
      by_read few (Ok features) reads = elim (cases_lt most_pieces (piece_count (layer_rings features))) [
        | inl many ↦ absurd (not_done _ _ before new (rows.pieces told index order faces file points layer is features few reads ((Decides-ltb most_pieces (piece_count (layer_rings features))).1 many)) (λ e. e) ends)
        | inr cut ↦ by_order features few reads cut
      ]

  -- an accepted layer and points that are not too long come to the answers
  comes_to : (features : List Feature) → IsAccepted file layer features → IsInOrder told order (edge_count features) → length text ≤ most_text → outcome told (query_course index order faces file points) ≡ output (exactly (output_of faces file.scale features text))
  comes_to features a o short = rows.answered_all told index order faces file points layer is features a.within a.reads a.few_pieces o a.apart a.few_covers text also short

  steps_within : (k : ℕ) → point_count file.scale (lines text) * steps_in index (layer_of file.form file.scale layer) ≤ k → WithinSteps told (query_course index order faces file points) k
  steps_within k most other few told_so =
      let same : other ≡ layer = subst (λ (t : Told). IsToldText t other) is told_so in
      subst (λ (t : Text). WithinSteps told (layer_in file.form (layer_of file.form file.scale t) (λ l. asked_layer index order faces file.scale points l)) k) (sym same)
      (by_read (layer_of file.form file.scale layer) most)
    where
      by_points : (features : List Feature) → point_count file.scale (lines text) * steps_by index (table_in features) ≤ k → WithinSteps told (points_course index faces file.scale points features) k
      by_points features most taken more seen short told_too are = seen_steps (is_point_line file.scale) (steps_by index (table_in features)) k (told points) text more taken seen also told_too are most

      by_read : (r : LayerRead) → point_count file.scale (lines text) * steps_in index r ≤ k → WithinSteps told (layer_in file.form r (λ l. asked_layer index order faces file.scale points l)) k
      by_read (Err fault) most = tt
      by_read (Ok features) most = pieces_all (λ (c : Course). WithinSteps told c k) (λ passes. tt) features (asked_layer index order faces file.scale points features)
          (asked_all (λ (c : Course). WithinSteps told c k) (λ passes. tt) (λ s next within text few told_so. within text) order (edge_count features)
          (λ _. accepted_course file.scale features (points_course index faces file.scale points features))
          (λ _. accepted_all (λ (c : Course). WithinSteps told c k) (λ passes. tt) file.scale features (points_course index faces file.scale points features) (by_points features most)))

module _ (index : Index) (order : AskedOrder) (faces : Bool) (file : LayerFile) (points : Text) (old new : Moment) (n n' : Stream) (status : ℕ) (s : Sentences (query_course index order faces file points) old new n n' status) where
  none_failed : Steady old.shelf.read_faults new.shelf.read_faults → Steady old.out.faults new.out.faults → NoneFailed (query_course index order faces file points) old new
  none_failed reads out = record { reads = reads; out = out; files = λ name maker. absurd (query_makes_none index order faces file points name maker) }

  memory : status ≡ 5 → (status ≡ 5) × (new.out.written ≡ old.out.written)
  memory five = (five, s.out.memory five)

  grown : (answer : Text) → outcome old.shelf.told (query_course index order faces file points) ≡ output (exactly answer) → status ≡ 0 → Appends old.out.written new.out.written answer
  grown answer is zero =
      let done = subst (λ (o : Outcome). EndsSo o old.out.written new None) is (s.done zero) in
      subst (λ (t : Text). Appends old.out.written new.out.written t) (it_exactly answer done.0 done.1) done.2

  -- a refusal by a line that passes
  refused : (passes : Text → Bool) → outcome old.shelf.told (query_course index order faces file points) ≡ refusal passes → Steady old.shelf.read_faults new.shelf.read_faults
      → ((status ≡ 1) × (new.out.written ≡ old.out.written) × (line : Text) × IsTrue (passes line) × Wrote n n' line) ⊎ ((status ≡ 5) × (new.out.written ≡ old.out.written))
  refused passes is steady = elim (s.refuses passes is steady) [
    | inl one ↦ inl (one.0, subst (λ (o : Outcome). OutSo o old.out.written new.out.written) is s.out.grows, one.1, one.2, one.3)
    | inr five ↦ inr (memory five)
  ]

  -- a refusal by this line
  refused_by : (line : Text) → outcome old.shelf.told (query_course index order faces file points) ≡ refusal (exactly line) → Steady old.shelf.read_faults new.shelf.read_faults
      → ((status ≡ 1) × (new.out.written ≡ old.out.written) × Wrote n n' line) ⊎ ((status ≡ 5) × (new.out.written ≡ old.out.written))
  refused_by line is steady = elim (refused (exactly line) is steady) [
    | inl one ↦ inl (one.0, one.1, subst (λ (t : Text). Wrote n n' t) (it_exactly line one.2 one.3) one.4)
    | inr five ↦ inr five
  ]

  -- what a query answers
  pub headline : Headline index order faces file points old new n n' status
  headline = record {
    done = λ layer text is also order_told zero.
        let a = accepted old.shelf.told index order faces file points layer text is also order_told old.out.written new (s.done zero) in
        (a.0, a.1, a.2, a.3, grown (output_of faces file.scale a.0 text) (comes_to old.shelf.told index order faces file points layer text is also a.0 a.1 a.2 a.3) zero);
    answers = λ layer text features is also a o short reads out.
        let to = comes_to old.shelf.told index order faces file points layer text is also features a o short in
        elim (s.succeeds (subst IsDoing (sym to) tt) (none_failed reads out)) [
          | inl zero ↦ inl (zero, grown (output_of faces file.scale features text) to zero)
          | inr five ↦ inr (memory five)
        ];
    layer_long = λ layer is long steady. refused_by (ended (codes "layer: too long")) (rows.layer_long old.shelf.told index order faces file points layer is long) steady;
    layer_fault = λ layer fault is few reads steady. refused_by (ended (layer_fault_text file.form fault)) (rows.layer_line old.shelf.told index order faces file points layer is fault few reads) steady;
    pieces = λ layer features is few reads many steady. refused_by (ended pieces_text) (rows.pieces old.shelf.told index order faces file points layer is features few reads many) steady;
    order_long = λ layer text name features named is few reads cut holds_it long steady.
        refused_by (ended (codes "order: too long")) (rows.order_long old.shelf.told index order faces file points layer is features few reads cut name text named holds_it long) steady;
    order_fault = λ layer text name features fault named is few reads cut holds_it short faulty steady.
        refused_by (ended (order_fault_text fault)) (rows.order_line old.shelf.told index order faces file points layer is features few reads cut name text fault named holds_it short faulty) steady;
    conflict = λ layer features is few reads cut o has steady. refused (names_conflict file.scale (edges_of features)) (rows.conflict old.shelf.told index order faces file points layer is features few reads cut o has) steady;
    covers = λ layer features is few reads cut o apart many steady. refused_by (ended covers_text) (rows.covers old.shelf.told index order faces file points layer is features few reads cut o apart many) steady;
    points_long = λ layer text features is also a o long reads out.
        elim (s.refuses_partly (output_within most_text faces file.scale features text) (ended (codes "points: too long"))
        (rows.points_long old.shelf.told index order faces file points layer is features a.within a.reads a.few_pieces o a.apart a.few_covers text also long) (none_failed reads out)) [
          | inl one ↦ inl one
          | inr five ↦ inr (memory five)
        ];
    steps = λ layer text is also. s.steps.within _ (steps_within old.shelf.told index order faces file points layer text is also _ (omega arith));
  }
