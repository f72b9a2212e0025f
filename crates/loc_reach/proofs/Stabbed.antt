-- What `stab` answers, by what the told files come to.
use Rattle.std.proofs.Common.{◌≡◌, ℕ, ◌+◌, ◌≤◌, Bool, true, false, List, length, Option, None, Ok, Err, refl, sym, subst, inl, inr, arith}
use Rattle.std.specs.{Prelude.IsTrue, Prelude.codes, Prelude.not, Io.KnownBytes.Appends}
use Rattle.std.proofs.lemmas.Bool.{cases_lt, cond_both}
use Rattle.loc_io.specs.{Streams.Stream, Meaning.Told, Meaning.holds}
use Rattle.loc_spec_plane.specs.Tables.{piece_count}
use Rattle.loc_spec_text.specs.{Bytes.Text, Points.ended, Limits.most_pieces, Limits.most_text}
use Rattle.loc_rings.specs.Values.{Feature}
use Rattle.loc_csvform.specs.Layer.{LayerRead, layer_of}
use Rattle.loc_edges.specs.{Conflicts.has_conflict, Layers.layer_rings}
use Rattle.loc_maps.specs.{Maps.HasFewPieces, Conflicts.names_conflict}
use Rattle.loc_maps.proofs.Judged.{pieces_all}
use Rattle.loc_course.specs.{Courses.Course, Courses.refuses, Moments.Moment, Moments.IsToldText}
use Rattle.loc_course.specs.Outcomes.{Outcome, refusal, output, exactly, outcome}
use Rattle.loc_course.specs.Sentences.{EndsSo, IsDoing, NoneFailed, OutSo, Sentences, Steady, WithinSteps}
use Rattle.loc_course.proofs.{Streamed.long_or_short, Told.it_exactly}
use Rattle.loc_maps.specs.{LineTexts.layer_fault_text, LineTexts.pieces_text, Located.edges_of, Located.table_in}
use Rattle.loc_maps.specs.MapCourses.{LayerFile, apart_course, layer_in}
use Rattle.loc_reach.specs.SpanCourses.{met_output, spans_course, stab_course, text_steps}
use Rattle.loc_reach.specs.Stabs.{IsApart, IsRefused, OrMemory, Stabs}
use Rattle.loc_reach.proofs.Plainly.{stab_plain}
use Rattle.loc_reach.proofs.Rows as rows

-- a refusal is no output
not_done : (o by : Outcome) (before : Option Text) (new : Moment) → o ≡ by → (EndsSo by before new None → ⊥) → EndsSo o before new None → ⊥
not_done o by before new is none ends = none (subst (λ (x : Outcome). EndsSo x before new None) is ends)

module _ (told : Text → Told) (file : LayerFile) (spans layer text : Text) (is : told file.name ≡ holds layer) (also : told spans ≡ holds text) where
  -- where the command was done, no edges of its layer conflict, and its spans are not too long
  abbrev WasApart : Type 0
  WasApart = (features : List Feature) × IsApart file layer features × (length text ≤ most_text)

  was_apart : (before : Option Text) (new : Moment) → EndsSo (outcome told (stab_course file spans)) before new None → WasApart
  was_apart before new ends = elim (long_or_short most_text layer) [
    | inl long ↦ absurd (not_done _ _ before new (rows.layer_long told file spans layer is long.0) (λ e. e) ends)
    | inr short ↦ by_read short.0 (layer_of file.form file.scale layer) refl
  ]
    where
      by_spans : (features : List Feature) → IsApart file layer features → WasApart
      by_spans features a = elim (long_or_short most_text text) [
        | inl long ↦ absurd (not_done _ _ before new (rows.spans_long told file spans layer is features a text also long.0) (λ e. e) ends)
        | inr short ↦ (features, a, short.0)
      ]

      by_conflict : (features : List Feature) → length layer ≤ most_text → layer_of file.form file.scale layer ≡ Ok features → HasFewPieces features → (b : Bool) → has_conflict (edges_of features) ≡ b → WasApart
      by_conflict features few reads pieces true has = absurd (not_done _ _ before new (rows.conflict told file spans layer is features few reads pieces has) (λ e. e) ends)
      by_conflict features few reads pieces false has = by_spans features (record { within = few; reads = reads; few_pieces = pieces; apart = subst (λ (b : Bool). IsTrue (not b)) (sym has) refl })

      by_read : length layer ≤ most_text → (r : LayerRead) → layer_of file.form file.scale layer ≡ r → WasApart
      by_read few (Err fault) reads = absurd (not_done _ _ before new (rows.layer_line told file spans layer is fault few reads) (λ e. e) ends)
      by_read few (Ok features) reads = elim (cases_lt most_pieces (piece_count (layer_rings features))) [
        | inl many ↦ absurd (not_done _ _ before new (rows.pieces told file spans layer is features few reads many) (λ e. e) ends)
        | inr less ↦ by_conflict features few reads less (has_conflict (edges_of features)) refl
      ]

  -- the steps of the lines together
  steps_within : (features : List Feature) → layer_of file.form file.scale layer ≡ Ok features → WithinSteps told (stab_course file spans) (text_steps file.scale (table_in features) text)
  steps_within features reads other few told_so =
      let same : other ≡ layer = subst (λ (t : Told). IsToldText t other) is told_so in
      let most = text_steps file.scale (table_in features) text in
      subst (λ (t : Text). WithinSteps told (layer_in file.form (layer_of file.form file.scale t) (λ l. apart_course file.scale (edges_of l) (spans_course file.scale (table_in l) spans))) most) (sym same)
      (subst (λ (r : LayerRead). WithinSteps told (layer_in file.form r (λ l. apart_course file.scale (edges_of l) (spans_course file.scale (table_in l) spans))) most) (sym reads)
      (pieces_all (λ (c : Course). WithinSteps told c most) (λ passes. tt) features (apart_course file.scale (edges_of features) (spans_course file.scale (table_in features) spans))
      (cond_both (has_conflict (edges_of features)) (refuses (names_conflict file.scale (edges_of features))) (spans_course file.scale (table_in features) spans) (λ (c : Course). WithinSteps told c most) (λ _. tt) (λ _. by_spans))))
    where
      by_spans : WithinSteps told (spans_course file.scale (table_in features) spans) (text_steps file.scale (table_in features) text)
      by_spans more short told_too =
          let same : more ≡ text = subst (λ (t : Told). IsToldText t more) also told_too in
          (0, subst (λ (t : Text). text_steps file.scale (table_in features) t + 0 ≤ text_steps file.scale (table_in features) text) (sym same) (omega arith), tt)

module _ (file : LayerFile) (spans : Text) (old new : Moment) (n n' : Stream) (status : ℕ) (s : Sentences (stab_course file spans) old new n n' status) where
  none_failed : Steady old.shelf.read_faults new.shelf.read_faults → Steady old.out.faults new.out.faults → NoneFailed (stab_course file spans) old new
  none_failed reads out = record { reads = reads; out = out; files = λ name maker. absurd ((stab_plain file spans).makes_none name maker) }

  memory : status ≡ 5 → (status ≡ 5) × (new.out.written ≡ old.out.written)
  memory five = (five, s.out.memory five)

  grown : (answer : Text) → outcome old.shelf.told (stab_course file spans) ≡ output (exactly answer) → status ≡ 0 → Appends old.out.written new.out.written answer
  grown answer is zero =
      let done = subst (λ (o : Outcome). EndsSo o old.out.written new None) is (s.done zero) in
      subst (λ (t : Text). Appends old.out.written new.out.written t) (it_exactly answer done.0 done.1) done.2

  -- a refusal by a line that passes
  refused : (passes : Text → Bool) → outcome old.shelf.told (stab_course file spans) ≡ refusal passes → Steady old.shelf.read_faults new.shelf.read_faults
      → OrMemory old new status ((line : Text) × IsTrue (passes line) × IsRefused old new n n' status line)
  refused passes is steady = elim (s.refuses passes is steady) [
    | inl one ↦ inl (one.1, one.2, (one.0, subst (λ (o : Outcome). OutSo o old.out.written new.out.written) is s.out.grows, one.3))
    | inr five ↦ inr (memory five)
  ]

  -- a refusal by this line
  refused_by : (line : Text) → outcome old.shelf.told (stab_course file spans) ≡ refusal (exactly line) → Steady old.shelf.read_faults new.shelf.read_faults → OrMemory old new status (IsRefused old new n n' status line)
  refused_by line is steady = elim (refused (exactly line) is steady) [
    | inl one ↦ inl (subst (λ (t : Text). IsRefused old new n n' status t) (it_exactly line one.0 one.1) one.2)
    | inr five ↦ inr five
  ]

  -- what the command answers
  pub stabs : Stabs file spans old new n n' status
  stabs = record {
    done = λ layer text is also zero.
        let a = was_apart old.shelf.told file spans layer text is also old.out.written new (s.done zero) in
        (a.0, a.1, a.2, grown (met_output file.scale (table_in a.0) text) (rows.answered old.shelf.told file spans layer is a.0 a.1 text also a.2) zero);
    answers = λ layer text features is also a short reads out.
        let to = rows.answered old.shelf.told file spans layer is features a text also short in
        elim (s.succeeds (subst IsDoing (sym to) tt) (none_failed reads out)) [
          | inl zero ↦ inl (zero, grown (met_output file.scale (table_in features) text) to zero)
          | inr five ↦ inr (memory five)
        ];
    layer_long = λ layer is long steady. refused_by (ended (codes "layer: too long")) (rows.layer_long old.shelf.told file spans layer is long) steady;
    layer_fault = λ layer fault is few reads steady. refused_by (ended (layer_fault_text file.form fault)) (rows.layer_line old.shelf.told file spans layer is fault few reads) steady;
    pieces = λ layer features is few reads many steady. refused_by (ended pieces_text) (rows.pieces old.shelf.told file spans layer is features few reads many) steady;
    conflict = λ layer features is few reads pieces has steady. refused (names_conflict file.scale (edges_of features)) (rows.conflict old.shelf.told file spans layer is features few reads pieces has) steady;
    spans_long = λ layer text features is also a long steady. refused_by (ended (codes "spans: too long")) (rows.spans_long old.shelf.told file spans layer is features a text also long) steady;
    steps = λ layer text features is also reads. s.steps.within _ (steps_within old.shelf.told file spans layer text is also features reads);
  }
