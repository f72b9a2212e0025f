-- What the told files of a build come to, and what it leaves.
use Rattle.std.proofs.Common.{◌≡◌, ◌⊎◌, ℕ, ◌<◌, ◌≤◌, Bool, true, List, length, Option, Ok, Err, ◌∙◌, ap, subst, inl, inr, arith}
use Rattle.std.specs.Prelude.{IsTrue, codes, nat_lt}
use Rattle.std.proofs.lemmas.Bool.{cond-true, cond-false, le-ltb}
use Rattle.std.proofs.lemmas.Bool.Decides.{Decides-ltb}
use Rattle.loc_spec_text.specs.{Bytes.Text, Points.ended, Limits.most_members, Limits.most_text}
use Rattle.loc_io.specs.{Meaning.Told, Meaning.holds, Streams.Stream}
use Rattle.loc_spec_plane.specs.Covers.{cover_sum}
use Rattle.loc_rings.specs.Values.{Feature}
use Rattle.loc_csvform.specs.Layer.{LayerRead, layer_of}
use Rattle.loc_edges.specs.Conflicts.{has_conflict}
use Rattle.loc_course.specs.Courses.{Source, Course, makes, refuses, Stopped}
use Rattle.loc_course.specs.{Endings.AtEnd, Moments.IsToldText, Moments.Moment, Stops.source}
use Rattle.loc_course.specs.Outcomes.{Outcome, by_text, exactly, file, outcome, refusal}
use Rattle.loc_course.specs.Sentences.{EndsSo, Ended, Sentences, Steady, Wrote, status_of}
use Rattle.loc_course.proofs.{Endings.at_cut, Statuses.ended_so, Statuses.rose_not, Statuses.succeeds_case}
use Rattle.loc_course.proofs.Told.{ends_so, it_exactly}
use Rattle.loc_maps.specs.Conflicts.{Accepts, names_conflict}
use Rattle.loc_maps.specs.LineTexts.{layer_fault_text, covers_text, pieces_text}
use Rattle.loc_maps.specs.Located.{edges_of, table_in}
use Rattle.loc_maps.specs.MapCourses.{LayerFile, accepted_course, covers_course, layer_in}
use Rattle.loc_maps.specs.Maps.{HasFewPieces, has_many_covers, has_many_pieces}
use Rattle.loc_maps.proofs.Judged.{on_apart, on_few_covers, on_few_pieces}
use Rattle.loc_query.specs.Headline.{IsAccepted}
use Rattle.loc_indexed.specs.{Asks.OrMemory, Building.build_course, Building.is_index_text}
use Rattle.loc_indexed.specs.Builds.{Builds, Built, IsBuiltOf}
use Rattle.loc_indexed.proofs.MadeCourses.{AcceptedSo, came, makes_one, out_kept}

module _ (told : Text → Told) (f : LayerFile) (index text : Text) (is : told f.name ≡ holds text) where
  abbrev next : List Feature → Course
  next layer = makes index (is_index_text f.scale layer)

  abbrev of_layer : Source
  of_layer = source f.name most_text (ended (codes "layer: too long"))

  abbrev by_layer : Text → Outcome
  by_layer t = outcome told (layer_in f.form (layer_of f.form f.scale t) (λ layer. accepted_course f.scale layer (next layer)))

  layer_long : most_text < length text → outcome told (build_course f index) ≡ refusal (exactly (ended (codes "layer: too long")))
  layer_long more = ap (by_text of_layer by_layer) is ∙ cond-true (nat_lt most_text (length text)) (refusal (exactly of_layer.too_long)) (by_layer text) ((Decides-ltb most_text (length text)).1 more)

  layer_read : length text ≤ most_text → (r : LayerRead) → layer_of f.form f.scale text ≡ r → outcome told (build_course f index) ≡ outcome told (layer_in f.form r (λ layer. accepted_course f.scale layer (next layer)))
  layer_read few r reads = ap (by_text of_layer by_layer) is
      ∙ (cond-false (nat_lt most_text (length text)) (refusal (exactly of_layer.too_long)) (by_layer text) (le-ltb most_text (length text) few)
      ∙ ap (λ (q : LayerRead). outcome told (layer_in f.form q (λ layer. accepted_course f.scale layer (next layer)))) reads)

  module _ (layer : List Feature) (few : length text ≤ most_text) (reads : layer_of f.form f.scale text ≡ Ok layer) where
    pieces : has_many_pieces layer ≡ true → outcome told (build_course f index) ≡ refusal (exactly (ended pieces_text))
    pieces many = layer_read few (Ok layer) reads ∙ ap (outcome told) (cond-true (has_many_pieces layer) (refuses (exactly (ended pieces_text))) (accepted_course f.scale layer (next layer)) many)

    -- a layer whose pieces are few
    cut : HasFewPieces layer → outcome told (build_course f index) ≡ outcome told (accepted_course f.scale layer (next layer))
    cut few_pieces = layer_read few (Ok layer) reads ∙ ap (outcome told) (on_few_pieces layer (accepted_course f.scale layer (next layer)) few_pieces)

    conflict : HasFewPieces layer → has_conflict (edges_of layer) ≡ true → outcome told (build_course f index) ≡ refusal (names_conflict f.scale (edges_of layer))
    conflict few_pieces has = cut few_pieces
        ∙ ap (outcome told) (cond-true (has_conflict (edges_of layer)) (refuses (names_conflict f.scale (edges_of layer))) (covers_course (table_in layer) (next layer)) has)

    covers : HasFewPieces layer → Accepts layer → most_members < cover_sum (table_in layer) → outcome told (build_course f index) ≡ refusal (exactly (ended covers_text))
    covers few_pieces apart many = cut few_pieces
        ∙ (ap (outcome told) (on_apart f.scale (edges_of layer) (covers_course (table_in layer) (next layer)) apart)
        ∙ ap (outcome told) (cond-true (has_many_covers (table_in layer)) (refuses (exactly (ended covers_text))) (next layer) ((Decides-ltb most_members (cover_sum (table_in layer))).1 many)))

    accepted : HasFewPieces layer → Accepts layer → cover_sum (table_in layer) ≤ most_members → outcome told (build_course f index) ≡ file index (is_index_text f.scale layer)
    accepted few_pieces apart few_covers = cut few_pieces
        ∙ (ap (outcome told) (on_apart f.scale (edges_of layer) (covers_course (table_in layer) (next layer)) apart)
        ∙ ap (outcome told) (on_few_covers (table_in layer) (next layer) few_covers))

module _ (f : LayerFile) (index : Text) (old new : Moment) (n n' : Stream) (status : ℕ) (e : Ended (build_course f index) old new n n' status) where
  abbrev s : Sentences (build_course f index) old new n n' status
  s = ended_so e

  memory : status ≡ 5 → (status ≡ 5) × (new.out.written ≡ old.out.written)
  memory five = (five, s.out.memory five)

  -- a refusal by a line that passes, and by this line
  refused_so : (passes : Text → Bool) → outcome old.shelf.told (build_course f index) ≡ refusal passes → Steady old.shelf.read_faults new.shelf.read_faults
      → OrMemory old new status ((status ≡ 1) × (line : Text) × IsTrue (passes line) × Wrote n n' line)
  refused_so passes is steady = elim (s.refuses passes is steady) [
    | inl one ↦ inl one
    | inr five ↦ inr (memory five)
  ]

  refused_by : (line : Text) → outcome old.shelf.told (build_course f index) ≡ refusal (exactly line) → Steady old.shelf.read_faults new.shelf.read_faults → OrMemory old new status ((status ≡ 1) × Wrote n n' line)
  refused_by line is steady = elim (s.refuses (exactly line) is steady) [
    | inl one ↦ inl (one.0, subst (λ (t : Text). Wrote n n' t) (it_exactly line one.1 one.2) one.3)
    | inr five ↦ inr (memory five)
  ]

  -- an accepted layer ends with status 0, unless a read or a write failed
  by_end : (end : Option Stopped) → AtEnd (AcceptedSo (is_index_text f.scale) f index old.shelf new.shelf) end → (passes : Text → Bool) → EndsSo (file index passes) old.out.written new end
      → (status_of end ≡ 3 → ⊥) → Steady old.shelf.write_faults new.shelf.write_faults → (status_of end ≡ 0) ⊎ (status_of end ≡ 5)
  by_end end at passes ends no_read writes =
      let no_write : status_of end ≡ 4 → ⊥ = λ four. rose_not old.shelf.write_faults new.shelf.write_faults (at_cut (AcceptedSo (is_index_text f.scale) f index old.shelf new.shelf) end at four).made.counts writes in
      succeeds_case old new (file index passes) end ends no_read no_write tt

  builds_all : (text : Text) (layer : List Feature) → old.shelf.told f.name ≡ holds text → IsAccepted f text layer → Steady old.shelf.read_faults new.shelf.read_faults → Steady old.shelf.write_faults new.shelf.write_faults
      → OrMemory old new status (status ≡ 0)
  builds_all text layer is a reads writes =
      let to = accepted old.shelf.told f index text is layer a.within a.reads a.few_pieces a.apart a.few_covers in
      let no_read : status_of e.end ≡ 3 → ⊥ = λ three. (let rose = (s.reads_fail reads.0).0 (e.status_is ∙ three) in omega (arith, rose, reads.1)) in
      let end = by_end e.end (came (is_index_text f.scale) f index e.follows) (is_index_text f.scale layer)
      (subst (λ (o : Outcome). EndsSo o old.out.written new e.end) to (ends_so e.follows)) no_read writes in
      elim end [
        | inl zero ↦ inl (e.status_is ∙ zero)
        | inr five ↦ inr (memory (e.status_is ∙ five))
      ]

  -- what was told of the layer is its text
  told_text : (text : Text) (other : Text) → old.shelf.told f.name ≡ holds text → IsToldText (old.shelf.told f.name) other → other ≡ text
  told_text text other is told = subst (λ (t : Told). IsToldText t other) is told

  pub builds : Built f index old.shelf new.shelf status → Builds f index old new n n' status
  builds built = record {
    made = λ text is zero. (let d = built.done zero in (d.1, subst (λ (t : Text). IsBuiltOf f t d.1) (told_text text d.0 is d.2) d.3, d.4));
    cut = λ text is four. elim (built.cut four) [
      | inl same ↦ inl same
      | inr d ↦ inr (d.1, subst (λ (t : Text). IsBuiltOf f t d.1) (told_text text d.0 is d.2) d.3, d.4)
    ];
    builds = builds_all;
    layer_long = λ text is long steady. refused_by (ended (codes "layer: too long")) (layer_long old.shelf.told f index text is long) steady;
    layer_fault = λ text fault is few reads steady. refused_by (ended (layer_fault_text f.form fault)) (layer_read old.shelf.told f index text is few (Err fault) reads) steady;
    pieces = λ text layer is few reads many steady. refused_by (ended pieces_text) (pieces old.shelf.told f index text is layer few reads many) steady;
    conflict = λ text layer is few reads few_pieces has steady. refused_so (names_conflict f.scale (edges_of layer)) (conflict old.shelf.told f index text is layer few reads few_pieces has) steady;
    covers = λ text layer is few reads few_pieces apart many steady. refused_by (ended covers_text) (covers old.shelf.told f index text is layer few reads few_pieces apart many) steady;
    out = out_kept (is_index_text f.scale) f index e.follows;
    kept = s.files.kept;
    others = λ name differ. s.files.others name (makes_one (is_index_text f.scale) f index name differ);
  }
