-- What `dissolve` answers, by what its told file comes to.
use Rattle.std.proofs.Common.{◌≡◌, ℕ, ◌≤◌, Bool, true, false, List, length, Option, None, Ok, Err, refl, sym, subst, inl, inr}
use Rattle.std.specs.Prelude.{IsTrue, codes, not}
use Rattle.std.proofs.lemmas.Bool.{cases_lt}
use Rattle.loc_io.specs.{Meaning.Told, Meaning.holds, Streams.Stream}
use Rattle.loc_spec_plane.specs.{Covers.cover_sum, Tables.piece_count}
use Rattle.loc_spec_text.specs.{Bytes.Text, Points.ended, Limits.most_members, Limits.most_pieces, Limits.most_text}
use Rattle.loc_rings.specs.Values.{Feature}
use Rattle.loc_csvform.specs.Layer.{LayerRead, layer_of}
use Rattle.loc_edges.specs.{Conflicts.has_conflict, Layers.layer_rings}
use Rattle.loc_course.specs.{Moments.Moment, Outcomes.outcome, Sentences.EndsSo, Sentences.Sentences}
use Rattle.loc_course.proofs.Streamed.{long_or_short}
use Rattle.loc_maps.specs.Conflicts.{Accepts, names_conflict}
use Rattle.loc_maps.specs.LineTexts.{covers_text, layer_fault_text, pieces_text}
use Rattle.loc_maps.specs.{Located.edges_of, Located.table_in, MapCourses.LayerFile, Maps.HasFewPieces}
use Rattle.loc_query.specs.Headline.{IsAccepted}
use Rattle.loc_told.proofs.Ends.{done_by, grown, not_done, refused_by, refused_so}
use Rattle.loc_groups.specs.{Dissolves.Dissolves, GroupCourses.dissolve_course, GroupCourses.groups_text}
use Rattle.loc_groups.proofs.{Plainly.dissolve_plain, ReadBack.are_dissolved}
use Rattle.loc_groups.proofs.Rows as rows

-- where the command was done, its layer is accepted
module _ (told : Text → Told) (file : LayerFile) (layer : Text) (is : told file.name ≡ holds layer) (before : Option Text) (new : Moment) (ends : EndsSo (outcome told (dissolve_course file)) before new None) where
  abbrev WasAccepted : Type 0
  WasAccepted = (features : List Feature) × IsAccepted file layer features

  by_covers : (features : List Feature) → length layer ≤ most_text → layer_of file.form file.scale layer ≡ Ok features → HasFewPieces features → Accepts features → WasAccepted
  by_covers features few reads cut apart = elim (cases_lt most_members (cover_sum (table_in features))) [
    | inl many ↦ absurd (not_done _ _ before new (rows.covers told file layer is features few reads cut apart many) ends)
    | inr less ↦ (features, record { within = few; reads = reads; few_pieces = cut; apart = apart; few_covers = less })
  ]

  by_conflict : (features : List Feature) → length layer ≤ most_text → layer_of file.form file.scale layer ≡ Ok features → HasFewPieces features → (b : Bool) → has_conflict (edges_of features) ≡ b → WasAccepted
  by_conflict features few reads cut true has = absurd (not_done _ _ before new (rows.conflict told file layer is features few reads cut has) ends)
  by_conflict features few reads cut false has = by_covers features few reads cut (subst (λ (b : Bool). IsTrue (not b)) (sym has) refl)

  by_read : length layer ≤ most_text → (r : LayerRead) → layer_of file.form file.scale layer ≡ r → WasAccepted
  by_read few (Err fault) reads = absurd (not_done _ _ before new (rows.layer_line told file layer is fault few reads) ends)
  by_read few (Ok features) reads = elim (cases_lt most_pieces (piece_count (layer_rings features))) [
    | inl many ↦ absurd (not_done _ _ before new (rows.pieces told file layer is features few reads many) ends)
    | inr cut ↦ by_conflict features few reads cut (has_conflict (edges_of features)) refl
  ]

  accepted : WasAccepted
  accepted = elim (long_or_short most_text layer) [
    | inl long ↦ absurd (not_done _ _ before new (rows.layer_long told file layer is long.0) ends)
    | inr short ↦ by_read short.0 (layer_of file.form file.scale layer) refl
  ]

-- what the command answers
pub dissolves : (file : LayerFile) (old new : Moment) (n n' : Stream) (status : ℕ) → Sentences (dissolve_course file) old new n n' status → Dissolves file old new n n' status
dissolves file old new n n' status s =
    let told = old.shelf.told in
    let plain = dissolve_plain file in
    record {
      done = λ layer is zero.
          let a = accepted told file layer is old.out.written new (s.done zero) in
          (a.0, a.1, grown (dissolve_course file) plain.makes_none old new n n' status s (groups_text file.scale a.0) (rows.written told file layer is a.0 a.1) zero);
      answers = λ layer features is a reads out. done_by (dissolve_course file) plain.makes_none old new n n' status s (groups_text file.scale features) (rows.written told file layer is features a) reads out;
      groups = λ layer features a. are_dissolved file layer features a;
      layer_long = λ layer is long steady. refused_by (dissolve_course file) plain.makes_none old new n n' status s (ended (codes "layer: too long")) (rows.layer_long told file layer is long) steady;
      layer_fault = λ layer fault is few reads steady. refused_by (dissolve_course file) plain.makes_none old new n n' status s (ended (layer_fault_text file.form fault)) (rows.layer_line told file layer is fault few reads) steady;
      pieces = λ layer features is few reads many steady. refused_by (dissolve_course file) plain.makes_none old new n n' status s (ended pieces_text) (rows.pieces told file layer is features few reads many) steady;
      conflict = λ layer features is few reads cut has steady. refused_so (dissolve_course file) plain.makes_none old new n n' status s (names_conflict file.scale (edges_of features)) (rows.conflict told file layer is features few reads cut has) steady;
      covers = λ layer features is few reads cut apart many steady. refused_by (dissolve_course file) plain.makes_none old new n n' status s (ended covers_text) (rows.covers told file layer is features few reads cut apart many) steady;
    }
