-- What `valid` answers, by what its told file comes to.
use Rattle.std.proofs.Common.{◌≡◌, ℕ, zero, suc, List, [], ◌∷◌, Option, Some, None, refl, ◌∙◌, ap, inl, inr, arith}
use Rattle.std.specs.{Prelude.All, Prelude.IsTrue, Prelude.codes, Io.KnownBytes.Appends}
use Rattle.std.proofs.lemmas.List.Elements.{All-cons}
use Rattle.loc_io.specs.{Meaning.Told, Meaning.holds, Streams.Stream}
use Rattle.loc_spec_text.specs.{Bytes.Text, Bytes.or_else, Points.ended}
use Rattle.loc_rings.specs.Values.{Feature}
use Rattle.loc_course.specs.{Moments.Moment, Outcomes.outcome, Sentences.EndsSo, Sentences.Sentences}
use Rattle.loc_maps.specs.LineTexts.{covers_text, layer_fault_text, pieces_text}
use Rattle.loc_maps.specs.MapCourses.{IsRead, LayerFile}
use Rattle.loc_maps.proofs.ReadRows.{layer_line, layer_long, was_read}
use Rattle.loc_told.specs.Answers.{OrMemory}
use Rattle.loc_told.proofs.Ends.{done_so, grown_so, not_done, refused_by}
use Rattle.loc_breaches.specs.BreachCourses.{AreLines, are_lines, first_refusal, judged_course, refusal_of, valid_course}
use Rattle.loc_breaches.specs.Judges.{IsFirst, IsJudged, Judges}
use Rattle.loc_breaches.proofs.{LineLists.passes_lines, Plainly.valid_plain}
use Rattle.loc_breaches.proofs.Refusals.{covers_refused, few_covers, few_pieces, not_refused, pieces_refused, refused_first}
use Rattle.loc_breaches.proofs.Rows as rows

-- ---- features that are judged
own_none : (own rest : Option Text) → or_else own rest ≡ None → (own ≡ None) × (rest ≡ None)
own_none None rest none = (refl, none)
own_none (Some line) rest none = absurd (cc none)

all_judged : (fs : List Feature) → first_refusal fs ≡ None → All IsJudged fs
all_judged [] none = λ k d lt. absurd (omega (arith, lt))
all_judged (f ∷ fs) none =
    let two = own_none (refusal_of f.polygons) (first_refusal fs) none in
    All-cons IsJudged f fs (record { few_pieces = few_pieces f.polygons two.0; few_covers = few_covers f.polygons two.0 }) (all_judged fs two.1)

none_refused : (fs : List Feature) → All IsJudged fs → first_refusal fs ≡ None
none_refused [] judged = refl
none_refused (f ∷ fs) judged =
    let own = judged zero f (omega arith) in
    ap (λ (o : Option Text). or_else o (first_refusal fs)) (not_refused f.polygons own.few_pieces own.few_covers) ∙ none_refused fs (λ k d lt. judged (suc k) d (omega (arith, lt)))

-- the first feature that is not judged
first_is : (features : List Feature) (feature : Feature) (line : Text) → IsFirst features feature → refusal_of feature.polygons ≡ Some line → first_refusal features ≡ Some line
first_is features feature line first is = ap first_refusal first.stands ∙ refused_first first.before first.behind feature line (none_refused first.before first.judged) is

-- ---- where the command was done, its layer reads and each feature is judged
module _ (told : Text → Told) (file : LayerFile) (layer : Text) (is : told file.name ≡ holds layer) (before : Option Text) (new : Moment) (ends : EndsSo (outcome told (valid_course file)) before new None) where
  abbrev WasJudged : Type 0
  WasJudged = (features : List Feature) × IsRead file layer features × (first_refusal features ≡ None)

  by_first : (features : List Feature) → IsRead file layer features → (first : Option Text) → first_refusal features ≡ first → WasJudged
  by_first features r None none = (features, r, none)
  by_first features r (Some line) first = absurd (not_done _ _ before new (rows.refused_so told file layer is features r line first) ends)

  was_judged : WasJudged
  was_judged =
      let read = was_read told file (judged_course file.scale) layer is before new ends in
      by_first read.0 read.1 (first_refusal read.0) refl

module _ (file : LayerFile) (old new : Moment) (n n' : Stream) (status : ℕ) (s : Sentences (valid_course file) old new n n' status) where
  -- lines that passed
  abbrev HasLines : List Feature → Type 0
  HasLines features = (text : Text) × AreLines file.scale features text × Appends old.out.written new.out.written text

  lines_of : (features : List Feature) → (text : Text) × IsTrue (are_lines file.scale features text) × Appends old.out.written new.out.written text → HasLines features
  lines_of features (text, passes, grown) = (text, passes_lines file.scale features text passes, grown)

  answered : (features : List Feature) → OrMemory old new status ((status ≡ 0) × ((text : Text) × IsTrue (are_lines file.scale features text) × Appends old.out.written new.out.written text)) → OrMemory old new status ((status ≡ 0) × HasLines features)
  answered features (inl done) = inl (done.0, lines_of features done.1)
  answered features (inr five) = inr five

  -- what the command answers
  pub judges : Judges file old new n n' status
  judges =
      let told = old.shelf.told in
      let course = valid_course file in
      let plain = valid_plain file in
      record {
        done = λ layer is zero.
            let a = was_judged told file layer is old.out.written new (s.done zero) in
            (a.0, a.1, all_judged a.0 a.2, lines_of a.0 (grown_so course plain.makes_none old new n n' status s (are_lines file.scale a.0) (rows.written told file layer is a.0 a.1 a.2) zero));
        answers = λ layer features is r judged reads out.
            answered features (done_so course plain.makes_none old new n n' status s (are_lines file.scale features) (rows.written told file layer is features r (none_refused features judged)) reads out);
        layer_long = λ layer is long steady. refused_by course plain.makes_none old new n n' status s (ended (codes "layer: too long")) (layer_long told file (judged_course file.scale) layer is long) steady;
        layer_fault = λ layer fault is few reads steady. refused_by course plain.makes_none old new n n' status s (ended (layer_fault_text file.form fault)) (layer_line told file (judged_course file.scale) layer is fault few reads) steady;
        pieces = λ layer features feature is r first many steady.
            refused_by course plain.makes_none old new n n' status s (ended pieces_text) (rows.refused_so told file layer is features r pieces_text (first_is features feature pieces_text first (pieces_refused feature.polygons many))) steady;
        covers = λ layer features feature is r first many steady.
            refused_by course plain.makes_none old new n n' status s (ended covers_text) (rows.refused_so told file layer is features r covers_text (first_is features feature covers_text first (covers_refused feature.polygons many))) steady;
      }
