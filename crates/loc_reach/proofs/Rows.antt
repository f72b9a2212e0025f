-- What the told files of spans come to, as rows: each refusal, and the answers.
use Rattle.std.proofs.Common.{◌≡◌, ◌<◌, ◌≤◌, true, List, length, Ok, Err, ◌∙◌, ap, codes}
use Rattle.std.proofs.{lemmas.Bool.cond-true, lemmas.Bool.Decides.Decides-ltb}
use Rattle.loc_io.specs.Meaning.{Told, holds}
use Rattle.loc_spec_plane.specs.Tables.{piece_count}
use Rattle.loc_spec_text.specs.{Bytes.Text, Points.ended, Limits.most_pieces, Limits.most_text}
use Rattle.loc_rings.specs.Values.{Feature}
use Rattle.loc_csvform.specs.{Layer.LayerRead, Layer.layer_of, declared.faults.LayerFault.LayerFault}
use Rattle.loc_edges.specs.{Conflicts.has_conflict, Layers.layer_rings}
use Rattle.loc_course.specs.{Courses.Source, Courses.Course, Courses.refuses, Stops.source}
use Rattle.loc_course.specs.Outcomes.{Outcome, refusal, output, by_text, exactly, outcome}
use Rattle.loc_course.proofs.Texts.{long, short}
use Rattle.loc_maps.specs.{Conflicts.names_conflict, LineTexts.layer_fault_text, LineTexts.pieces_text}
use Rattle.loc_maps.specs.Located.{edges_of, table_in}
use Rattle.loc_maps.specs.MapCourses.{LayerFile, apart_course, layer_in}
use Rattle.loc_maps.specs.Maps.{HasFewPieces, has_many_pieces}
use Rattle.loc_maps.proofs.Judged.{on_apart, on_few_pieces}
use Rattle.loc_reach.specs.SpanCourses.{answered_course, met_output, spans_course, stab_course}
use Rattle.loc_reach.specs.Stabs.{IsApart}

module _ (told : Text → Told) (file : LayerFile) (spans layer : Text) (is : told file.name ≡ holds layer) where
  abbrev next : List Feature → Course
  next l = apart_course file.scale (edges_of l) (spans_course file.scale (table_in l) spans)

  abbrev behind : LayerRead → Outcome
  behind r = outcome told (layer_in file.form r next)

  abbrev of_layer : Source
  of_layer = source file.name most_text (ended (codes "layer: too long"))

  abbrev of_spans : Source
  of_spans = source spans most_text (ended (codes "spans: too long"))

  pub layer_long : most_text < length layer → outcome told (stab_course file spans) ≡ refusal (exactly (ended (codes "layer: too long")))
  layer_long more = long of_layer (λ text. behind (layer_of file.form file.scale text)) (told file.name) layer is more

  read : length layer ≤ most_text → (r : LayerRead) → layer_of file.form file.scale layer ≡ r → outcome told (stab_course file spans) ≡ behind r
  read few r reads = short of_layer (λ text. behind (layer_of file.form file.scale text)) (told file.name) layer is few ∙ ap behind reads

  pub layer_line : (fault : LayerFault) → length layer ≤ most_text → layer_of file.form file.scale layer ≡ Err fault → outcome told (stab_course file spans) ≡ refusal (exactly (ended (layer_fault_text file.form fault)))
  layer_line fault few reads = read few (Err fault) reads

  module _ (features : List Feature) where
    pub pieces : length layer ≤ most_text → layer_of file.form file.scale layer ≡ Ok features → most_pieces < piece_count (layer_rings features) → outcome told (stab_course file spans) ≡ refusal (exactly (ended pieces_text))
    pieces few reads many = read few (Ok features) reads
        ∙ ap (outcome told) (cond-true (has_many_pieces features) (refuses (exactly (ended pieces_text))) (next features) ((Decides-ltb most_pieces (piece_count (layer_rings features))).1 many))

    pub conflict : length layer ≤ most_text → layer_of file.form file.scale layer ≡ Ok features → HasFewPieces features → has_conflict (edges_of features) ≡ true → outcome told (stab_course file spans) ≡ refusal (names_conflict file.scale (edges_of features))
    conflict few reads few_pieces has = read few (Ok features) reads
        ∙ ap (outcome told) (on_few_pieces features (next features) few_pieces ∙ cond-true (has_conflict (edges_of features)) (refuses (names_conflict file.scale (edges_of features))) (spans_course file.scale (table_in features) spans) has)

    module _ (a : IsApart file layer features) where
      abbrev by_spans : Text → Outcome
      by_spans text = outcome told (answered_course file.scale (table_in features) text)

      apart : outcome told (stab_course file spans) ≡ by_text of_spans by_spans (told spans)
      apart = read a.within (Ok features) a.reads ∙ ap (outcome told) (on_few_pieces features (next features) a.few_pieces ∙ on_apart file.scale (edges_of features) (spans_course file.scale (table_in features) spans) a.apart)

      pub spans_long : (text : Text) → told spans ≡ holds text → most_text < length text → outcome told (stab_course file spans) ≡ refusal (exactly (ended (codes "spans: too long")))
      spans_long text also more = apart ∙ long of_spans by_spans (told spans) text also more

      pub answered : (text : Text) → told spans ≡ holds text → length text ≤ most_text → outcome told (stab_course file spans) ≡ output (exactly (met_output file.scale (table_in features) text))
      answered text also few = apart ∙ short of_spans by_spans (told spans) text also few
