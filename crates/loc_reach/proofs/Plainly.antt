-- The course of the edges on spans writes at once and makes no file.
use Rattle.std.proofs.{Common.ℕ, Common.List, lemmas.Bool.cond_both}
use Rattle.loc_spec_text.specs.Bytes.{Text}
use Rattle.loc_spec_plane.specs.Tables.{Table}
use Rattle.loc_rings.specs.Values.{Feature}
use Rattle.loc_csvform.specs.Layer.{layer_of}
use Rattle.loc_edges.specs.Conflicts.{has_conflict}
use Rattle.loc_course.specs.{Courses.refuses, Outcomes.exactly, Sentences.IsPlain}
use Rattle.loc_course.proofs.Plain.{plain_reads, plain_refuses, plain_searches, plain_writes}
use Rattle.loc_maps.specs.{Conflicts.names_conflict, Located.edges_of, Located.table_in}
use Rattle.loc_maps.specs.MapCourses.{LayerFile, apart_course}
use Rattle.loc_maps.proofs.Judged.{layer_all}
use Rattle.loc_reach.specs.SpanCourses.{met_output, spans_course, stab_course, text_steps}

spans_plain : (scale : ℕ) (t : Table) (spans : Text) → IsPlain (spans_course scale t spans)
spans_plain scale t spans = plain_reads _ _ (λ text. plain_searches (text_steps scale t text) _ (plain_writes (exactly (met_output scale t text))))

apart_plain : (scale : ℕ) (spans : Text) (layer : List Feature) → IsPlain (apart_course scale (edges_of layer) (spans_course scale (table_in layer) spans))
apart_plain scale spans layer =
    let refused = names_conflict scale (edges_of layer) in
    cond_both (has_conflict (edges_of layer)) (refuses refused) (spans_course scale (table_in layer) spans) IsPlain (λ _. plain_refuses refused) (λ _. spans_plain scale (table_in layer) spans)

pub stab_plain : (file : LayerFile) (spans : Text) → IsPlain (stab_course file spans)
stab_plain file spans = plain_reads _ _ (λ text. layer_all IsPlain plain_refuses file.form (layer_of file.form file.scale text) (λ l. apart_course file.scale (edges_of l) (spans_course file.scale (table_in l) spans))
    (apart_plain file.scale spans))
