-- What the told file of a layer to be dissolved comes to, as rows: each refusal, and the groups.
use Rattle.std.proofs.Common.{◌≡◌, ◌<◌, ◌≤◌, true, List, length, Ok, Err, ◌∙◌, ap, codes}
use Rattle.std.proofs.{lemmas.Bool.cond-true, lemmas.Bool.Decides.Decides-ltb}
use Rattle.loc_io.specs.Meaning.{Told, holds}
use Rattle.loc_spec_plane.specs.{Covers.cover_sum, Tables.piece_count}
use Rattle.loc_spec_text.specs.{Bytes.Text, Points.ended, Limits.most_members, Limits.most_pieces, Limits.most_text}
use Rattle.loc_rings.specs.Values.{Feature}
use Rattle.loc_csvform.specs.{Layer.LayerRead, Layer.layer_of, declared.faults.LayerFault.LayerFault}
use Rattle.loc_edges.specs.{Conflicts.has_conflict, Layers.layer_rings}
use Rattle.loc_course.specs.Courses.{Course, Source, refuses, writes}
use Rattle.loc_course.specs.Outcomes.{Outcome, exactly, outcome, output, refusal}
use Rattle.loc_course.specs.Stops.{source}
use Rattle.loc_maps.specs.Conflicts.{Accepts, names_conflict}
use Rattle.loc_maps.specs.LineTexts.{covers_text, layer_fault_text, pieces_text}
use Rattle.loc_maps.specs.Located.{edges_of, table_in}
use Rattle.loc_maps.specs.MapCourses.{LayerFile, accepted_course, covers_course, layer_in}
use Rattle.loc_maps.specs.Maps.{HasFewPieces, has_many_covers, has_many_pieces}
use Rattle.loc_maps.proofs.Judged.{on_apart, on_few_covers, on_few_pieces}
use Rattle.loc_query.specs.Headline.{IsAccepted}
use Rattle.loc_course.proofs.Texts.{long, short}
use Rattle.loc_groups.specs.GroupCourses.{dissolve_course, groups_text}

module _ (told : Text → Told) (file : LayerFile) (layer : Text) (is : told file.name ≡ holds layer) where
  -- behind a layer that is accepted
  abbrev last : List Feature → Course
  last l = writes (exactly (groups_text file.scale l))

  abbrev next : List Feature → Course
  next l = accepted_course file.scale l (last l)

  abbrev behind : LayerRead → Outcome
  behind r = outcome told (layer_in file.form r next)

  abbrev of_layer : Source
  of_layer = source file.name most_text (ended (codes "layer: too long"))

  pub layer_long : most_text < length layer → outcome told (dissolve_course file) ≡ refusal (exactly (ended (codes "layer: too long")))
  layer_long more = long of_layer (λ text. behind (layer_of file.form file.scale text)) (told file.name) layer is more

  read : length layer ≤ most_text → (r : LayerRead) → layer_of file.form file.scale layer ≡ r → outcome told (dissolve_course file) ≡ behind r
  read few r reads = short of_layer (λ text. behind (layer_of file.form file.scale text)) (told file.name) layer is few ∙ ap behind reads

  pub layer_line : (fault : LayerFault) → length layer ≤ most_text → layer_of file.form file.scale layer ≡ Err fault → outcome told (dissolve_course file) ≡ refusal (exactly (ended (layer_fault_text file.form fault)))
  layer_line fault few reads = read few (Err fault) reads

  module _ (features : List Feature) (few : length layer ≤ most_text) (reads : layer_of file.form file.scale layer ≡ Ok features) where
    pub pieces : most_pieces < piece_count (layer_rings features) → outcome told (dissolve_course file) ≡ refusal (exactly (ended pieces_text))
    pieces many = read few (Ok features) reads
        ∙ ap (outcome told) (cond-true (has_many_pieces features) (refuses (exactly (ended pieces_text))) (next features) ((Decides-ltb most_pieces (piece_count (layer_rings features))).1 many))

    module _ (few_pieces : HasFewPieces features) where
      cut : outcome told (dissolve_course file) ≡ outcome told (next features)
      cut = read few (Ok features) reads ∙ ap (outcome told) (on_few_pieces features (next features) few_pieces)

      pub conflict : has_conflict (edges_of features) ≡ true → outcome told (dissolve_course file) ≡ refusal (names_conflict file.scale (edges_of features))
      conflict has = cut ∙ ap (outcome told) (cond-true (has_conflict (edges_of features)) (refuses (names_conflict file.scale (edges_of features))) (covers_course (table_in features) (last features)) has)

      module _ (apart : Accepts features) where
        uncrossed : outcome told (dissolve_course file) ≡ outcome told (covers_course (table_in features) (last features))
        uncrossed = cut ∙ ap (outcome told) (on_apart file.scale (edges_of features) (covers_course (table_in features) (last features)) apart)

        pub covers : most_members < cover_sum (table_in features) → outcome told (dissolve_course file) ≡ refusal (exactly (ended covers_text))
        covers many = uncrossed
            ∙ ap (outcome told) (cond-true (has_many_covers (table_in features)) (refuses (exactly (ended covers_text))) (last features) ((Decides-ltb most_members (cover_sum (table_in features))).1 many))

        written_by : cover_sum (table_in features) ≤ most_members → outcome told (dissolve_course file) ≡ output (exactly (groups_text file.scale features))
        written_by few_covers = uncrossed ∙ ap (outcome told) (on_few_covers (table_in features) (last features) few_covers)

  pub written : (features : List Feature) → IsAccepted file layer features → outcome told (dissolve_course file) ≡ output (exactly (groups_text file.scale features))
  written features a = written_by features a.within a.reads a.few_pieces a.apart a.few_covers
