use Rattle.std.proofs.Common.{◌≡◌, map, ◌∙◌, ap}
use Rattle.std.proofs.lemmas.Result.{IfOk-weaker}
use Rattle.loc_spec_plane.specs.{Points.edge_before, Lists.sorted_set}
use Rattle.loc_edges.specs.Tagged.{features_of, marks_of, segments_in}
use Rattle.loc_edges.proofs.marks.edge_marks.Goals as goal

pub returns : goal.returns
returns c =
    let items = c.args.tagged.items in
    IfOk-weaker c.mark_rows.result _ (λ rows. rows ≡ map marks_of (map (features_of items) (sorted_set edge_before (segments_in items)))) (λ rows are. are ∙ ap (map marks_of) (c.in_ok-features.ensures ∙ ap (λ ts. map (features_of ts) (sorted_set edge_before (segments_in ts))) c.deref.ensures.value)) c.mark_rows.ensures
