use Rattle.std.proofs.Common.{◌≡◌, List, ◌∙◌}
use Rattle.std.proofs.lemmas.Result.{IfOk-weaker}
use Rattle.loc_spec_plane.specs.{Points.edge_before, Lists.sorted_set, Rings.Rings}
use Rattle.loc_spec_plane.specs.Tables.{layer_corners, pieces_of, whole}
use Rattle.loc_edges.specs.Tagged.{segments_in}
use Rattle.loc_node.proofs.noding.corners_of.Goals as goal

pub returns : goal.returns
returns c = IfOk-weaker c.corners_between.result _ (λ corners. (layer : List Rings) → sorted_set edge_before (segments_in c.args.tagged.now) ≡ pieces_of whole layer → corners.items ≡ layer_corners layer) (λ corners of layer is. of layer (c.deref.ensures.value ∙ (c.in_ok-edges.ensures ∙ is))) c.corners_between.ensures.of_layer
