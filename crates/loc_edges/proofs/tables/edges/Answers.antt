use Rattle.std.proofs.Common.{◌≡◌, ◌∙◌, ap}
use Rattle.std.specs.Prelude.{IsTrue}
use Rattle.std.proofs.lemmas.Result.{IfOk-weaker}
use Rattle.loc_spec_plane.specs.{Points.edge_before, Lists.is_rising, Lists.sorted_set, Tables.pieces_of, Tables.whole}
use Rattle.loc_edges.specs.{Layers.layer_rings, Tagged.segments_in}
use Rattle.loc_laws_noding.proofs.Tables.{pieces_rise}
use Rattle.loc_edges.proofs.tables.edges.Goals as goal

pub returns : goal.returns
returns c =
    let layer = layer_rings c.args.features.now in
    let value = ap (λ ts. sorted_set edge_before (segments_in ts)) c.deref.ensures.value ∙ c.in_ok-tagged.ensures.edges in
    record {
      value = IfOk-weaker c.distinct_edges.result _ (λ edges. edges.items ≡ pieces_of whole layer) (λ edges are. are ∙ value) c.distinct_edges.ensures;
      rise = IfOk-weaker c.distinct_edges.result _ (λ edges. IsTrue (is_rising edge_before edges.items)) (λ edges are. ap (is_rising edge_before) (are ∙ value) ∙ pieces_rise whole layer) c.distinct_edges.ensures;
    }
