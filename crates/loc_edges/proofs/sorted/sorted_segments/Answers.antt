use Rattle.std.proofs.Common.{ℕ, ◌≡◌, ◌+◌, ◌<◌, length, sym, ◌∙◌, ap, subst, arith}
use Rattle.std.specs.{Prelude.All, List.Sorted.IsPermutation}
use Rattle.std.proofs.{lemmas.List.length-map, lemmas.List.Sorted.All-permutation, lemmas.Result.IfOk-weaker}
use Rattle.loc_spec_plane.specs.{Points.Edge, Points.edge_before, Lists.sorted_set, Tables.pieces_of, Tables.whole}
use Rattle.loc_rings.specs.Values.{rings_of}
use Rattle.loc_edges.specs.{Layers.layer_rings, Tagged.features_of, Tagged.segments_in, Tagged.tagged_from}
use Rattle.loc_edges.proofs.Tagged.{edges_stay, features_fit, tagged_pieces-whole}
use Rattle.loc_edges.proofs.sorted.sorted_segments.Goals as goal

pub returns-clause-moved : goal.returns-clause-moved
returns-clause-moved c = IfOk-weaker c.by_edge.result _ (λ tagged. IsPermutation (tagged_from 0 (layer_rings c.args.features.now)) tagged.items) (λ tagged moved. subst (λ ts. IsPermutation ts tagged.items) c.in_ok-tagged_segments.ensures.value moved) c.by_edge.ensures.moved

pub returns-clause-few : goal.returns-clause-few
returns-clause-few c =
    let features = c.args.features.now in
    let fits : All (λ (t : Edge × ℕ). t.1 < length c.args.features.now) c.in_ok-tagged_segments.field-0.items = λ k d lt. omega (arith, subst (All (λ (t : Edge × ℕ). t.1 < 0 + length (layer_rings c.args.features.now))) (sym c.in_ok-tagged_segments.ensures.value) (subst (All (λ (t : Edge × ℕ). t.1 < 0 + length (layer_rings c.args.features.now))) (sym (tagged_pieces-whole 0 (layer_rings features))) (features_fit whole 0 (layer_rings features))) k d lt, length-map features rings_of) in
    IfOk-weaker c.by_edge.result _ (λ tagged. All (λ (t : Edge × ℕ). t.1 < length c.args.features.now) tagged.items) (λ tagged moved. All-permutation (λ (t : Edge × ℕ). t.1 < length c.args.features.now) _ tagged.items moved fits) c.by_edge.ensures.moved

pub returns-clause-edges : goal.returns-clause-edges
returns-clause-edges c =
    let layer = layer_rings c.args.features.now in
    IfOk-weaker c.by_edge.result _ (λ tagged. sorted_set edge_before (segments_in tagged.items) ≡ pieces_of whole layer) (λ tagged moved. edges_stay whole layer tagged.items (subst (λ ts. IsPermutation ts tagged.items) (c.in_ok-tagged_segments.ensures.value ∙ tagged_pieces-whole 0 layer) moved)) c.by_edge.ensures.moved

pub returns-clause-features : goal.returns-clause-features
returns-clause-features c = IfOk-weaker c.by_edge.result _ (λ tagged. (e : Edge) → features_of tagged.items e ≡ features_of (tagged_from 0 (layer_rings c.args.features.now)) e) (λ tagged stay e. stay e ∙ ap (λ ts. features_of ts e) c.in_ok-tagged_segments.ensures.value) c.by_edge.ensures.features
