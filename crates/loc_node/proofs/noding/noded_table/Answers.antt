use Rattle.std.proofs.Common.{ℕ, ◌<◌, length, sym, ◌∙◌, ap, subst, arith}
use Rattle.std.specs.{Prelude.All, List.Sorted.IsSortedBy}
use Rattle.loc_spec_plane.specs.{Points.Edge, Points.before, Points.edge_before, Lists.is_rising, Lists.sorted_set}
use Rattle.loc_spec_plane.specs.Tables.{cut_at, layer_corners, piece_count}
use Rattle.loc_laws_noding.proofs.Layers.{corners_rise}
use Rattle.loc_edges.specs.{Layers.layer_rings, Tagged.segments_in}
use Rattle.loc_edges.proofs.{Ordered.few_of_layer, SmallLayers.few_written_points}
use Rattle.loc_node.specs.Pieces.{IsRefused, cut_tagged, piece_before}
use Rattle.loc_node.proofs.{Cutting.few_pieces, Cutting.many_pieces, Refusals.shown, Twice.twice_of_layer}
use Rattle.loc_node.proofs.NodedLists.{are_of_layer, as_many, features_low, placed_fit, placed_lists, placed_rise}
use Rattle.loc_laws_repeats.specs.Repeats.{IsFirstTwice}
use Rattle.loc_node.proofs.noding.noded_table.Goals as goal

pub corners_of-requires : goal.corners_of-requires
corners_of-requires c = record { in_order = subst (λ ts. IsSortedBy edge_before (segments_in ts)) (sym c.deref.ensures.value) c.in_ok-tagged.ensures.in_order }

pub placed_pieces-requires : goal.placed_pieces-requires
placed_pieces-requires c =
    let corners = c.in_ok-corners.ensures (layer_rings c.args.features.now) (ap (λ ts. sorted_set edge_before (segments_in ts)) c.deref.ensures.value ∙ c.in_ok-tagged.ensures.edges) in
    record { rise = ap (is_rising before) (c.deref-2.ensures.value ∙ corners) ∙ corners_rise (layer_rings c.args.features.now) }

pub returns-in_err-placed-clause-refused : goal.returns-in_err-placed-clause-refused
returns-in_err-placed-clause-refused c =
    let layer = layer_rings c.args.features.now in
    let corners = c.deref-2.ensures.value ∙ c.in_ok-corners.ensures (layer_rings c.args.features.now) (ap (λ ts. sorted_set edge_before (segments_in ts)) c.deref.ensures.value ∙ c.in_ok-tagged.ensures.edges) in
    let many = ap (λ cs. length (cut_tagged (cut_at cs) c.deref-3.result.now)) corners ∙ (ap (λ ts. length (cut_tagged (cut_at (layer_corners layer)) ts)) c.deref-3.ensures.value ∙ many_pieces layer c.in_ok-tagged.tagged.items c.in_ok-tagged.ensures.moved) in
    shown _ (IsRefused (piece_count layer)) c.from_residual-in_err-placed.result (λ fault is. subst (IsRefused (piece_count layer)) (sym is) (subst (λ n. IsRefused n c.in_err-placed.field-0.0) many c.in_err-placed.ensures.refused)) c.from_residual-in_err-placed.ensures.1

pub distinct_edges-requires : goal.distinct_edges-requires
distinct_edges-requires c =
    let lists = placed_lists (layer_rings c.args.features.now) c.in_ok-corners.corners.items _ c.in_ok-tagged.tagged.items _ c.in_ok-placed.placed.items (c.in_ok-corners.ensures (layer_rings c.args.features.now) (ap (λ ts. sorted_set edge_before (segments_in ts)) c.deref.ensures.value ∙ c.in_ok-tagged.ensures.edges)) c.in_ok-tagged.ensures.moved c.in_ok-tagged.ensures.in_order c.in_ok-tagged.ensures.edges c.deref-2.ensures.value c.deref-3.ensures.value c.in_ok-placed.ensures.moved c.in_ok-placed.ensures.in_order in
    record { in_order = subst (λ ts. IsSortedBy edge_before (segments_in ts)) (sym c.deref-4.ensures.value) (placed_rise (layer_rings c.args.features.now) c.in_ok-corners.corners.items c.in_ok-tagged.tagged.items c.in_ok-placed.placed.items lists) }

pub numbered_ends-requires-clause-in_order : goal.numbered_ends-requires-clause-in_order
numbered_ends-requires-clause-in_order c = ap (is_rising before) (c.deref-5.ensures.value ∙ c.in_ok-corners.ensures (layer_rings c.args.features.now) (ap (λ ts. sorted_set edge_before (segments_in ts)) c.deref.ensures.value ∙ c.in_ok-tagged.ensures.edges)) ∙ corners_rise (layer_rings c.args.features.now)

pub numbered_ends-requires-clause-few : goal.numbered_ends-requires-clause-few
numbered_ends-requires-clause-few c = omega (arith, ap length (c.deref-5.ensures.value ∙ c.in_ok-corners.ensures (layer_rings c.args.features.now) (ap (λ ts. sorted_set edge_before (segments_in ts)) c.deref.ensures.value ∙ c.in_ok-tagged.ensures.edges)), (few_of_layer (layer_rings c.args.features.now) (few_written_points c.args.features.now c.requires.within)).0)

pub sources-requires-clause-in_range : goal.sources-requires-clause-in_range
sources-requires-clause-in_range c =
    let lists = placed_lists (layer_rings c.args.features.now) c.in_ok-corners.corners.items _ c.in_ok-tagged.tagged.items _ c.in_ok-placed.placed.items (c.in_ok-corners.ensures (layer_rings c.args.features.now) (ap (λ ts. sorted_set edge_before (segments_in ts)) c.deref.ensures.value ∙ c.in_ok-tagged.ensures.edges)) c.in_ok-tagged.ensures.moved c.in_ok-tagged.ensures.in_order c.in_ok-tagged.ensures.edges c.deref-2.ensures.value c.deref-3.ensures.value c.in_ok-placed.ensures.moved c.in_ok-placed.ensures.in_order in
    λ k d lt. omega (arith, subst (λ ts. All (λ (p : Edge × ℕ). p.1 < length c.in_ok-tagged.tagged.items) ts) (sym c.deref-8.ensures.value) (placed_fit (layer_rings c.args.features.now) c.in_ok-corners.corners.items c.in_ok-tagged.tagged.items c.in_ok-placed.placed.items lists) k d lt, ap length c.deref-7.ensures.value)

pub sources-requires-clause-in_order : goal.sources-requires-clause-in_order
sources-requires-clause-in_order c = subst (IsSortedBy piece_before) (sym c.deref-8.ensures.value) c.in_ok-placed.ensures.in_order

pub numbered_ends-requires-2-clause-in_order : goal.numbered_ends-requires-2-clause-in_order
numbered_ends-requires-2-clause-in_order c = ap (is_rising before) (c.deref-9.ensures.value ∙ c.in_ok-corners.ensures (layer_rings c.args.features.now) (ap (λ ts. sorted_set edge_before (segments_in ts)) c.deref.ensures.value ∙ c.in_ok-tagged.ensures.edges)) ∙ corners_rise (layer_rings c.args.features.now)

pub numbered_ends-requires-2-clause-few : goal.numbered_ends-requires-2-clause-few
numbered_ends-requires-2-clause-few c = omega (arith, ap length (c.deref-9.ensures.value ∙ c.in_ok-corners.ensures (layer_rings c.args.features.now) (ap (λ ts. sorted_set edge_before (segments_in ts)) c.deref.ensures.value ∙ c.in_ok-tagged.ensures.edges)), (few_of_layer (layer_rings c.args.features.now) (few_written_points c.args.features.now c.requires.within)).0)

pub first_twice-repeat-requires : goal.first_twice-repeat-requires
first_twice-repeat-requires c =
    let lists = placed_lists (layer_rings c.args.features.now) c.in_ok-corners.corners.items _ c.in_ok-tagged.tagged.items _ c.in_ok-placed.placed.items (c.in_ok-corners.ensures (layer_rings c.args.features.now) (ap (λ ts. sorted_set edge_before (segments_in ts)) c.deref.ensures.value ∙ c.in_ok-tagged.ensures.edges)) c.in_ok-tagged.ensures.moved c.in_ok-tagged.ensures.in_order c.in_ok-tagged.ensures.edges c.deref-2.ensures.value c.deref-3.ensures.value c.in_ok-placed.ensures.moved c.in_ok-placed.ensures.in_order in
    record { in_order = subst (λ ts. IsSortedBy edge_before (segments_in ts)) (sym c.deref-11.ensures.value) (placed_rise (layer_rings c.args.features.now) c.in_ok-corners.corners.items c.in_ok-tagged.tagged.items c.in_ok-placed.placed.items lists) }

pub featured_pieces-pieces-requires : goal.featured_pieces-pieces-requires
featured_pieces-pieces-requires c =
    let lists = placed_lists (layer_rings c.args.features.now) c.in_ok-corners.corners.items _ c.in_ok-tagged.tagged.items _ c.in_ok-placed.placed.items (c.in_ok-corners.ensures (layer_rings c.args.features.now) (ap (λ ts. sorted_set edge_before (segments_in ts)) c.deref.ensures.value ∙ c.in_ok-tagged.ensures.edges)) c.in_ok-tagged.ensures.moved c.in_ok-tagged.ensures.in_order c.in_ok-tagged.ensures.edges c.deref-2.ensures.value c.deref-3.ensures.value c.in_ok-placed.ensures.moved c.in_ok-placed.ensures.in_order in
    record { in_range = λ k d lt. omega (arith, placed_fit (layer_rings c.args.features.now) c.in_ok-corners.corners.items c.in_ok-tagged.tagged.items c.in_ok-placed.placed.items lists k d lt, ap length c.deref-12.ensures.value) }

pub of_tagged-requires-clause-of_layer : goal.of_tagged-requires-clause-of_layer
of_tagged-requires-clause-of_layer c =
    let layer = layer_rings c.args.features.now in
    let lists = placed_lists (layer_rings c.args.features.now) c.in_ok-corners.corners.items _ c.in_ok-tagged.tagged.items _ c.in_ok-placed.placed.items (c.in_ok-corners.ensures (layer_rings c.args.features.now) (ap (λ ts. sorted_set edge_before (segments_in ts)) c.deref.ensures.value ∙ c.in_ok-tagged.ensures.edges)) c.in_ok-tagged.ensures.moved c.in_ok-tagged.ensures.in_order c.in_ok-tagged.ensures.edges c.deref-2.ensures.value c.deref-3.ensures.value c.in_ok-placed.ensures.moved c.in_ok-placed.ensures.in_order in
    (cut_at (layer_corners layer), (layer, are_of_layer (layer_rings c.args.features.now) c.in_ok-corners.corners.items c.in_ok-tagged.tagged.items c.in_ok-placed.placed.items lists _ _ _ _ c.featured_pieces-pieces.result.items c.in_ok-edges.edges.items _ c.in_ok-segments.segments.items _ _ _ c.in_ok-ends.ends.items c.in_ok-sources.sources.items c.deref-4.ensures.value c.in_ok-edges.ensures c.deref-5.ensures.value c.deref-6.ensures.value c.in_ok-ends.ensures c.deref-7.ensures.value c.deref-8.ensures.value c.in_ok-segments.ensures c.deref-9.ensures.value c.deref-10.ensures.value c.in_ok-sources.ensures c.deref-12.ensures.value c.featured_pieces-pieces.ensures.moved c.featured_pieces-pieces.ensures.in_order))

pub of_tagged-requires-clause-few_corners : goal.of_tagged-requires-clause-few_corners
of_tagged-requires-clause-few_corners c = omega (arith, ap length (c.in_ok-corners.ensures (layer_rings c.args.features.now) (ap (λ ts. sorted_set edge_before (segments_in ts)) c.deref.ensures.value ∙ c.in_ok-tagged.ensures.edges)), (few_of_layer (layer_rings c.args.features.now) (few_written_points c.args.features.now c.requires.within)).0)

pub of_tagged-requires-clause-few_edges : goal.of_tagged-requires-clause-few_edges
of_tagged-requires-clause-few_edges c = few_pieces c.in_ok-placed.placed.items _ c.in_ok-edges.edges.items c.in_ok-placed.ensures.few c.deref-4.ensures.value c.in_ok-edges.ensures

pub of_tagged-requires-clause-few_features : goal.of_tagged-requires-clause-few_features
of_tagged-requires-clause-few_features c =
    let lists = placed_lists (layer_rings c.args.features.now) c.in_ok-corners.corners.items _ c.in_ok-tagged.tagged.items _ c.in_ok-placed.placed.items (c.in_ok-corners.ensures (layer_rings c.args.features.now) (ap (λ ts. sorted_set edge_before (segments_in ts)) c.deref.ensures.value ∙ c.in_ok-tagged.ensures.edges)) c.in_ok-tagged.ensures.moved c.in_ok-tagged.ensures.in_order c.in_ok-tagged.ensures.edges c.deref-2.ensures.value c.deref-3.ensures.value c.in_ok-placed.ensures.moved c.in_ok-placed.ensures.in_order in
    λ k d lt. omega (arith, features_low (layer_rings c.args.features.now) c.in_ok-corners.corners.items c.in_ok-tagged.tagged.items c.in_ok-placed.placed.items lists (length c.args.features.now) _ c.featured_pieces-pieces.result.items c.in_ok-tagged.ensures.few c.deref-12.ensures.value c.featured_pieces-pieces.ensures.moved k d lt, c.requires.within.few_features)

pub returns-clause-ok : goal.returns-clause-ok
returns-clause-ok c =
    let layer = layer_rings c.args.features.now in
    let lists = placed_lists (layer_rings c.args.features.now) c.in_ok-corners.corners.items _ c.in_ok-tagged.tagged.items _ c.in_ok-placed.placed.items (c.in_ok-corners.ensures (layer_rings c.args.features.now) (ap (λ ts. sorted_set edge_before (segments_in ts)) c.deref.ensures.value ∙ c.in_ok-tagged.ensures.edges)) c.in_ok-tagged.ensures.moved c.in_ok-tagged.ensures.in_order c.in_ok-tagged.ensures.edges c.deref-2.ensures.value c.deref-3.ensures.value c.in_ok-placed.ensures.moved c.in_ok-placed.ensures.in_order in
    c.in_ok-table.ensures (cut_at (layer_corners layer)) layer (are_of_layer (layer_rings c.args.features.now) c.in_ok-corners.corners.items c.in_ok-tagged.tagged.items c.in_ok-placed.placed.items lists _ _ _ _ c.featured_pieces-pieces.result.items c.in_ok-edges.edges.items _ c.in_ok-segments.segments.items _ _ _ c.in_ok-ends.ends.items c.in_ok-sources.sources.items c.deref-4.ensures.value c.in_ok-edges.ensures c.deref-5.ensures.value c.deref-6.ensures.value c.in_ok-ends.ensures c.deref-7.ensures.value c.deref-8.ensures.value c.in_ok-segments.ensures c.deref-9.ensures.value c.deref-10.ensures.value c.in_ok-sources.ensures c.deref-12.ensures.value c.featured_pieces-pieces.ensures.moved c.featured_pieces-pieces.ensures.in_order)

pub returns-clause-few : goal.returns-clause-few
returns-clause-few c =
    let lists = placed_lists (layer_rings c.args.features.now) c.in_ok-corners.corners.items _ c.in_ok-tagged.tagged.items _ c.in_ok-placed.placed.items (c.in_ok-corners.ensures (layer_rings c.args.features.now) (ap (λ ts. sorted_set edge_before (segments_in ts)) c.deref.ensures.value ∙ c.in_ok-tagged.ensures.edges)) c.in_ok-tagged.ensures.moved c.in_ok-tagged.ensures.in_order c.in_ok-tagged.ensures.edges c.deref-2.ensures.value c.deref-3.ensures.value c.in_ok-placed.ensures.moved c.in_ok-placed.ensures.in_order in
    omega (arith, as_many (layer_rings c.args.features.now) c.in_ok-corners.corners.items c.in_ok-tagged.tagged.items c.in_ok-placed.placed.items lists, c.in_ok-placed.ensures.few)

pub returns-clause-closed : goal.returns-clause-closed
returns-clause-closed c = c.in_ok-tagged.ensures.closed

pub returns-clause-repeat : goal.returns-clause-repeat
returns-clause-repeat c =
    let lists = placed_lists (layer_rings c.args.features.now) c.in_ok-corners.corners.items _ c.in_ok-tagged.tagged.items _ c.in_ok-placed.placed.items (c.in_ok-corners.ensures (layer_rings c.args.features.now) (ap (λ ts. sorted_set edge_before (segments_in ts)) c.deref.ensures.value ∙ c.in_ok-tagged.ensures.edges)) c.in_ok-tagged.ensures.moved c.in_ok-tagged.ensures.in_order c.in_ok-tagged.ensures.edges c.deref-2.ensures.value c.deref-3.ensures.value c.in_ok-placed.ensures.moved c.in_ok-placed.ensures.in_order in
    twice_of_layer (layer_rings c.args.features.now) c.in_ok-tagged.tagged.items c.in_ok-placed.placed.items lists.from lists.moved c.first_twice-repeat.result (subst (λ ts. IsFirstTwice (segments_in ts) c.first_twice-repeat.result) c.deref-11.ensures.value c.first_twice-repeat.ensures)
