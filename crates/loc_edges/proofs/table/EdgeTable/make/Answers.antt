use Rattle.std.proofs.Common.{◌≡◌, ℕ, ◌≤◌, List, [], length, map, get_or, sym, ◌∙◌, ap, subst, arith}
use Rattle.std.specs.{Prelude.All, Prelude.IfOk, List.Sorted.IsSortedBy}
use Rattle.loc_spec_plane.specs.Points.{Point, Edge, before, edge_before}
use Rattle.loc_spec_plane.specs.{Lists.is_rising, Lists.sorted_set, Covers.feature_count}
use Rattle.loc_spec_plane.specs.Tables.{AllEnds, AllEven, table_by, table_of, layer_corners, number_of, pieces_of, whole, touches_by_marks, covers_by_marks}
use Rattle.loc_laws_noding.proofs.{Layers.corners_rise, Noded.cutting_whole, Sources.plain_sources}
use Rattle.loc_laws_noding.proofs.Tables.{all_ends, all_even}
use Rattle.loc_edges.specs.Layers.{AreOfLayer, layer_rings}
use Rattle.loc_edges.specs.Tagged.{features_of, segments_in, tagged_from}
use Rattle.loc_edges.proofs.{Even.closed_even, Ordered.few_of_layer}
use Rattle.loc_edges.proofs.RingMarks.{touches_is, covers_is, table_of-features}
use Rattle.loc_edges.proofs.{SmallLayers.few_written_points, Tagged.tagged_pieces-whole}
use Rattle.loc_spec_plane.specs.Rings.{Rings, touches, covers}
use Rattle.std.proofs.{lemmas.List.length-map, lemmas.Result.IfOk-weaker}
use Rattle.loc_rings.specs.Values.{IsRing, rings_of}
use Rattle.loc_edges.proofs.table.EdgeTable.make.Goals as goal
use Rattle.loc_edges.proofs.table.EdgeTable.make.Goals.{After-deref-4, After-of_marks, In_ok-ends}

-- the lists of a layer of which nothing is cut, as they are made one from another
plain_lists : (layer : List Rings) (tagged ts : List (Edge × ℕ)) (edges es ds : List Edge) (corners cs : List Point) (ends : List (ℕ × ℕ))
    → IsSortedBy edge_before (segments_in tagged) → sorted_set edge_before (segments_in tagged) ≡ pieces_of whole layer → ((e : Edge) → features_of tagged e ≡ features_of (tagged_from 0 layer) e) → ts ≡ tagged → edges ≡ sorted_set edge_before (segments_in ts)
    → es ≡ edges → ((l : List Rings) → es ≡ pieces_of whole l → corners ≡ layer_corners l) → cs ≡ corners → ds ≡ edges → ends ≡ map (λ (e : Edge). (number_of cs e.lo, number_of cs e.hi)) ds → AreOfLayer whole layer corners edges ends ends tagged
unfolding table_by
plain_lists layer tagged ts edges es ds corners cs ends in_order distinct features ts_are edges_are es_are corners_are cs_are ds_are ends_are =
    let numbers_of : List Point → List Edge → List (ℕ × ℕ) = λ ps bs. map (λ (e : Edge). (number_of ps e.lo, number_of ps e.hi)) bs in
    let pieces : edges ≡ pieces_of whole layer = edges_are ∙ (ap (λ us. sorted_set edge_before (segments_in us)) ts_are ∙ distinct) in
    let ends_is : ends ≡ (table_of layer).ends = ends_are ∙ (ap (λ ps. numbers_of ps ds) (cs_are ∙ corners_are layer (es_are ∙ pieces)) ∙ ap (numbers_of (layer_corners layer)) (ds_are ∙ pieces)) in
    record {
      is_cutting = cutting_whole layer;
      corners_are = corners_are layer (es_are ∙ pieces);
      edges_are = pieces;
      ends_are = ends_is;
      sources_are = ends_is ∙ sym (plain_sources layer);
      in_order = in_order;
      distinct = distinct;
      features = λ e. features e ∙ ap (λ us. features_of us e) (tagged_pieces-whole 0 layer);
    }

-- the corners and the edges are those of the layer
edges_are : (c : After-deref-4) → c.in_ok-edges.edges.items ≡ pieces_of whole (layer_rings c.features-features.result.now)
edges_are c = c.in_ok-edges.ensures ∙ (ap (λ us. sorted_set edge_before (segments_in us)) c.deref.ensures.value ∙ c.in_ok-tagged.ensures.edges)

corners_are : (c : After-deref-4) → c.in_ok-corners.corners.items ≡ layer_corners (layer_rings c.features-features.result.now)
corners_are c = c.in_ok-corners.ensures.of_layer (layer_rings c.features-features.result.now) (c.deref-2.ensures.value ∙ edges_are c)

lists : (c : In_ok-ends) → AreOfLayer whole (layer_rings c.features-features.result.now) c.in_ok-corners.corners.items c.in_ok-edges.edges.items c.in_ok-ends.ends.items c.in_ok-ends.ends.items c.in_ok-tagged.tagged.items
lists c =
    let tagged = c.in_ok-tagged.ensures in
    plain_lists (layer_rings c.features-features.result.now) c.in_ok-tagged.tagged.items _ _ _ _ _ _ _ tagged.in_order tagged.edges tagged.features c.deref.ensures.value c.in_ok-edges.ensures c.deref-2.ensures.value c.in_ok-corners.ensures.of_layer c.deref-3.ensures.value c.deref-4.ensures.value c.in_ok-ends.ensures

pub numbered_ends-requires-clause-in_order : goal.numbered_ends-requires-clause-in_order
numbered_ends-requires-clause-in_order c = ap (is_rising before) (c.deref-3.ensures.value ∙ corners_are c) ∙ corners_rise (layer_rings c.features-features.result.now)

pub numbered_ends-requires-clause-few : goal.numbered_ends-requires-clause-few
numbered_ends-requires-clause-few c =
    let features = c.features-features.result.now in
    omega (arith, ap length (c.deref-3.ensures.value ∙ corners_are c), (few_of_layer (layer_rings features) (few_written_points features c.features-features.ensures.within)).0)

pub of_marks-requires-clause-of_layer : goal.of_marks-requires-clause-of_layer
of_marks-requires-clause-of_layer c = (whole, (layer_rings c.features-features.result.now, (c.in_ok-tagged.tagged.items, (lists c, c.in_ok-marks.ensures))))

pub of_marks-requires-clause-few_corners : goal.of_marks-requires-clause-few_corners
of_marks-requires-clause-few_corners c =
    let features = c.features-features.result.now in
    omega (arith, ap length (lists c).corners_are, (few_of_layer (layer_rings features) (few_written_points features c.features-features.ensures.within)).0)

pub of_marks-requires-clause-few_edges : goal.of_marks-requires-clause-few_edges
of_marks-requires-clause-few_edges c =
    let features = c.features-features.result.now in
    omega (arith, ap length (lists c).edges_are, (few_of_layer (layer_rings features) (few_written_points features c.features-features.ensures.within)).1)

-- what is made is the plain table
is_plain : (c : After-of_marks) → IfOk c.of_marks.result (λ t. t ≡ table_of (layer_rings c.args.layer.now))
is_plain c = IfOk-weaker c.of_marks.result _ (λ t. t ≡ table_of (layer_rings c.args.layer.now)) (λ t is. is whole (layer_rings c.features-features.result.now) c.in_ok-tagged.tagged.items (lists c.before) c.in_ok-marks.ensures ∙ ap (λ features. table_of (layer_rings features)) c.features-features.ensures.value) c.of_marks.ensures

pub returns-clause-ok : goal.returns-clause-ok
returns-clause-ok c = is_plain c

pub returns-clause-all_ends : goal.returns-clause-all_ends
returns-clause-all_ends c = let layer = layer_rings c.args.layer.now in IfOk-weaker c.of_marks.result _ AllEnds (λ t is. subst AllEnds (sym is) (all_ends whole layer (cutting_whole layer))) (is_plain c)

pub returns-clause-all_even : goal.returns-clause-all_even
returns-clause-all_even c =
    let layer = layer_rings c.args.layer.now in
    let closed = subst (λ features. All (All IsRing) (layer_rings features)) c.features-features.ensures.value c.in_ok-tagged.ensures.closed in
    IfOk-weaker c.of_marks.result _ AllEven (λ t is. subst AllEven (sym is) (all_even whole layer (cutting_whole layer) (closed_even layer closed))) (is_plain c)

pub returns-clause-features : goal.returns-clause-features
returns-clause-features c =
    let layer = layer_rings c.args.layer.now in
    let few = subst (λ n. feature_count (table_of layer) ≤ n) (length-map c.args.layer.now rings_of) (table_of-features layer) in
    IfOk-weaker c.of_marks.result _ (λ t. feature_count t ≤ length c.args.layer.now) (λ t is. subst (λ s. feature_count s ≤ length c.args.layer.now) (sym is) few) (is_plain c)

pub returns-clause-touching : goal.returns-clause-touching
returns-clause-touching c =
    let layer = layer_rings c.args.layer.now in
    IfOk-weaker c.of_marks.result _ (λ t. (f : ℕ) (p : Point) → touches_by_marks t f p ≡ touches (get_or layer f []) p) (λ t is f p. ap (λ s. touches_by_marks s f p) is ∙ touches_is layer f p) (is_plain c)

pub returns-clause-covering : goal.returns-clause-covering
returns-clause-covering c =
    let layer = layer_rings c.args.layer.now in
    IfOk-weaker c.of_marks.result _ (λ t. (f : ℕ) (p : Point) → covers_by_marks t f p ≡ covers (get_or layer f []) p) (λ t is f p. ap (λ s. covers_by_marks s f p) is ∙ covers_is layer f p) (is_plain c)
