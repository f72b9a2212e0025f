-- The lists of the noded table, as they are made one from another: placed pieces, their edges and sources by corner numbers, and the pieces with their features.
use Rattle.std.proofs.Common.{◌≡◌, ℕ, ◌<◌, List, [], ◌∷◌, length, map, refl, sym, ◌∙◌, ap, ap₂, subst, arith}
use Rattle.std.specs.{Prelude.All, List.Sorted.IsPermutation, List.Sorted.IsSortedBy}
use Rattle.std.proofs.lemmas.List.Sorted.{All-permutation, IsPermutation-refl, length_permutation}
use Rattle.loc_spec_plane.specs.{Points.Point, Points.Edge, Points.edge_before, Lists.sorted_set, Rings.Rings}
use Rattle.loc_spec_plane.specs.Tables.{cut_at, layer_corners, number_of, numbered_ends, piece_count, pieces_of, source_in, whole}
use Rattle.loc_edges.specs.{Layers.AreOfLayer, Tagged.segments_in, Tagged.tagged_from}
use Rattle.loc_edges.proofs.Tagged.{in_order as edges_in_order}
use Rattle.loc_node.specs.Pieces.{cut_tagged, first_with, piece_before, placed_from, with_feature}
use Rattle.loc_node.proofs.Cutting.{low_features, many_pieces}
use Rattle.loc_node.proofs.PieceOrder.{by_edge_first, noded_lists, pieces_stay}
use Rattle.loc_node.proofs.Placed.{by_cmp, featured_moved, many_placed, places_fit, source_is}

-- segments of a layer in order, and their pieces with their places
pub record ArePlaced (layer : List Rings) (corners : List Point) (tagged placed : List (Edge × ℕ)) : Type 0 where
  pub corners_are : corners ≡ layer_corners layer
  pub from : IsPermutation (tagged_from 0 layer) tagged
  pub segments_rise : IsSortedBy edge_before (segments_in tagged)
  pub segments_are : sorted_set edge_before (segments_in tagged) ≡ pieces_of whole layer
  pub moved : IsPermutation (cut_tagged (cut_at (layer_corners layer)) (placed_from 0 tagged)) placed
  pub in_order : IsSortedBy piece_before placed

-- as they are made
pub placed_lists : (layer : List Rings) (corners cs : List Point) (tagged us placed : List (Edge × ℕ)) → corners ≡ layer_corners layer → IsPermutation (tagged_from 0 layer) tagged → IsSortedBy edge_before (segments_in tagged) → sorted_set edge_before (segments_in tagged) ≡ pieces_of whole layer
    → cs ≡ corners → us ≡ tagged → IsPermutation (cut_tagged (cut_at cs) (placed_from 0 us)) placed → IsSortedBy piece_before placed → ArePlaced layer corners tagged placed
placed_lists layer corners cs tagged us placed corners_are from rise are cs_are us_are moved sorted = record {
  corners_are = corners_are;
  from = from;
  segments_rise = rise;
  segments_are = are;
  moved = subst (λ ts. IsPermutation (cut_tagged (cut_at (layer_corners layer)) (placed_from 0 ts)) placed) us_are (subst (λ ps. IsPermutation (cut_tagged (cut_at ps) (placed_from 0 us)) placed) (cs_are ∙ corners_are) moved);
  in_order = sorted;
}

-- features change no edge
pub edges_kept : (tagged ps : List (Edge × ℕ)) → segments_in (map (with_feature tagged) ps) ≡ segments_in ps
edges_kept tagged [] = refl
edges_kept tagged (p ∷ ps) = ap (λ es. p.0 ∷ es) (edges_kept tagged ps)

module _ (layer : List Rings) (corners : List Point) (tagged placed : List (Edge × ℕ)) (lists : ArePlaced layer corners tagged placed) where
  abbrev cut : Edge → List Edge
  cut = cut_at (layer_corners layer)

  -- the edges are those of the noded table
  pub placed_edges : sorted_set edge_before (segments_in placed) ≡ pieces_of cut layer
  placed_edges = ap (sorted_set edge_before) (sym (edges_kept tagged placed)) ∙ pieces_stay cut layer tagged (map (with_feature tagged) placed) lists.from (featured_moved cut tagged placed (map (with_feature tagged) placed) lists.moved (IsPermutation-refl (map (with_feature tagged) placed)))

  pub placed_rise : IsSortedBy edge_before (segments_in placed)
  placed_rise = edges_in_order placed (by_edge_first placed (by_cmp placed lists.in_order))

  -- each place is that of a segment
  pub placed_fit : All (λ (p : Edge × ℕ). p.1 < length tagged) placed
  placed_fit = All-permutation (λ (p : Edge × ℕ). p.1 < length tagged) (cut_tagged cut (placed_from 0 tagged)) placed lists.moved (low_features cut (length tagged) (placed_from 0 tagged) (λ k d lt. omega (arith, places_fit 0 tagged k d lt)))

  -- there are as many as pieces of the layer
  pub as_many : length placed ≡ piece_count layer
  as_many = length_permutation _ _ lists.moved ∙ (many_placed cut tagged ∙ many_pieces layer tagged lists.from)

  -- edges by the numbers of their ends
  numbers_are : (cs : List Point) (ds es fs : List Edge) (ends : List (ℕ × ℕ)) → cs ≡ corners → ds ≡ es → es ≡ fs → ends ≡ map (λ (e : Edge). (number_of cs e.lo, number_of cs e.hi)) ds → ends ≡ map (numbered_ends layer) fs
  numbers_are cs ds es fs ends cs_are ds_are es_are ends_are = ends_are ∙ (ap (λ ps. map (λ (e : Edge). (number_of ps e.lo, number_of ps e.hi)) ds) (cs_are ∙ lists.corners_are) ∙ ap (map (numbered_ends layer)) (ds_are ∙ es_are))

  map_alike : {X Y : Type 0} (h k : X → Y) → ((x : X) → h x ≡ k x) → (xs : List X) → map h xs ≡ map k xs
  map_alike h k same [] = refl
  map_alike h k same (x ∷ xs) = ap₂ (λ y ys. y ∷ ys) (same x) (map_alike h k same xs)

  twice : (fs : List Edge) → map (numbered_ends layer) (map (source_in cut layer) fs) ≡ map (λ (e : Edge). numbered_ends layer (source_in cut layer e)) fs
  twice [] = refl
  twice (f ∷ fs) = ap (λ ns. numbered_ends layer (source_in cut layer f) ∷ ns) (twice fs)

  -- the lists of which the table is made
  pub are_of_layer : (ps us qs vs pieces : List (Edge × ℕ)) (edges es segments ss : List Edge) (cs ds : List Point) (ends sources : List (ℕ × ℕ)) → ps ≡ placed → edges ≡ sorted_set edge_before (segments_in ps)
      → cs ≡ corners → es ≡ edges → ends ≡ map (λ (e : Edge). (number_of cs e.lo, number_of cs e.hi)) es
      → us ≡ tagged → qs ≡ placed → ((f : Edge → List Edge) → IsPermutation (cut_tagged f (placed_from 0 us)) qs → segments ≡ map (first_with f (segments_in us)) (sorted_set edge_before (segments_in qs)))
      → ds ≡ corners → ss ≡ segments → sources ≡ map (λ (e : Edge). (number_of ds e.lo, number_of ds e.hi)) ss
      → vs ≡ tagged → IsPermutation (map (with_feature vs) placed) pieces → IsSortedBy piece_before pieces → AreOfLayer cut layer corners edges ends sources pieces
  are_of_layer ps us qs vs pieces edges es segments ss cs ds ends sources ps_are edges_are cs_are es_are ends_are us_are qs_are segments_are ds_are ss_are sources_are vs_are moved sorted =
      let edges_is : edges ≡ pieces_of cut layer = edges_are ∙ (ap (λ ts. sorted_set edge_before (segments_in ts)) ps_are ∙ placed_edges) in
      let told : (us : List (Edge × ℕ)) → us ≡ tagged → (qs : List (Edge × ℕ)) → qs ≡ placed → ((f : Edge → List Edge) → IsPermutation (cut_tagged f (placed_from 0 us)) qs → segments ≡ map (first_with f (segments_in us)) (sorted_set edge_before (segments_in qs))) → segments ≡ map (first_with cut (segments_in tagged)) (sorted_set edge_before (segments_in placed)) =
      λ us us_are qs qs_are are. subst (λ ts. segments ≡ map (first_with cut (segments_in ts)) (sorted_set edge_before (segments_in placed))) us_are (subst (λ ts. segments ≡ map (first_with cut (segments_in us)) (sorted_set edge_before (segments_in ts))) qs_are (are cut (subst (λ ts. IsPermutation (cut_tagged cut (placed_from 0 us)) ts) (sym qs_are) (subst (λ ts. IsPermutation (cut_tagged cut (placed_from 0 ts)) placed) (sym us_are) lists.moved)))) in
      let segments_is : segments ≡ map (source_in cut layer) (pieces_of cut layer) = told us us_are qs qs_are segments_are ∙ (map_alike (first_with cut (segments_in tagged)) (source_in cut layer) (source_is cut layer tagged lists.segments_rise lists.segments_are) (sorted_set edge_before (segments_in placed)) ∙ ap (map (source_in cut layer)) placed_edges) in
      noded_lists layer corners tagged pieces edges ends sources lists.corners_are lists.from (featured_moved cut tagged placed pieces lists.moved (subst (λ ts. IsPermutation (map (with_feature ts) placed) pieces) vs_are moved)) (by_cmp pieces sorted) edges_is
      (numbers_are cs es edges (pieces_of cut layer) ends cs_are es_are edges_is ends_are)
      (numbers_are ds ss segments (map (source_in cut layer) (pieces_of cut layer)) sources ds_are ss_are segments_is sources_are ∙ twice (pieces_of cut layer))

  -- the features are those of the segments
  pub features_low : (m : ℕ) (vs pieces : List (Edge × ℕ)) → All (λ (t : Edge × ℕ). t.1 < m) tagged → vs ≡ tagged → IsPermutation (map (with_feature vs) placed) pieces → All (λ (t : Edge × ℕ). t.1 < m) pieces
  features_low m vs pieces low vs_are moved = All-permutation (λ (t : Edge × ℕ). t.1 < m) (cut_tagged cut tagged) pieces (featured_moved cut tagged placed pieces lists.moved (subst (λ ts. IsPermutation (map (with_feature ts) placed) pieces) vs_are moved)) (low_features cut m tagged low)
