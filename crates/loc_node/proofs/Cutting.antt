-- The pieces of tagged segments, one segment more at a time; and those of a layer.
use Rattle.std.proofs.Common.{◌≡◌, ℕ, suc, ◌+◌, ◌<◌, ◌≤◌, List, [], ◌∷◌, ◌++◌, length, get_or, take, refl, sym, ◌∙◌, ap, ap₂, arith, append-nil}
use Rattle.std.specs.Prelude.{All, ◌^◌}
use Rattle.std.specs.{List.flat_map, List.Sorted.IsPermutation}
use Rattle.std.proofs.lemmas.List.{length-map, map-append, take_more}
use Rattle.std.proofs.lemmas.List.Concat.{flat_map-append, length-flat_map}
use Rattle.std.proofs.lemmas.List.Elements.{All-append, All-cons}
use Rattle.std.proofs.{lemmas.List.Sorted.sum_by-IsPermutation, lemmas.List.Sums.sum_by_more_le}
use Rattle.loc_spec_plane.specs.{Points.Edge, Points.edge_before, Lists.sorted_set, Rings.Rings, Rings.segments}
use Rattle.loc_spec_plane.specs.Tables.{cut_at, layer_corners, piece_count}
use Rattle.loc_laws_noding.proofs.SortedSet.{length-sorted_set}
use Rattle.loc_edges.specs.Tagged.{segments_in, tagged_by, tagged_from, tagged_pieces}
use Rattle.loc_edges.proofs.Tagged.{segments_in-pieces}
use Rattle.loc_node.specs.Pieces.{cut_tagged}
use Rattle.loc_spec_text.specs.Limits.{most_pieces}

module _ (cut : Edge → List Edge) where
  -- the pieces of one segment
  abbrev pub own : Edge × ℕ → List (Edge × ℕ)
  own t = tagged_by t.1 (cut t.0)

  length-own : (t : Edge × ℕ) → length (own t) ≡ length (cut t.0)
  length-own t = length-map (cut t.0) (λ (e : Edge). (e, t.1))

  -- one segment more
  pub cut_more : (ts : List (Edge × ℕ)) (n : ℕ) (d : Edge × ℕ) → n < length ts → cut_tagged cut (take (n + 1) ts) ≡ cut_tagged cut (take n ts) ++ own (get_or ts n d)
  cut_more ts n d fits = ap (cut_tagged cut) (take_more ts n d fits) ∙ (flat_map-append own (take n ts) (get_or ts n d ∷ []) ∙ ap (λ us. cut_tagged cut (take n ts) ++ us) (append-nil (own (get_or ts n d))))

  -- the pieces so far and those of the next segment are no more than all
  pub cut_within : (ts : List (Edge × ℕ)) (n : ℕ) (d : Edge × ℕ) → n < length ts → length (cut_tagged cut (take n ts)) + length (cut (get_or ts n d).0) ≤ length (cut_tagged cut ts)
  cut_within ts n d fits = omega (arith, sum_by_more_le (λ t. length (own t)) ts n d fits, length-flat_map own (take n ts), length-flat_map own ts, length-own (get_or ts n d))

  -- of a layer
  pub cut_layer : (a : ℕ) (layer : List Rings) → cut_tagged cut (tagged_from a layer) ≡ tagged_pieces cut a layer
  cut_layer a [] = refl
  cut_layer a (r ∷ rs) = flat_map-append own (tagged_by a (segments r)) (tagged_from (a + 1) rs) ∙ ap₂ (λ us vs. us ++ vs) (of_feature (segments r)) (cut_layer (a + 1) rs)
    where
      of_feature : (ss : List Edge) → cut_tagged cut (tagged_by a ss) ≡ tagged_by a (flat_map cut ss)
      of_feature [] = refl
      of_feature (s ∷ ss) = ap (λ us. tagged_by a (cut s) ++ us) (of_feature ss) ∙ sym (map-append (λ (e : Edge). (e, a)) (cut s) (flat_map cut ss))

-- the segments of a layer in some order have as many as the layer
pub many_pieces : (layer : List Rings) (tagged : List (Edge × ℕ)) → IsPermutation (tagged_from 0 layer) tagged → length (cut_tagged (cut_at (layer_corners layer)) tagged) ≡ piece_count layer
many_pieces layer tagged from =
    let cut = cut_at (layer_corners layer) in
    length-flat_map (own cut) tagged
    ∙ (sum_by-IsPermutation (λ t. length (own cut t)) (tagged_from 0 layer) tagged from
    ∙ (sym (length-flat_map (own cut) (tagged_from 0 layer))
    ∙ (ap length (cut_layer cut 0 layer)
    ∙ (sym (length-map (tagged_pieces cut 0 layer) (λ (t : Edge × ℕ). t.0))
    ∙ ap length (segments_in-pieces cut 0 layer)))))

-- there are no more edges than pieces
pub few_pieces : (pieces ps : List (Edge × ℕ)) (edges : List Edge) → length pieces ≤ most_pieces → ps ≡ pieces → edges ≡ sorted_set edge_before (segments_in ps) → length edges ≤ 2 ^ 21
few_pieces pieces ps edges few ps_are edges_are = omega (arith, few, ap length ps_are, ap length edges_are, length-sorted_set edge_before (segments_in ps), length-map ps (λ (t : Edge × ℕ). t.0))

-- their features are those of the segments
pub low_features : (cut : Edge → List Edge) (m : ℕ) (tagged : List (Edge × ℕ)) → All (λ (t : Edge × ℕ). t.1 < m) tagged → All (λ (t : Edge × ℕ). t.1 < m) (cut_tagged cut tagged)
low_features cut m [] low = λ k d lt. absurd (omega arith)
low_features cut m (t ∷ ts) low = All-append (λ (u : Edge × ℕ). u.1 < m) (own cut t) (cut_tagged cut ts) (each (cut t.0)) (low_features cut m ts (λ k d lt. low (suc k) d (omega arith)))
  where
    each : (es : List Edge) → All (λ (u : Edge × ℕ). u.1 < m) (tagged_by t.1 es)
    each [] = λ k d lt. absurd (omega arith)
    each (e ∷ es) = All-cons (λ (u : Edge × ℕ). u.1 < m) (e, t.1) (tagged_by t.1 es) (low 0 t (omega arith)) (each es)
