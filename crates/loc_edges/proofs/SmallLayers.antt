-- The limits of a layer, as they bound a table.
use Rattle.std.proofs.Common.{◌≡◌, ◌+◌, ◌^◌, ◌≤◌, List, [], ◌∷◌, length, refl, sym, ◌∙◌, ap₂, arith}
use Rattle.std.specs.{Prelude.sum_by, List.flat_map}
use Rattle.std.proofs.{lemmas.List.Concat.length-flat_map, lemmas.List.Sums.sum_by-cons}
use Rattle.loc_spec_plane.specs.Rings.{Ring, Rings}
use Rattle.loc_rings.specs.{Layers.IsLayer, Layers.point_count, Values.Feature, Values.rings_of}
use Rattle.loc_edges.specs.{Kept.written_points, Layers.layer_rings}

-- the points of a layer are counted feature by feature
summed : (features : List Feature) → sum_by (λ (rings : Rings). length (flat_map (λ (ring : Ring). ring) rings)) (layer_rings features) ≡ sum_by point_count features
summed [] = refl
summed (feature ∷ features) =
    sum_by-cons (λ (rings : Rings). length (flat_map (λ (ring : Ring). ring) rings)) (rings_of feature) (layer_rings features)
    ∙ (ap₂ (λ a b. a + b) (length-flat_map (λ (ring : Ring). ring) (rings_of feature)) (summed features) ∙ sym (sum_by-cons point_count feature features))

-- a layer within its limits has few enough points for a table
pub few_written_points : (features : List Feature) → IsLayer features → length (written_points (layer_rings features)) ≤ 2 ^ 20
few_written_points features within =
    let all = length-flat_map (λ (rings : Rings). flat_map (λ (ring : Ring). ring) rings) (layer_rings features) in
    omega (arith, all, summed features, within.few_points)
