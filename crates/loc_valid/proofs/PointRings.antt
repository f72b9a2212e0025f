-- Rings that have no segment.
use Rattle.std.proofs.Common.{◌≡◌, ℕ, ◌-◌, ◌≤◌, Bool, List, [], ◌∷◌, length, drop, map, slice_get, Some, refl, sym, ◌∙◌, ap, arith}
use Rattle.std.specs.Prelude.{◌==◌}
use Rattle.std.proofs.{lemmas.List.length-drop, lemmas.Option.get_or_from_slice_get}
use Rattle.loc_spec_plane.specs.Rings.{Ring, Rings, ring_segments}
use Rattle.loc_spec_valid.specs.Breaches.{feature_rings, is_point_ring}
use Rattle.loc_edges.specs.Layers.{layer_rings}
use Rattle.loc_rings.specs.Values.{unnamed}
use Rattle.loc_rings.proofs.Passes.{short}

-- behind the last point but one there is none
pub none_left : (ring : Ring) (i : ℕ) → length ring ≤ i → ring_segments (drop (i - 1) ring) ≡ []
none_left ring i past = short (drop (i - 1) ring) (omega (arith, length-drop (i - 1) ring))

-- the layer of the rings, each as a feature, as lists of rings
pub lone_layer : (rings : Rings) → layer_rings (map (λ (ring : Ring). unnamed (ring ∷ [])) rings) ≡ map (λ ring. ring ∷ []) rings
lone_layer [] = refl
lone_layer (ring ∷ rings) = ap (λ layer. (ring ∷ []) ∷ layer) (lone_layer rings)

-- the test of a ring tells of its number
pub tested : (polygons : List Rings) (n : ℕ) (ring : Ring) (answer : Bool) → slice_get (feature_rings polygons) n ≡ Some ring → answer ≡ (length (ring_segments ring) == 0) → answer ≡ is_point_ring polygons n
tested polygons n ring answer at is = is ∙ ap (λ r. length (ring_segments r) == 0) (sym (get_or_from_slice_get (feature_rings polygons) n ring [] at))
