-- Rings of a feature taken one by one, and those of one polygon.
use Rattle.std.proofs.Common.{◌≡◌, ℕ, zero, suc, ◌+◌, ◌-◌, ◌<◌, ◌≤◌, List, [], ◌∷◌, ◌++◌, length, take, drop, get_or, map, slice_get, slice_range, Some, refl, ◌∙◌, ap, ap₂, arith}
use Rattle.std.specs.List.{sum_by}
use Rattle.std.proofs.lemmas.List.{append-nil, get_or-drop, length-append, length-drop, map_more, take_more}
use Rattle.std.proofs.Math.Seq.{drop-append-add, take-append_seam}
use Rattle.std.proofs.lemmas.List.Sums.{sum_by-cons, sum_by-take-le, sum_by-take-drop}
use Rattle.std.proofs.lemmas.Option.{get_or_from_slice_get, slice_get_within}
use Rattle.loc_spec_plane.specs.Rings.{Ring, Rings}
use Rattle.loc_spec_text.specs.Reading.{Polygons, all_rings}
use Rattle.loc_rings.specs.Layers.{layer_points, point_count}
use Rattle.loc_rings.specs.Values.{Feature, rings_before, unnamed}

-- one ring more
pub range_more : (rings : Rings) (first n : ℕ) (ring : Ring) → first ≤ n → slice_get rings n ≡ Some ring → slice_range rings first (n + 1) ≡ slice_range rings first n ++ ring ∷ []
range_more rings first n ring le at =
    let within = slice_get_within rings n ring at in
    let place : first + (n - first) ≡ n = omega arith in
    let next : (n + 1) - first ≡ (n - first) + 1 = omega arith in
    ap (λ k. take k (drop first rings)) next
    ∙ (take_more (drop first rings) (n - first) ring (omega (arith, length-drop first rings))
    ∙ ap (λ r. take (n - first) (drop first rings) ++ r ∷ []) (get_or-drop first rings (n - first) ring ∙ (ap (λ k. get_or rings k ring) place ∙ get_or_from_slice_get rings n ring ring at)))

-- the layer of the first rings
abbrev pub lone_rings : Rings → List Feature
lone_rings rings = map (λ ring. unnamed (ring ∷ [])) rings

-- has one ring more
pub lone_more : (rings : Rings) (n : ℕ) (ring : Ring) → slice_get rings n ≡ Some ring → lone_rings (take (n + 1) rings) ≡ lone_rings (take n rings) ++ unnamed (ring ∷ []) ∷ []
lone_more rings n ring at = map_more (λ r. unnamed (r ∷ [])) rings n ring (slice_get_within rings n ring at) ∙ ap (λ r. lone_rings (take n rings) ++ unnamed (r ∷ []) ∷ []) (get_or_from_slice_get rings n ring ring at)

-- and has their points
pub lone_points : (rings : Rings) → layer_points (lone_rings rings) ≡ sum_by length rings
lone_points [] = refl
lone_points (ring ∷ rings) =
    let one : point_count (unnamed (ring ∷ [])) ≡ length ring = sum_by-cons length ring [] ∙ omega arith in
    let rest = lone_points rings in
    omega (arith, sum_by-cons point_count (unnamed (ring ∷ [])) (lone_rings rings), one, rest, sum_by-cons length ring rings)

-- the rings of polygon n stand behind those of the polygons before it
pub own_rings : (polygons : Polygons) (n : ℕ) → n < length polygons → slice_range (all_rings polygons) (rings_before polygons n) (rings_before polygons (n + 1)) ≡ get_or polygons n []
own_rings polygons n lt = let next : n + 1 ≡ suc n = omega arith in ap (λ k. slice_range (all_rings polygons) (rings_before polygons n) (rings_before polygons k)) next ∙ each polygons n lt
  where
    each : (polygons : Polygons) (n : ℕ) → n < length polygons → slice_range (all_rings polygons) (rings_before polygons n) (rings_before polygons (suc n)) ≡ get_or polygons n []
    each [] n lt = absurd (omega arith)
    each (rings ∷ polygons) zero lt =
        let one : length (rings ++ []) - 0 ≡ length rings = ap (λ rs. length rs - 0) (append-nil rings) ∙ omega arith in
        ap (λ k. take k (rings ++ all_rings polygons)) one ∙ take-append_seam rings (all_rings polygons)
    each (rings ∷ polygons) (suc n) lt =
        let less = length-append rings (all_rings (take n polygons)) in
        let more = length-append rings (all_rings (take (suc n) polygons)) in
        let gap : rings_before (rings ∷ polygons) (suc (suc n)) - rings_before (rings ∷ polygons) (suc n) ≡ rings_before polygons (suc n) - rings_before polygons n = omega (arith, less, more) in
        ap₂ (λ k from. take k (drop from (rings ++ all_rings polygons))) gap less
        ∙ (ap (take (rings_before polygons (suc n) - rings_before polygons n)) (drop-append-add rings (all_rings polygons) (rings_before polygons n)) ∙ each polygons n (omega arith))

-- a part of the rings has no more points than all
pub range_points : (rings : Rings) (first past : ℕ) → sum_by length (slice_range rings first past) ≤ sum_by length rings
range_points rings first past = omega (arith, sum_by-take-le length (drop first rings) (past - first), sum_by-take-drop length rings first)
