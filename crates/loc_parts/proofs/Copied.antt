-- Rings that are copied polygon by polygon.
use Rattle.std.proofs.Common.{ℕ, ◌+◌, ◌-◌, ◌≤◌, [], ◌∷◌, ◌++◌, length, take, drop, slice_range, ap, arith, length-append}
use Rattle.std.proofs.{lemmas.List.append-nil, lemmas.List.length-take, lemmas.Grind.flat_map-append}
use Rattle.loc_spec_plane.specs.Rings.{Rings}
use Rattle.loc_spec_text.specs.Reading.{Polygons, all_rings}
use Rattle.loc_rings.specs.Values.{rings_before}

-- behind the rings of the first polygons stand so many more at most
pub few_rings : (polygons : Polygons) (n first past : ℕ) → length (all_rings (take n polygons ++ slice_range (all_rings polygons) first past ∷ [])) ≤ rings_before polygons n + (past - first)
few_rings polygons n first past =
    let more : Rings = slice_range (all_rings polygons) first past in
    omega (
      arith,
      ap length (flat_map-append (λ rings. rings) (take n polygons) (more ∷ [])),
      length-append (all_rings (take n polygons)) (more ++ []),
      ap length (append-nil more),
      length-take (past - first) (drop first (all_rings polygons)),
    )
