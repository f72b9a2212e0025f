-- Examples, computed: what is written to points of layers whose polygons overlap and cross.
use Rattle.std.proofs.Common.{◌≡◌, List, [], ◌∷◌, refl, codes}
use Rattle.std.specs.Prelude.{ℕ, pos}
use Rattle.loc_spec_plane.specs.{Points.point_at, Points.turn, Rings.Ring}
use Rattle.loc_spec_text.specs.Number.{scaled, unit}
use Rattle.loc_rings.specs.Values.{Feature}
use Rattle.loc_features.specs.Features.{features_at, features_output}

abbrev box : ℕ → ℕ → Ring
box a b = point_at (pos a) (pos a) ∷ point_at (pos b) (pos a) ∷ point_at (pos b) (pos b) ∷ point_at (pos a) (pos b) ∷ point_at (pos a) (pos a) ∷ []

abbrev feature : List ℕ → Ring → Feature
feature id ring = record { id = id; polygons = (ring ∷ []) ∷ [] }

-- two squares that overlap, and one that crosses itself
abbrev crossing : List Feature
crossing = feature (codes "a") (box 0 4) ∷ feature (codes "b") (box 2 6) ∷ feature (codes "bow")
    (point_at (pos 10) (pos 0) ∷ point_at (pos 14) (pos 4) ∷ point_at (pos 14) (pos 0) ∷ point_at (pos 10) (pos 4) ∷ point_at (pos 10) (pos 0) ∷ []) ∷ []

points : (features_at crossing (point_at (pos 3) (pos 3)) ≡ codes "in \"a\" \"b\"")
    × (features_at crossing (point_at (pos 4) (pos 3)) ≡ codes "on \"a\" in \"b\"")
    × (features_at crossing (point_at (pos 4) (pos 2)) ≡ codes "on \"a\" \"b\" in")
    × (features_at crossing (point_at (pos 8) (pos 8)) ≡ codes "in")
    × (features_at crossing (point_at (pos 12) (pos 2)) ≡ codes "on \"bow\" in")
    × (features_at crossing (point_at (pos 11) (pos 2)) ≡ codes "in \"bow\"")
    × (features_at crossing (point_at (pos 12) (pos 1)) ≡ codes "in")
unfolding turn
points = (refl, refl, refl, refl, refl, refl, refl)

output : features_output 0 crossing (codes "3 3\nx\n1 1") ≡ codes "in \"a\" \"b\"\nunread\nin \"a\"\n"
unfolding features_output turn scaled unit
output = refl
