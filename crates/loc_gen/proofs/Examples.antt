-- Examples, computed: layers and points.
use Rattle.std.proofs.Common.{◌≡◌, [], ◌∷◌, refl, codes}
use Rattle.std.specs.{Prelude.pos, Fmt.digits}
use Rattle.loc_spec_plane.specs.Points.{point_at}
use Rattle.loc_gen.specs.declared.kinds.Kind.TheVariants.{Grid, Nest, Strips}
use Rattle.loc_gen.specs.Layers.{features, layer_text, point_number, rectangle, start_of}

nest_of_two : layer_text Nest 2 0 ≡ codes "POLYGON ((0 0, 8 0, 8 8, 0 8, 0 0))\nPOLYGON ((1 1, 7 1, 7 7, 1 7, 1 1))\n"
unfolding digits
nest_of_two = refl

grid_by_columns : features Grid 2 5 ≡ rectangle 5 0 6 1 ∷ rectangle 5 1 6 2 ∷ rectangle 6 0 7 1 ∷ rectangle 6 1 7 2 ∷ []
grid_by_columns = refl

strips_of_two : layer_text Strips 2 1 ≡ codes "POLYGON ((1 0, 200001 0, 200001 1, 1 1, 1 0))\nPOLYGON ((40504 2, 240504 2, 240504 3, 40504 3, 40504 2))\n"
unfolding digits
strips_of_two = refl

shift_goes_round : (start_of 65541 ≡ 5) × (layer_text Grid 0 7 ≡ [])
shift_goes_round = (refl, refl)

points_of_two : (point_number 2 0 0 ≡ point_at (pos 0) (pos 0)) × (point_number 2 0 1 ≡ point_at (pos 7) (pos 1))
points_of_two = (refl, refl)
