-- Answers, computed.
use Rattle.std.proofs.Common.{◌≡◌, false, [], ◌∷◌, refl, codes}
use Rattle.std.specs.{Prelude.pos, Fmt.digits}
use Rattle.loc_spec_plane.specs.{Points.point_at, Points.turn, Rings.Ring, Tables.table_by}
use Rattle.loc_spec_text.specs.Number.{scaled, unit}
use Rattle.loc_place.specs.Found.{place_at}
use Rattle.loc_maps.specs.Located.{table_in}
use Rattle.loc_query.specs.Answered.{located, output_of}

-- a square from 0 0 to 4 4
abbrev square : Ring
square = point_at (pos 0) (pos 0) ∷ point_at (pos 4) (pos 0) ∷ point_at (pos 4) (pos 4) ∷ point_at (pos 0) (pos 4) ∷ point_at (pos 0) (pos 0) ∷ []

answers : output_of false 0 (record { id = codes "1"; polygons = (square ∷ []) ∷ [] } ∷ []) (codes "2 2\n0 0\n4 4\n4 2\n5 2\n-1 4\nx\n2 2")
    ≡ codes "face in \"1\"\ncorner 0 on \"1\" in\ncorner 3 on \"1\" in\nborder 3 on \"1\" in\nface in\nface in\nunread\nface in \"1\"\n"
unfolding output_of located table_in table_by place_at turn scaled unit digits
answers = refl
