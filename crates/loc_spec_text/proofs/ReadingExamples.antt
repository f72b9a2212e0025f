-- Examples, computed: what geometry texts read as, and their faults.
use Rattle.std.proofs.Common.{◌≡◌, [], ◌∷◌, refl, codes}
use Rattle.std.specs.Prelude.{negsuc, pos, Ok, Err}
use Rattle.loc_spec_plane.specs.Points.{point_at}
use Rattle.loc_spec_text.specs.declared.TextFault.TheVariants.{Syntax, Tag, Dimension, OffGrid, Range, RingShort, RingOpen}
use Rattle.loc_spec_text.specs.{Number.scaled, Number.unit, Reader.geometry_of, Reader.wide_geometry_of}
use Rattle.loc_spec_text.specs.Reading.{reading, Polygons}

square : Polygons
square = ((point_at (pos 0) (pos 0) ∷ point_at (pos 4) (pos 0) ∷ point_at (pos 4) (pos 4) ∷ point_at (pos 0) (pos 4) ∷ point_at (pos 0) (pos 0) ∷ []) ∷ []) ∷ []

-- the square S with a hole
square_with_hole : reading 0 (codes "POLYGON ((0 0, 4 0, 4 4, 0 4, 0 0), (1 1, 1 3, 3 3, 3 1, 1 1))")
    ≡ Ok (((point_at (pos 0) (pos 0) ∷ point_at (pos 4) (pos 0) ∷ point_at (pos 4) (pos 4) ∷ point_at (pos 0) (pos 4) ∷ point_at (pos 0) (pos 0) ∷ [])
    ∷ (point_at (pos 1) (pos 1) ∷ point_at (pos 1) (pos 3) ∷ point_at (pos 3) (pos 3) ∷ point_at (pos 3) (pos 1) ∷ point_at (pos 1) (pos 1) ∷ []) ∷ []) ∷ [])
unfolding reading geometry_of wide_geometry_of scaled unit
square_with_hole = refl

-- two squares with a common side
two_squares : reading 0 (codes "MULTIPOLYGON (((0 0, 2 0, 2 2, 0 2, 0 0)), ((2 0, 4 0, 4 2, 2 2, 2 0)))")
    ≡ Ok (((point_at (pos 0) (pos 0) ∷ point_at (pos 2) (pos 0) ∷ point_at (pos 2) (pos 2) ∷ point_at (pos 0) (pos 2) ∷ point_at (pos 0) (pos 0) ∷ []) ∷ []) ∷ ((point_at (pos 2) (pos 0) ∷ point_at (pos 4) (pos 0) ∷ point_at (pos 4) (pos 2) ∷ point_at (pos 2) (pos 2) ∷ point_at (pos 2) (pos 0) ∷ []) ∷ []) ∷ [])
unfolding reading geometry_of wide_geometry_of scaled unit
two_squares = refl

off_grid_number : reading 1 (codes "POLYGON ((12.55 0, 4 0, 4 4, 12.55 0))") ≡ Err (OffGrid 1)
unfolding reading geometry_of wide_geometry_of scaled unit
off_grid_number = refl

range_of_numbers : (reading 0 (codes "POLYGON ((1000000000000000001 0, 4 0, 4 4, 0 0))") ≡ Err (Range 1)) × (reading 0 (codes "POLYGON ((0 0, 4 -1000000000000000000, 4 4, 0 0))")
    ≡ Ok (((point_at (pos 0) (pos 0) ∷ point_at (pos 4) (negsuc 999999999999999999) ∷ point_at (pos 4) (pos 4) ∷ point_at (pos 0) (pos 0) ∷ []) ∷ []) ∷ []))
unfolding reading geometry_of wide_geometry_of scaled unit
range_of_numbers = (refl, refl)

faults : (reading 0 (codes "POLYGON ((0 0, 4 0, 4 4, 0 4, 1 1))") ≡ Err (RingOpen 1)) × (reading 0 (codes "POLYGON ((0 0, 4 0, 0 0))") ≡ Err (RingShort 1))
    × (reading 0 (codes "POLYGON ((0 0, 4") ≡ Err Syntax) × (reading 0 (codes "POLYGON Z ((0 0 1, 4 0 1, 4 4 1, 0 0 1))") ≡ Err Dimension) × (reading 0 (codes "LINESTRING (0 0, 1 1)") ≡ Err Tag)
unfolding reading geometry_of wide_geometry_of scaled unit
faults = (refl, refl, refl, refl, refl)

-- further faults
further : (reading 0 (codes "POLYGON ((0 0, 4 0 1, 4 4, 0 0))") ≡ Err Dimension) × (reading 0 (codes "POLYGON ((0 0, 4 0, 4 4, 0 0)) x") ≡ Err Syntax) × (reading 0 (codes "POLYGON (EMPTY)") ≡ Err Syntax)
    × (reading 0 (codes "POLYGON (())") ≡ Err Syntax) × (reading 0 (codes "POLYGON ()") ≡ Err Syntax) × (reading 0 (codes "POLYGONEMPTY") ≡ Err Tag) × (reading 0 (codes "POLYGON") ≡ Err Syntax)
    × (reading 0 (codes "SRID=4326;POLYGON EMPTY") ≡ Err Tag) × (reading 0 (codes " (") ≡ Err Syntax) × (reading 0 (codes "POLYGON Z1 EMPTY") ≡ Err Dimension) × (reading 0 (codes "POLYGON ((0 0, 4 0,, 4 4, 0 0))") ≡ Err Syntax)
    × (reading 0 (codes "POLYGON ((1 2 3 4 5, 0 0))") ≡ Err Syntax) × (reading 0 (codes "POLYGON ((1.5.5, 0 0))") ≡ Err Syntax) × (reading 0 (codes "MULTIPOLYGON ((0 0, 1 1, 2 0, 0 0))") ≡ Err Syntax)
unfolding reading geometry_of wide_geometry_of scaled unit
further = (refl, refl, refl, refl, refl, refl, refl, refl, refl, refl, refl, refl, refl, refl)

-- the order of faults: a number before a ring, and the first of each
order_of_faults : (reading 0 (codes "POLYGON ((0 0, 1 1), (0 0, 1 1.5))") ≡ Err (OffGrid 8)) × (reading 0 (codes "MULTIPOLYGON (((0 0, 4 0, 4 4, 0 0)), ((0 0, 4 0, 4 4, 1 0), (0 0)))") ≡ Err (RingOpen 2))
unfolding reading geometry_of wide_geometry_of scaled unit
order_of_faults = (refl, refl)

-- six decimals
export_values : reading 6 (codes "POLYGON ((13.377 52.516,13.378 52.516,13.378 52.517,13.377 52.517,13.377 52.516))")
    ≡ Ok (((point_at (pos 13377000) (pos 52516000) ∷ point_at (pos 13378000) (pos 52516000) ∷ point_at (pos 13378000) (pos 52517000) ∷ point_at (pos 13377000) (pos 52517000) ∷ point_at (pos 13377000) (pos 52516000) ∷ []) ∷ []) ∷ [])
unfolding reading geometry_of wide_geometry_of scaled unit
export_values = refl

-- a ring is closed by value, and a dimension is a token of its own
by_value : (reading 0 (codes "POLYGON ((0 0, 4 0, 4 4, 0.0 -0))") ≡ Ok (((point_at (pos 0) (pos 0) ∷ point_at (pos 4) (pos 0) ∷ point_at (pos 4) (pos 4) ∷ point_at (pos 0) (pos 0) ∷ []) ∷ []) ∷ [])) × (reading 0 (codes "POLYGON.Z ((0 0, 4 0, 4 4, 0 0))") ≡ Err Syntax)
unfolding reading geometry_of wide_geometry_of scaled unit
by_value = (refl, refl)
