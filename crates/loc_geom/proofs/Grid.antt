-- A coordinate of the grid as 64 bits.
use Rattle.std.proofs.Common.{◌≡◌, ℤ, arith, of_z, to_z, to_z-of_z}
use Rattle.std.proofs.lemmas.Int.{ints}
use Rattle.std.specs.Int.{w64}
use borrow.Author.Differences.{fits_in}
use Rattle.loc_spec_plane.specs.Points.{OnGrid}

-- the 64 bits of a coordinate are that coordinate
pub grid_back : (v : ℤ) → OnGrid v → to_z w64 (of_z w64 v) ≡ v
grid_back v on = to_z-of_z (fits_in w64 v (omega (arith, ints)))
