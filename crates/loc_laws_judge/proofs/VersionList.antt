-- Where nothing conflicts, the edges alive at a corner, sorted from the lowest to the highest, are its version.
use Rattle.std.proofs.Common.{ℕ}
use Rattle.loc_spec_plane.specs.Tables.{Table, IsTable, NoConflict, corner}
use Rattle.loc_spec_plane.specs.Places.{IsVersion}
use Rattle.loc_laws_rays.proofs.Listed.{sorted_list_is}
use Rattle.loc_laws_judge.specs.FirstFlaw.{version_list}

-- the sorted list at a corner is its version
pub version_list_is : (t : Table) → IsTable t → NoConflict t → (i : ℕ) → IsVersion t i (version_list t i)
version_list_is t ok quiet i = sorted_list_is t ok quiet (corner t i)
