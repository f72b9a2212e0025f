-- For which tables an index stands: `AreVersionsOf`.
use Rattle.loc_spec_plane.specs.Tables.{Table}
use Rattle.loc_persist.specs.Meaning.{VersionsMeaning}
use Rattle.loc_place.specs.Planar.{IsPlanar}
use Rattle.loc_status.specs.Versions.{AreVersions}

-- the table is planar, and the sealed lists are its versions
pub record AreVersionsOf (t : Table) (m : VersionsMeaning) : Type 0 where
  pub planar : IsPlanar t
  pub versions : AreVersions t m.sealed_lists
