-- What an index of versions keeps, what that means as a status, and where it stands: `KeptLists`, `meaning_of` and `AreVersionsOf`.
use Rattle.std.specs.Prelude.{ℕ, List, Some}
use Rattle.loc_spec_plane.specs.Tables.{Table}
use Rattle.loc_place.specs.Planar.{IsPlanar}
use Rattle.loc_status.specs.{Meaning.StatusMeaning, Versions.AreVersions}

-- a status that tells no sealed list, and a copy of each list that was sealed
pub record KeptLists : Type 0 where
  pub status : StatusMeaning
  pub lists : List (List ℕ)

-- the meaning is that of the status, with the sealed lists told
abbrev pub meaning_of : KeptLists → StatusMeaning
meaning_of v = record v.status { sealed_lists = Some v.lists }

-- the table is planar, and the sealed lists are its versions
pub record AreVersionsOf (t : Table) (v : KeptLists) : Type 0 where
  pub planar : IsPlanar t
  pub versions : AreVersions t v.lists
