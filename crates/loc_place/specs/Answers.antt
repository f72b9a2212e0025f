-- What a locator answers. The words: `Answer`, `IsInRange`.
use Rattle.std.specs.Prelude.{◌<◌, length, Some, None, Result}
use Rattle.loc_spec_plane.specs.declared.Place.{Place}
use Rattle.loc_spec_plane.specs.declared.Place.TheVariants.{Corner, Border, Area}
use Rattle.loc_spec_plane.specs.Tables.{Table}
use Rattle.loc_place.specs.declared.locator.Deep.{Deep}

-- a place, or that a path of the index is too long
abbrev pub Answer : Type 0
Answer = Result Place Deep

-- the numbers of a place are those of a corner or of edges of the table
abbrev pub IsInRange : Table → Place → Type 0
IsInRange t (Corner n) = n < length t.corners
IsInRange t (Border e) = e < length t.ends
IsInRange t (Area None) = Unit {0}
IsInRange t (Area (Some e)) = e < length t.ends
