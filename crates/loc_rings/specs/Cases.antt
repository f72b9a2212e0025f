-- Polygons by the ways in which they are kept. The words: `polygons_of`, `IsKept`.
use Rattle.std.specs.Prelude.{[], ◌∷◌}
use Rattle.loc_spec_text.specs.Reading.{Polygons}
use Rattle.loc_rings.specs.{Values.IsRing, declared.rings.Kept.Kept}
use Rattle.loc_rings.specs.declared.rings.Kept.TheVariants.{Empty, Begun, One, Many}

-- no polygons, one without rings, one of a single ring, or those that are cut
abbrev pub polygons_of : Kept → Polygons
polygons_of Empty = []
polygons_of Begun = [] ∷ []
polygons_of (One ring) = (ring.items ∷ []) ∷ []
polygons_of (Many cut) = cut.value

-- a single ring is one
abbrev pub IsKept : Kept → Type 0
IsKept Empty = Unit {0}
IsKept Begun = Unit {0}
IsKept (One ring) = IsRing ring.items
IsKept (Many cut) = Unit {0}
