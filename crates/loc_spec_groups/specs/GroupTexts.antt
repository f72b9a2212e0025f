-- Dissolved groups as a layer in form csv (well-known text of OGC 06-103r4; the row is this product's own). The words:
--   listed, enclosed             texts with a comma and a space between them, and in parentheses
--   ring_text, polygon_text, polygons_text  a ring closed by its first corner, a polygon, and EMPTY or the polygons
--   group_row, dissolved_text    the row of a group, and the header and all rows
use Rattle.std.specs.Prelude.{ℕ, List, [], ◌∷◌, ◌++◌, codes, map}
use Rattle.std.specs.List.{flat_map}
use Rattle.loc_spec_plane.specs.Rings.{Ring, Rings}
use Rattle.loc_spec_text.specs.{Bytes.Text, Points.ended, Points.position_text, Points.quoted_byte}
use Rattle.loc_spec_groups.specs.Groups.{Group}

-- texts with a comma and a space between them
abbrev pub listed : List Text → Text
listed [] = []
listed (text ∷ more) = text ++ flat_map (λ later. codes ", " ++ later) more

-- the same in parentheses
abbrev pub enclosed : List Text → Text
enclosed texts = codes "(" ++ listed texts ++ codes ")"

-- the corners of a ring, and the first once more
abbrev pub ring_text : ℕ → Ring → Text
ring_text scale [] = enclosed []
ring_text scale (p ∷ ps) = enclosed (map (position_text scale) (p ∷ ps) ++ position_text scale p ∷ [])

-- the rings of a polygon
abbrev pub polygon_text : ℕ → Rings → Text
polygon_text scale rings = enclosed (map (ring_text scale) rings)

-- EMPTY, or the polygons
abbrev pub polygons_text : ℕ → List Rings → Text
polygons_text scale [] = codes "EMPTY"
polygons_text scale (rings ∷ polygons) = enclosed (map (polygon_text scale) (rings ∷ polygons))

-- the row of a group: the geometry and the id, both in double quotes, each inner one of the id doubled
abbrev pub group_row : ℕ → Group → Text
group_row scale group = ended (codes "\"MULTIPOLYGON " ++ polygons_text scale group.polygons ++ codes "\",\"" ++ flat_map quoted_byte group.id ++ codes "\"")

-- the header, and a row for each group
abbrev pub dissolved_text : ℕ → List Group → Text
dissolved_text scale groups = ended (codes "wkt,id") ++ flat_map (group_row scale) groups
