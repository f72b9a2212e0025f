-- What the text of dissolved groups reads as, as records. The words: `geometry_of`, `fields_of`, `HasNoQuotes`, `AreOnGrid`, `GroupsRead`.
use Rattle.std.specs.Prelude.{◌≡◌, ℕ, false, List, [], ◌∷◌, ◌++◌, codes, map, All, ◌==◌}
use Rattle.std.specs.{List.list_any, List.AllByRecursion, Str.byte}
use Rattle.loc_spec_plane.specs.{Points.IsGridPoint, Rings.Rings}
use Rattle.csv.specs.Reading.{default_config, records, strip_bom}
use Rattle.loc_spec_text.specs.Bytes.{Text}
use Rattle.loc_spec_groups.specs.{Groups.Group, GroupTexts.dissolved_text, GroupTexts.polygons_text}

-- the geometry of a group
abbrev pub geometry_of : ℕ → Group → Text
geometry_of scale group = codes "MULTIPOLYGON " ++ polygons_text scale group.polygons

-- the two fields of its row
abbrev pub fields_of : ℕ → Group → List Text
fields_of scale group = geometry_of scale group ∷ group.id ∷ []

-- no byte is a double quote
abbrev pub HasNoQuotes : Text → Type 0
HasNoQuotes text = list_any (λ b. b == byte "\"") text ≡ false

-- all points of the polygons are on the grid
abbrev pub AreOnGrid : List Rings → Type 0
AreOnGrid polygons = AllByRecursion (AllByRecursion (AllByRecursion IsGridPoint)) polygons

-- the records of the text are the header and the two fields of each group, whatever bytes the ids have
abbrev pub GroupsRead : Type 0
GroupsRead = (scale : ℕ) (groups : List Group) → All (λ group. AreOnGrid group.polygons) groups
    → records default_config (strip_bom (dissolved_text scale groups)) ≡ (codes "wkt" ∷ codes "id" ∷ []) ∷ map (fields_of scale) groups
