-- What the text of dissolved groups reads as: statements that the contracts of public functions cite. The words:
--   IsTextOf, GridTextReads  a number text that reads as a value, and that of a printed value
--   IsOpenRing, ArePolygons  a ring without its closing point, and polygons of such rings
--   closed_polygons          the same polygons with their rings closed
--   GeometryReads            what a written geometry reads as
--   IsId, feature_of, LayerReads  an id within its limit, the feature of a group, and what the text of groups reads as
--   GroupsAreOpen            the polygons of a group
--   DissolvedReads           what the text of the groups of a layer reads as
--   groups_of, AcceptedReads  the groups of a layer, and what their text reads as where the layer was read
use Rattle.std.specs.Prelude.{◌≡◌, ◌≢◌, ℕ, ◌≤◌, Bool, true, ℤ, List, [], length, map, Ok, All}
use Rattle.std.specs.{Str.is_utf8, List.AllByRecursion}
use Rattle.loc_spec_plane.specs.{Points.IsGridPoint, Points.OnGrid, Rings.Ring, Rings.Rings, Faces.IsFaces}
use Rattle.loc_spec_plane.specs.Tables.{Table, IsTable, AllEnds, AllEven, NoConflict, noded_table_of}
use Rattle.loc_faces.specs.Subdivision.{face_at, next_at}
use Rattle.loc_half.specs.HalfEdgeLists.{HalfEdgeLists, AreHalfEdges, next_in}
use Rattle.loc_spec_text.specs.{Bytes.Text, Points.grid_text, Reading.Polygons, Reading.reading, declared.Form.Form}
use Rattle.loc_spec_text.specs.Number.{grid_value, is_in_range, is_number, is_on_grid}
use Rattle.loc_spec_text.specs.{declared.Form.TheVariants.Csv, Limits.most_id_bytes, Limits.most_text}
use Rattle.loc_rings.specs.{Values.Feature, Layers.IsLayer}
use Rattle.loc_edges.specs.Layers.{layer_rings}
use Rattle.loc_csvform.specs.Layer.{layer_of}
use Rattle.loc_spec_groups.specs.Groups.{closed_ring, dissolved, Group, group_polygons, group_table}
use Rattle.loc_spec_groups.specs.GroupTexts.{dissolved_text}
use Rattle.loc_laws_grouptext.specs.Laws.{geometry_of}

-- the text is a number of the grammar, on the grid of the scale and in range, with this value
pub record IsTextOf (scale : ℕ) (value : ℤ) (text : Text) : Type 0 where
  pub number : is_number text ≡ true
  pub on_grid : is_on_grid scale text ≡ true
  pub in_range : is_in_range scale text ≡ true
  pub reads : grid_value scale text ≡ value

-- a printed value is a text of it
abbrev pub GridTextReads : Type 0
GridTextReads = (scale : ℕ) (value : ℤ) → OnGrid value → IsTextOf scale value (grid_text scale value)

-- a ring without its closing point: it has three corners or more, all on the grid
pub record IsOpenRing (ring : Ring) : Type 0 where
  pub long : 3 ≤ length ring
  pub on_grid : AllByRecursion IsGridPoint ring

-- polygons of such rings, each with one ring or more
abbrev pub ArePolygons : List Rings → Type 0
ArePolygons polygons = AllByRecursion (λ rings. (rings ≢ []) × AllByRecursion IsOpenRing rings) polygons

-- the polygons with their rings closed
abbrev pub closed_polygons : List Rings → Polygons
closed_polygons polygons = map (map closed_ring) polygons

-- a written geometry reads as its polygons, with their rings closed
abbrev pub GeometryReads : Type 0
GeometryReads = (scale : ℕ) (group : Group) → ArePolygons group.polygons → reading scale (geometry_of scale group) ≡ Ok (closed_polygons group.polygons)

-- an id within its limit, as each id of a layer is
pub record IsId (id : Text) : Type 0 where
  pub utf8 : is_utf8 id ≡ true
  pub short : length id ≤ most_id_bytes

-- the feature of a group: its id, and its polygons with their rings closed
abbrev pub feature_of : Group → Feature
feature_of group = record { id = group.id; polygons = closed_polygons group.polygons }

-- the text of groups within the limits reads as one feature for each group, with its id and its rings
abbrev pub LayerReads : Type 0
LayerReads = (scale : ℕ) (groups : List Group) → AllByRecursion (λ group. ArePolygons group.polygons × IsId group.id) groups → IsLayer (map feature_of groups)
    → layer_of Csv scale (dissolved_text scale groups) ≡ Ok (map feature_of groups)

-- the polygons of a group are such polygons, in a layer whose corners are on the grid
abbrev pub GroupsAreOpen : Type 0
GroupsAreOpen = (t : Table) → IsTable t → AllEnds t → AllEven t → NoConflict t → All IsGridPoint t.corners → (member : ℕ → Bool) (half : HalfEdgeLists) → AreHalfEdges (group_table t member) half → (face : ℕ → ℕ) → IsFaces (group_table t member) (next_in half) face
    → ArePolygons (group_polygons t member (next_in half) face)

-- so the text of the groups of a layer within the limits reads as one feature for each group, with its id and its rings
abbrev pub DissolvedReads : Type 0
DissolvedReads = (scale : ℕ) (t : Table) → IsTable t → AllEnds t → AllEven t → NoConflict t → All IsGridPoint t.corners → (ids : List Text) → All IsId ids → IsLayer (map feature_of (dissolved next_at face_at t ids))
    → layer_of Csv scale (dissolved_text scale (dissolved next_at face_at t ids)) ≡ Ok (map feature_of (dissolved next_at face_at t ids))

-- the groups of a layer
abbrev pub groups_of : List Feature → List Group
groups_of layer = dissolved next_at face_at (noded_table_of (layer_rings layer)) (map (λ (f : Feature). f.id) layer)

-- and of a layer that was read, in which no two edges conflict, whatever its form
abbrev pub AcceptedReads : Type 0
AcceptedReads = (form : Form) (scale : ℕ) (text : Text) (layer : List Feature) → length text ≤ most_text → layer_of form scale text ≡ Ok layer → NoConflict (noded_table_of (layer_rings layer)) → IsLayer (map feature_of (groups_of layer))
    → layer_of Csv scale (dissolved_text scale (groups_of layer)) ≡ Ok (map feature_of (groups_of layer))
