-- The groups of a layer, with the nexts and the faces that are computed from the table of each.
use Rattle.std.proofs.Common.{◌≡◌, ℕ, ◌^◌, ◌≤◌, Bool, map, length, List, [], ◌∷◌, Ok, sym, subst}
use Rattle.std.specs.{Prelude.All, Prelude.not, List.AllByRecursion, Str.bytes_eq}
use Rattle.loc_spec_plane.specs.{Points.IsGridPoint, Faces.IsFaces}
use Rattle.loc_spec_plane.specs.Tables.{Table, IsTable, AllEnds, AllEven, NoConflict, cut_at, layer_corners, noded_table_of}
use Rattle.loc_spec_text.specs.{Bytes.Text, declared.Form.Form}
use Rattle.loc_place.specs.Planar.{IsPlanar}
use Rattle.loc_faces.specs.Subdivision.{face_at, next_at}
use Rattle.loc_faces.proofs.{Computed.next_same, Known.are_halves, Known.faces_are, Known.halves}
use Rattle.loc_spec_groups.specs.Groups.{dissolved, dissolved_group, Group, group_names, group_polygons, group_table, is_member}
use Rattle.loc_laws_dissolve.proofs.Grouped.{table_law}
use Rattle.loc_rings.specs.Values.{Feature, IsRing, rings_of}
use Rattle.loc_csvform.specs.Layer.{layer_of}
use Rattle.loc_edges.specs.Layers.{layer_rings}
use Rattle.loc_edges.proofs.Even.{closed_even}
use Rattle.loc_laws_noding.proofs.{Noded.cutting_noded, Tables.all_ends, Tables.all_even, Tables.is_table}
use Rattle.loc_laws_regroup.specs.Laws.{AcceptedReads, ArePolygons, DissolvedReads, groups_of, IsId}
use Rattle.loc_laws_regroup.proofs.{Accepted.IsReadFeature, Accepted.layer_good, Readings.IsReadRing}
use Rattle.loc_laws_regroup.proofs.{TableCorners.corners_on, Rings.polygons_open, Layers.layer_reads}
use Rattle.loc_laws_regroup.proofs.Lists.{all_by_number, all_each, all_flat, all_kept, all_map, all_to}

-- the ids of groups are ids of features
names_are : (ids : List Text) → AllByRecursion IsId ids → AllByRecursion IsId (group_names ids)
names_are [] good = tt
names_are (id ∷ ids) good = (good.0, all_kept IsId (λ other. not (bytes_eq other id)) (group_names ids) (names_are ids good.1))

module _ (t : Table) (ok : IsTable t) (ended : AllEnds t) (even : AllEven t) (apart : NoConflict t) (grid : AllByRecursion IsGridPoint t.corners) where
  planar : (member : ℕ → Bool) → IsPlanar (group_table t member)
  planar member = let stands = table_law t ok ended even apart member in record { in_order = stands.0; apart = stands.3 }

  computed_open : (member : ℕ → Bool) → ArePolygons (group_polygons t member (next_at (group_table t member)) (face_at (group_table t member)))
  computed_open member =
      let same = next_same (group_table t member) (planar member) (halves (group_table t member) (planar member)) (are_halves (group_table t member) (planar member)) in
      let faces = subst (λ (next : ℕ → ℕ). IsFaces (group_table t member) next (face_at (group_table t member))) (sym same) (faces_are (group_table t member) (planar member)) in
      subst (λ (next : ℕ → ℕ). ArePolygons (group_polygons t member next (face_at (group_table t member)))) same
      (polygons_open t ok ended even apart grid member (halves (group_table t member) (planar member)) (are_halves (group_table t member) (planar member)) (face_at (group_table t member)) faces)

  groups_are : (ids : List Text) → AllByRecursion IsId ids → AllByRecursion (λ (group : Group). ArePolygons group.polygons × IsId group.id) (dissolved next_at face_at t ids)
  groups_are ids good = all_map IsId (λ (group : Group). ArePolygons group.polygons × IsId group.id) (dissolved_group next_at face_at t ids)
      (λ id own. (computed_open (is_member ids id), own)) (group_names ids) (names_are ids good)

pub dissolved_reads : DissolvedReads
dissolved_reads scale t ok ended even apart grid ids good limits =
    layer_reads scale (dissolved next_at face_at t ids) (groups_are t ok ended even apart (all_each IsGridPoint t.corners grid) ids (all_each IsId ids good)) limits

-- ---- a layer that was read
rings_closed : (f : Feature) → IsReadFeature f → All IsRing (rings_of f)
rings_closed f good = all_by_number IsRing (rings_of f) (all_flat (AllByRecursion IsReadRing) IsRing (λ rings. rings) (λ rings each. all_to IsReadRing IsRing (λ r one. one.ring) rings each) f.polygons good.rings)

rings_on : (f : Feature) → IsReadFeature f → AllByRecursion (AllByRecursion IsGridPoint) (rings_of f)
rings_on f good = all_flat (AllByRecursion IsReadRing) (AllByRecursion IsGridPoint) (λ rings. rings) (λ rings each. all_to IsReadRing (AllByRecursion IsGridPoint) (λ r one. one.on_grid) rings each) f.polygons good.rings

-- the rings of a layer that was read are closed, so marks are even
pub read_even : (form : Form) (scale : ℕ) (text : Text) (layer : List Feature) → length text ≤ 2 ^ 28 → layer_of form scale text ≡ Ok layer → AllEven (noded_table_of (layer_rings layer))
read_even form scale text layer few read =
    all_even (cut_at (layer_corners (layer_rings layer))) (layer_rings layer) (cutting_noded (layer_rings layer))
    (closed_even (layer_rings layer) (all_by_number (All IsRing) (layer_rings layer) (all_map IsReadFeature (All IsRing) rings_of rings_closed layer (layer_good form scale text layer few read))))

pub accepted_reads : AcceptedReads
accepted_reads form scale text layer few read apart limits =
    let good = layer_good form scale text layer few read in
    let grid = corners_on (layer_rings layer) (all_map IsReadFeature (AllByRecursion (AllByRecursion IsGridPoint)) rings_of rings_on layer good) in
    let ids = all_map IsReadFeature IsId (λ (f : Feature). f.id) (λ f own. own.id) layer good in
    let cut = cutting_noded (layer_rings layer) in
    layer_reads scale (groups_of layer)
    (groups_are (noded_table_of (layer_rings layer)) (is_table (cut_at (layer_corners (layer_rings layer))) (layer_rings layer) cut) (all_ends (cut_at (layer_corners (layer_rings layer))) (layer_rings layer) cut)
    (read_even form scale text layer few read) apart grid (map (λ (f : Feature). f.id) layer) ids) limits
