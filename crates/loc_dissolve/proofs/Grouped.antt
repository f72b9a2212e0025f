-- The polygons of a group as they were made, and what its rings are.
use Rattle.std.proofs.Common.{◌≡◌, ℕ, ◌-◌, ◌*◌, Bool, false, ◌&&◌, List, length, get_or, map, filter, sym, ◌∙◌, ap, ap₂, subst, arith}
use Rattle.std.specs.Prelude.{◌==◌, count_by}
use Rattle.std.specs.List.{list_any, range_with_len}
use Rattle.std.proofs.{Math.Path.fun_ext, lemmas.List.Sums.length-filter}
use Rattle.loc_spec_plane.specs.{Lists.numbers, Points.Point, Points.Edge, Places.IsBorderless}
use Rattle.loc_spec_plane.specs.{Rings.Rings, Rings.covers, Rings.segments, HalfEdges.half_edge_count}
use Rattle.loc_spec_plane.specs.Tables.{Table, IsTable, AllEnds, AllEven, NoConflict, edge}
use Rattle.loc_spec_plane.specs.Faces.{IsFaces, leads_face}
use Rattle.loc_place.specs.Planar.{IsPlanar}
use Rattle.loc_half.specs.HalfEdgeLists.{HalfEdgeLists, AreHalfEdges, next_in}
use Rattle.loc_faces.specs.FaceLists.{FaceLists, AreFaces, face_in}
use Rattle.loc_faces.specs.Subdivision.{face_at, next_at}
use Rattle.loc_faces.proofs.{Computed.face_same, Computed.next_same, Known.are_halves, Known.faces_are, Known.halves}
use Rattle.loc_spec_groups.specs.Groups.{closed_rings, covers_upper, face_rings, group_polygons, group_table, kept_edges}
use Rattle.loc_laws_dissolve.specs.Laws.{by_member}
use Rattle.loc_laws_dissolve.proofs.Grouped.{table_law}
use Rattle.loc_laws_faces.proofs.Segments.{rings_cover, segments_once}

module _ (t : Table) (member : ℕ → Bool) where
  -- the polygons of a table with these nexts and faces, by the edges that the group keeps
  abbrev covers_face : List ℕ → (ℕ → ℕ) → ℕ → Bool
  covers_face kept face f = list_any (λ k. (face (2 * k) == f) && covers_upper t member (get_or kept k 0)) (numbers (length kept))

  abbrev polygons_by : Table → (ℕ → ℕ) → (ℕ → ℕ) → List Rings
  polygons_by own next face = map (face_rings own next face) (filter (covers_face (kept_edges t member) face) (range_with_len 1 (length (filter (leads_face own next) (numbers (half_edge_count own))))))

  pub polygons_are : (kept : List ℕ) → kept ≡ kept_edges t member → (own : Table) → own ≡ group_table t member → IsPlanar own → (half : HalfEdgeLists) → AreHalfEdges own half → (lists : FaceLists) → AreFaces own (next_in half) lists
      → (covered : List Bool) → ((f : ℕ) → get_or covered f false ≡ list_any (λ k. (face_in lists (2 * k) == f) && covers_upper t member (get_or kept k 0)) (numbers (length kept)))
      → map (face_rings own (next_in half) (face_in lists)) (filter (λ f. get_or covered f false) (range_with_len 1 (lists.count - 1))) ≡ group_polygons t member (next_at (group_table t member)) (face_at (group_table t member))
  polygons_are kept kept_is own own_is planar half are lists faces covered each =
      ap₂ (λ (test : ℕ → Bool) n. map (face_rings own (next_in half) (face_in lists)) (filter test (range_with_len 1 n)))
      (fun_ext (λ f. each f ∙ ap (λ (ks : List ℕ). covers_face ks (face_in lists) f) kept_is))
      (let count = faces.count in let many : lists.count - 1 ≡ length (filter (leads_face own (next_in half)) (numbers (half_edge_count own))) = omega (arith, count, length-filter (leads_face own (next_in half)) (numbers (half_edge_count own))) in many)
      ∙ (ap₂ (polygons_by own) (next_same own planar half are) (face_same own planar half are lists faces)
      ∙ ap (λ (table : Table). polygons_by table (next_at table) (face_at table)) own_is)

  -- ---- what the rings are, in a layer whose table is even and has no conflict
  module _ (ok : IsTable t) (ended : AllEnds t) (even : AllEven t) (apart : NoConflict t) where
    abbrev own : Table
    own = group_table t member

    own_planar : IsPlanar (group_table t member)
    own_planar = let stands = table_law t ok ended even apart member in record { in_order = stands.0; apart = stands.3 }

    same_next : next_in (halves (group_table t member) own_planar) ≡ next_at (group_table t member)
    same_next = next_same (group_table t member) own_planar (halves (group_table t member) own_planar) (are_halves (group_table t member) own_planar)

    own_faces : IsFaces (group_table t member) (next_in (halves (group_table t member) own_planar)) (face_at (group_table t member))
    own_faces = subst (λ (next : ℕ → ℕ). IsFaces (group_table t member) next (face_at (group_table t member))) (sym same_next) (faces_are (group_table t member) own_planar)

    pub once : (test : Edge → Bool) → count_by test (segments (closed_rings (group_polygons t member (next_at (group_table t member)) (face_at (group_table t member))))) ≡ count_by (λ e. test (edge t e)) (kept_edges t member)
    once test = subst (λ (next : ℕ → ℕ). count_by test (segments (closed_rings (group_polygons t member next (face_at (group_table t member))))) ≡ count_by (λ e. test (edge t e)) (kept_edges t member)) same_next
        (segments_once t ok ended even apart member (halves (group_table t member) own_planar) (are_halves (group_table t member) own_planar) (face_at (group_table t member)) own_faces test)

    pub covers_so : (p : Point) → IsBorderless t p → covers (closed_rings (group_polygons t member (next_at (group_table t member)) (face_at (group_table t member)))) p ≡ by_member t member p
    covers_so p off = subst (λ (next : ℕ → ℕ). covers (closed_rings (group_polygons t member next (face_at (group_table t member)))) p ≡ by_member t member p) same_next
        (rings_cover t ok ended even apart member (halves (group_table t member) own_planar) (are_halves (group_table t member) own_planar) (face_at (group_table t member)) own_faces p off)
