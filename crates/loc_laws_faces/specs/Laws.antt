-- What is covered is the same all along a face, and so a group's polygons have each kept edge once: statements that the contract of a public function cites. The words:
-- `OneOnFace`, `NoneOnFace0`, `GroupFaces`, `OneHalfEach`, `SegmentsOnce`, `RingsCover`.
use Rattle.std.specs.Prelude.{◌≡◌, ℕ, ◌+◌, ◌*◌, ◌<◌, Bool, false, true, count_by, length}
use Rattle.loc_spec_plane.specs.{Lists.exactly_one, Points.Point, Points.Edge, Rings.covers, Rings.segments}
use Rattle.loc_spec_plane.specs.Tables.{Table, IsTable, AllEnds, AllEven, NoConflict, edge}
use Rattle.loc_spec_plane.specs.{Places.IsBorderless, HalfEdges.half_edge_count, Faces.IsFaces}
use Rattle.loc_half.specs.HalfEdgeLists.{HalfEdgeLists, AreHalfEdges, next_in}
use Rattle.loc_laws_dissolve.specs.Laws.{by_member, left_covered}
use Rattle.loc_spec_groups.specs.Groups.{closed_rings, group_polygons, group_table, is_polygon, kept_edges}

-- to the left of the half-edges of one face the same is covered
abbrev pub OneOnFace : Type 0
OneOnFace = (t : Table) → IsTable t → AllEnds t → AllEven t → NoConflict t → (half : HalfEdgeLists) → AreHalfEdges t half → (face : ℕ → ℕ) → IsFaces t (next_in half) face
    → (f g h : ℕ) → g < half_edge_count t → h < half_edge_count t → face g ≡ face h → left_covered t f g ≡ left_covered t f h

-- in the unbounded face nothing is
abbrev pub NoneOnFace0 : Type 0
NoneOnFace0 = (t : Table) → IsTable t → AllEnds t → AllEven t → NoConflict t → (half : HalfEdgeLists) → AreHalfEdges t half → (face : ℕ → ℕ) → IsFaces t (next_in half) face
    → (f h : ℕ) → h < half_edge_count t → face h ≡ 0 → left_covered t f h ≡ false

-- the face of a half-edge of a group's table is one of the group's polygons exactly where what lies to the left of the half-edge is covered
abbrev pub GroupFaces : Type 0
GroupFaces = (t : Table) → IsTable t → AllEnds t → AllEven t → NoConflict t → (member : ℕ → Bool) (half : HalfEdgeLists) → AreHalfEdges (group_table t member) half → (face : ℕ → ℕ) → IsFaces (group_table t member) (next_in half) face
    → (h : ℕ) → h < half_edge_count (group_table t member) → is_polygon t member (next_in half) face (face h) ≡ left_covered (group_table t member) 0 h

-- of the two half-edges of a kept edge exactly one has its left covered
abbrev pub OneHalfEach : Type 0
OneHalfEach = (t : Table) → IsTable t → AllEnds t → AllEven t → NoConflict t → (member : ℕ → Bool) (k : ℕ) → k < length (kept_edges t member)
    → exactly_one (left_covered (group_table t member) 0 (2 * k)) (left_covered (group_table t member) 0 (2 * k + 1)) ≡ true

-- in all rings of a group each kept edge stands once, as a segment, and no other segment stands there: as many segments pass any test as kept edges do
abbrev pub SegmentsOnce : Type 0
SegmentsOnce = (t : Table) → IsTable t → AllEnds t → AllEven t → NoConflict t → (member : ℕ → Bool) (half : HalfEdgeLists) → AreHalfEdges (group_table t member) half → (face : ℕ → ℕ) → IsFaces (group_table t member) (next_in half) face
    → (test : Edge → Bool) → count_by test (segments (closed_rings (group_polygons t member (next_in half) face))) ≡ count_by (λ e. test (edge t e)) (kept_edges t member)

-- a point on no edge of the layer is covered by the rings of a group exactly where a member covers it
abbrev pub RingsCover : Type 0
RingsCover = (t : Table) → IsTable t → AllEnds t → AllEven t → NoConflict t → (member : ℕ → Bool) (half : HalfEdgeLists) → AreHalfEdges (group_table t member) half → (face : ℕ → ℕ) → IsFaces (group_table t member) (next_in half) face
    → (p : Point) → IsBorderless t p → covers (closed_rings (group_polygons t member (next_in half) face)) p ≡ by_member t member p
