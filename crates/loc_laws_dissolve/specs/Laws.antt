-- Laws of dissolved groups and of what is covered along a face, as statements that the contracts of public functions cite. The words: `UpperByKept`, `KeptAreEven`,
-- `by_member`, `KeptCover`, `GroupTableStands`, `GroupTableCovers`, `GroupUpper`, `left_covered`, `covered_over`, `SameBehind`, `HangsOverFloor`.
use Rattle.std.specs.Prelude.{◌≡◌, ℕ, ◌<◌, ◌≤◌, Bool, false, ◌&&◌, ◌||◌, length, get_or, Option, Some, None, if◌then◌else◌, IsTrue, ◌==◌}
use Rattle.std.specs.List.{list_any}
use Rattle.loc_spec_plane.specs.{Lists.numbers, Lists.exactly_one, Lists.odd_many, Points.Point, Rays.crosses_right}
use Rattle.loc_spec_plane.specs.Tables.{Table, IsTable, AllEnds, AllEven, NoConflict, corner, edge, edge_numbers, ends_at, has_odd, covers_by_marks}
use Rattle.loc_spec_plane.specs.Places.{IsBorderless, IsFloor, lower_of}
use Rattle.loc_spec_plane.specs.Covers.{feature_count, is_over, is_at_or_under}
use Rattle.loc_spec_plane.specs.HalfEdges.{half_edge_count, edge_of, goes_up, origin, target, IsNext}
use Rattle.loc_spec_groups.specs.Groups.{covers_upper, is_kept, kept_edges, group_table}

-- the kept edges at and under an edge are odd in number exactly where the group covers its upper side: crossing an edge, its covering changes exactly where the edge is kept
abbrev pub UpperByKept : Type 0
UpperByKept = (t : Table) → IsTable t → AllEnds t → AllEven t → NoConflict t → (member : ℕ → Bool) (e : ℕ) → e < length t.ends
    → odd_many (λ d. is_at_or_under t e d && is_kept t member d) (edge_numbers t) ≡ covers_upper t member e

-- at every corner an even number of kept edges end
abbrev pub KeptAreEven : Type 0
KeptAreEven = (t : Table) → IsTable t → AllEnds t → AllEven t → NoConflict t → (member : ℕ → Bool) (c : ℕ) → c < length t.corners
    → odd_many (λ e. ends_at t c e && is_kept t member e) (edge_numbers t) ≡ false

-- a member of the group covers the point
abbrev pub by_member : Table → (ℕ → Bool) → Point → Bool
by_member t member p = list_any (λ f. member f && covers_by_marks t f p) (numbers (feature_count t))

-- from a point on no edge the ray to the right crosses an odd number of kept edges exactly where a member covers the point
abbrev pub KeptCover : Type 0
KeptCover = (t : Table) → IsTable t → AllEnds t → AllEven t → NoConflict t → (member : ℕ → Bool) (p : Point) → IsBorderless t p
    → odd_many (λ e. is_kept t member e && crosses_right (edge t e) p) (edge_numbers t) ≡ by_member t member p

-- the group's table is one that can be subdivided and asked
abbrev pub GroupTableStands : Type 0
GroupTableStands = (t : Table) → IsTable t → AllEnds t → AllEven t → NoConflict t → (member : ℕ → Bool)
    → IsTable (group_table t member) × AllEnds (group_table t member) × AllEven (group_table t member) × NoConflict (group_table t member)

-- its one feature covers a point on no edge of the layer exactly where a member of the group does
abbrev pub GroupTableCovers : Type 0
GroupTableCovers = (t : Table) → IsTable t → AllEnds t → AllEven t → NoConflict t → (member : ℕ → Bool) (p : Point) → IsBorderless t p
    → covers_by_marks (group_table t member) 0 p ≡ by_member t member p

-- its feature is above an edge exactly where the group covers the upper side of the layer's edge
abbrev pub GroupUpper : Type 0
GroupUpper = (t : Table) → IsTable t → AllEnds t → AllEven t → NoConflict t → (member : ℕ → Bool) (k : ℕ) → k < length (kept_edges t member)
    → is_over (group_table t member) k 0 ≡ covers_upper t member (get_or (kept_edges t member) k 0)

-- ---- along a face
-- feature f covers what lies to the left of half-edge h: above its edge where it goes up, below it where it goes back
abbrev pub left_covered : Table → ℕ → ℕ → Bool
left_covered t f h = if goes_up h then is_over t (edge_of h) f else exactly_one (is_over t (edge_of h) f) (has_odd t f (edge_of h))

-- feature f covers what lies above a floor
abbrev pub covered_over : Table → ℕ → Option ℕ → Bool
covered_over t f None = false
covered_over t f (Some e) = is_over t e f

-- to the left of a half-edge and of its next the same is covered
abbrev pub SameBehind : Type 0
SameBehind = (t : Table) → IsTable t → AllEnds t → AllEven t → NoConflict t → (f h next : ℕ) → h < half_edge_count t → IsNext t h next → left_covered t f h ≡ left_covered t f next

-- to the left of a cycle that hangs it is what is covered above the floor of its least corner: where the cycle comes down to that corner by an edge, and leaves up that edge or a higher one
abbrev pub HangsOverFloor : Type 0
HangsOverFloor = (t : Table) → IsTable t → AllEnds t → AllEven t → NoConflict t → (f h next : ℕ) → h < half_edge_count t → IsNext t h next → target t h ≤ origin t h → target t h ≤ target t next
    → IsTrue ((edge_of h == edge_of next) || lower_of t (edge_of h) (edge_of next)) → (floor : Option ℕ) → IsFloor t (corner t (target t h)) floor → left_covered t f h ≡ covered_over t f floor
