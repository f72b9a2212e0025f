-- The course of the judgement of a layer's features. The words:
--   crossings, said_of, breaches_of  the pairs of edges that cross; what may be said of a feature: of crossings any, else the first breach
--   is_uncrossed, has_many_pieces_of, has_many_covers_of, refusal_of, first_refusal, IsRefusedBy  why a feature is not judged, and the first of a layer that is not
--   AreLines, are_lines              a text has a line for each feature, in order
--   judged_course, valid_course  the features of a layer are judged, and those of a file
use Rattle.std.specs.Prelude.{◌≡◌, ℕ, ◌+◌, Bool, true, false, ◌&&◌, List, [], ◌∷◌, ◌++◌, length, map, filter, find, take, drop, nat_lt, Option, Some, None, ⊤, if◌then◌else◌}
use Rattle.std.specs.{List.flat_map, List.list_any, Option.is_none, Str.bytes_eq}
use Rattle.loc_spec_plane.specs.{Covers.cover_sum, Rings.Rings}
use Rattle.loc_spec_plane.specs.Tables.{corner_numbers, edge, edge_numbers, piece_count}
use Rattle.loc_spec_text.specs.{Bytes.Text, Bytes.or_else, Points.ended, Limits.most_members, Limits.most_pieces}
use Rattle.loc_spec_valid.specs.Breaches.{Breach, IsBreachOf, crossing, feature_rings, first_pair, first_point_ring, is_crossing, is_pinch, is_twice, later_breach, point_ring, ring_numbers, ring_table}
use Rattle.loc_spec_valid.specs.BreachTexts.{breach_line}
use Rattle.loc_rings.specs.Values.{Feature}
use Rattle.loc_faces.specs.Subdivision.{face_at, next_at}
use Rattle.loc_course.specs.Courses.{Course, Stopped, no_memory, refused, refuses, unread, unwritten, writes}
use Rattle.loc_course.specs.Outcomes.{exactly}
use Rattle.loc_maps.specs.{LineTexts.covers_text, LineTexts.pieces_text, MapCourses.LayerFile, MapCourses.read_course}

-- ---- what may be said of a feature
-- the pairs of edges that cross
abbrev pub crossings : List Rings → List Breach
crossings polygons = flat_map (λ a. map (λ b. crossing (edge (ring_table polygons) a) (edge (ring_table polygons) b)) (filter (is_crossing (ring_table polygons) a) (edge_numbers (ring_table polygons)))) (edge_numbers (ring_table polygons))

-- the first ring that is a point, or any of the crossings, or the first of the later breaches
abbrev pub said_of : Option ℕ → List Breach → Option Breach → List (Option Breach)
said_of (Some r) crossed later = Some (point_ring (r + 1)) ∷ []
said_of None [] later = later ∷ []
said_of None (c ∷ crossed) later = map Some (c ∷ crossed)

abbrev pub breaches_of : List Rings → List (Option Breach)
breaches_of polygons = said_of (first_point_ring polygons) (crossings polygons) (later_breach next_at face_at polygons (ring_table polygons))

-- ---- why a feature is not judged
abbrev pub is_empty : {A : Type 0} → List A → Bool
is_empty [] = true
is_empty (x ∷ xs) = false

-- no ring is a point, and the pieces of the rings are past the limit
abbrev pub has_many_pieces_of : List Rings → Bool
has_many_pieces_of polygons = is_none (first_point_ring polygons) && nat_lt most_pieces (piece_count (map (λ ring. ring ∷ []) (feature_rings polygons)))

-- none of the first four breaches applies
abbrev pub is_unpinched : List Rings → Bool
is_unpinched polygons = (is_none (first_point_ring polygons) && is_empty (crossings polygons))
    && (is_none (find (is_twice polygons (ring_table polygons)) (edge_numbers (ring_table polygons))) && is_none (first_pair (is_pinch polygons (ring_table polygons)) (ring_numbers polygons) (corner_numbers (ring_table polygons))))

-- and the distinct cover lists of the rings are past the limit together
abbrev pub has_many_covers_of : List Rings → Bool
has_many_covers_of polygons = is_unpinched polygons && nat_lt most_members (cover_sum (ring_table polygons))

-- the line that refuses a feature, if one does
unfoldable pub refusal_of : List Rings → Option Text
refusal_of polygons = if has_many_pieces_of polygons then Some pieces_text else if has_many_covers_of polygons then Some covers_text else None

-- that of the first feature that is refused
abbrev pub first_refusal : List Feature → Option Text
first_refusal [] = None
first_refusal (f ∷ fs) = or_else (refusal_of f.polygons) (first_refusal fs)

-- a feature is refused by its line; memory may be wanting, whatever the feature
abbrev pub IsRefusedBy : Option Text → Stopped → Type 0
IsRefusedBy refusal no_memory = ⊤
IsRefusedBy refusal (refused line) = (text : Text) × (refusal ≡ Some text) × (line ≡ ended text)
IsRefusedBy refusal unread = ⊥
IsRefusedBy refusal unwritten = ⊥

-- ---- the lines
-- a line for each feature, in order, that says a first breach, or that it is valid
abbrev pub AreLines : ℕ → List Feature → Text → Type 0
AreLines scale [] text = text ≡ []
AreLines scale (f ∷ fs) text = (breach : Option Breach) × IsBreachOf next_at face_at f.polygons breach × ((rest : Text) × (text ≡ breach_line scale f.id breach ++ rest) × AreLines scale fs rest)

-- the text goes on behind this line, by this test
abbrev pub goes_on : Text → (Text → Bool) → Text → Bool
goes_on line rest text = bytes_eq (take (length line) text) line && rest (drop (length line) text)

-- the same as a test
abbrev pub are_lines : ℕ → List Feature → Text → Bool
are_lines scale [] text = bytes_eq text []
are_lines scale (f ∷ fs) text = list_any (λ breach. goes_on (breach_line scale f.id breach) (are_lines scale fs) text) (breaches_of f.polygons)

-- ---- the courses
-- refused by this line, if there is one
abbrev pub refused_or : Option Text → Course → Course
refused_or None next = next
refused_or (Some line) next = refuses (exactly (ended line))

-- the lines of the features are written, unless one is refused
abbrev pub judged_course : ℕ → List Feature → Course
judged_course scale layer = refused_or (first_refusal layer) (writes (are_lines scale layer))

-- a layer's file is read, and its features are judged
abbrev pub valid_course : LayerFile → Course
valid_course file = read_course file (judged_course file.scale)
