-- The groups of a layer without their inner borders (this product's own; what a group covers is direct containment by its members). The words:
--   chosen_edges, chosen_corners, chosen_table  the edges that pass a test alone, their ends numbered anew, with one odd mark on each
--   covers_upper, covers_lower  a group covers the upper side and the lower side of an edge
--   is_kept, kept_edges, group_table  it covers exactly one of the two; the table of these edges
--   ring_from, leads_outer, leads_hanging_in, face_rings  the cycles of a face as rings, its outer cycle first
--   is_polygon, group_polygons  the faces that the group covers
--   closed_ring, closed_rings   rings with their first corner once more, as direct containment reads them
--   group_names, is_member      the distinct ids of a layer by their first features, and the features of one
--   Group, dissolved_group, dissolved  an id with the polygons of its features, and all of them
use Rattle.std.specs.Prelude.{ℕ, ◌*◌, Bool, true, not, ◌&&◌, List, [], ◌∷◌, ◌++◌, length, get_or, map, filter, nat_lt, ◌==◌}
use Rattle.std.specs.{List.list_any, List.flat_map, List.range_with_len, Str.bytes_eq}
use Rattle.loc_spec_plane.specs.{Points.Point, Rings.Ring, Rings.Rings, Lists.numbers, Lists.exactly_one, Lists.is_in}
use Rattle.loc_spec_plane.specs.Tables.{Table, corner, edge, edge_numbers, corner_numbers, has_odd, ends_at, number_of}
use Rattle.loc_spec_plane.specs.{Covers.cover_above, Covers.feature_count, Faces.hangs, Faces.leads_face}
use Rattle.loc_spec_plane.specs.HalfEdges.{half_edge_count, origin, cycle, leader}
use Rattle.loc_spec_text.specs.Bytes.{Text}

-- ---- the edges that pass a test, as a table of their own
module _ (t : Table) (keep : ℕ → Bool) where
  -- their numbers
  abbrev pub chosen_edges : List ℕ
  chosen_edges = filter keep (edge_numbers t)

  -- their ends, in order
  abbrev pub chosen_corners : List Point
  chosen_corners = map (corner t) (filter (λ c. list_any (λ e. keep e && ends_at t c e) (edge_numbers t)) (corner_numbers t))

  -- the edges, by the new numbers of their ends, with an odd mark of one feature on each; each is its own source
  unfoldable pub chosen_table : Table
  chosen_table = record {
    corners = chosen_corners;
    ends = map (λ e. (number_of chosen_corners (edge t e).lo, number_of chosen_corners (edge t e).hi)) chosen_edges;
    marks = map (λ e. record { feature = 0; odd = true } ∷ []) chosen_edges;
    sources = map (λ e. (number_of chosen_corners (edge t e).lo, number_of chosen_corners (edge t e).hi)) chosen_edges;
  }

-- ---- what a group covers beside an edge; the group is given by a test of features
module _ (t : Table) (member : ℕ → Bool) where
  -- the list above edge e names a member
  abbrev pub covers_upper : ℕ → Bool
  covers_upper e = list_any member (cover_above t e)

  -- a member is named by exactly one of that list and the odd marks of e
  abbrev pub covers_lower : ℕ → Bool
  covers_lower e = list_any (λ f. member f && exactly_one (is_in f (cover_above t e)) (has_odd t f e)) (numbers (feature_count t))

  -- the group covers exactly one side of e
  abbrev pub is_kept : ℕ → Bool
  is_kept e = exactly_one (covers_upper e) (covers_lower e)

  -- the edges of which it does
  abbrev pub kept_edges : List ℕ
  kept_edges = chosen_edges t is_kept

  -- the group's table
  abbrev pub group_table : Table
  group_table = chosen_table t is_kept

-- ---- the cycles of a face as rings; next gives the next of each half-edge, and face its face
module _ (t : Table) (next face : ℕ → ℕ) where
  -- the corners of the cycle of h, from h on
  abbrev pub ring_from : ℕ → Ring
  ring_from h = map (λ g. corner t (origin t g)) (cycle t next h)

  -- h leads the outer cycle of face f
  abbrev pub leads_outer : ℕ → ℕ → Bool
  leads_outer f h = leads_face t next h && (face h == f)

  -- h leads a cycle that hangs in face f
  abbrev pub leads_hanging_in : ℕ → ℕ → Bool
  leads_hanging_in f h = ((leader t next h == h) && hangs t next h) && (face h == f)

  -- the outer cycle of face f, and the cycles that hang in it by leader
  abbrev pub face_rings : ℕ → Rings
  face_rings f = map ring_from (filter (leads_outer f) (numbers (half_edge_count t)) ++ filter (leads_hanging_in f) (numbers (half_edge_count t)))

-- ---- the group's polygons; next and face are those of the group's table
module _ (t : Table) (member : ℕ → Bool) (next face : ℕ → ℕ) where
  -- face f lies above a kept edge whose upper side the group covers
  abbrev pub is_polygon : ℕ → Bool
  is_polygon f = list_any (λ k. (face (2 * k) == f) && covers_upper t member (get_or (kept_edges t member) k 0)) (numbers (length (kept_edges t member)))

  -- the faces from 1 on that do, in order
  abbrev pub group_polygons : List Rings
  group_polygons = map (face_rings (group_table t member) next face) (filter is_polygon (range_with_len 1 (length (filter (leads_face (group_table t member) next) (numbers (half_edge_count (group_table t member)))))))

-- a ring with its first corner once more
abbrev pub closed_ring : Ring → Ring
closed_ring [] = []
closed_ring (p ∷ ps) = (p ∷ ps) ++ p ∷ []

-- all rings of some polygons, closed
abbrev pub closed_rings : List Rings → Rings
closed_rings polygons = flat_map (map closed_ring) polygons

-- ---- the groups of a layer: features with one id
-- each id once, in the order of first features
abbrev pub group_names : List Text → List Text
group_names [] = []
group_names (id ∷ ids) = id ∷ filter (λ other. not (bytes_eq other id)) (group_names ids)

-- feature f has the id
abbrev pub is_member : List Text → Text → ℕ → Bool
is_member ids id f = nat_lt f (length ids) && bytes_eq (get_or ids f []) id

-- an id, and polygons as rings of points without the closing one
pub record Group : Type 0 where
  pub id : Text
  pub polygons : List Rings

-- The layer's table and the ids of its features give the groups. The next and the face of each half-edge of a table are given by functions of tables.
module _ (next face : Table → ℕ → ℕ) (t : Table) (ids : List Text) where
  -- the group of an id
  abbrev pub dissolved_group : Text → Group
  dissolved_group id = record { id = id; polygons = group_polygons t (is_member ids id) (next (group_table t (is_member ids id))) (face (group_table t (is_member ids id))) }

  -- all groups
  abbrev pub dissolved : List Group
  dissolved = map dissolved_group (group_names ids)
