-- The faces of a table, as lists. The words:
--   FaceLists, face_in  how many faces there are, the face of each half-edge, and the leaders of outer and of hanging cycles
--   AreFaces, FitsTable  they are those of a table
use Rattle.std.specs.Prelude.{◌≡◌, ℕ, ◌<◌, List, length, get_or, filter, map}
use Rattle.loc_spec_plane.specs.{Lists.numbers, Tables.Table, HalfEdges.half_edge_count, HalfEdges.leader}
use Rattle.loc_spec_plane.specs.Faces.{face_count, leads_face, IsFaces}
use Rattle.loc_half.specs.HalfEdgeLists.{HalfEdgeLists, AreHalfEdges, next_in}
use Rattle.loc_faces.specs.Boundaries.{inner_leaders}

-- the count of faces, the face of each half-edge, the leaders of the outer cycles from face 1 on, and for each face those of the cycles that hang in it
pub record FaceLists : Type 0 where
  pub count : ℕ
  pub of_half : List ℕ
  pub outers : List ℕ
  pub inner : List (List ℕ)

-- the face of a half-edge
abbrev pub face_in : FaceLists → ℕ → ℕ
face_in faces h = get_or faces.of_half h 0

-- the faces are those of a table with these nexts; the half-edges of a cycle have one face
pub record AreFaces (t : Table) (next : ℕ → ℕ) (lists : FaceLists) : Type 0 where
  pub count : lists.count ≡ face_count t next
  pub as_many : length lists.of_half ≡ half_edge_count t
  pub faces : IsFaces t next (face_in lists)
  pub within : (h : ℕ) → face_in lists h < lists.count
  pub one_each : (h : ℕ) → h < half_edge_count t → face_in lists h ≡ face_in lists (leader t next h)
  pub outers : lists.outers ≡ filter (leads_face t next) (numbers (half_edge_count t))
  pub inner : lists.inner ≡ map (inner_leaders t next (face_in lists)) (numbers lists.count)

-- the faces are those of the table, by its half-edges
pub record FitsTable (t : Table) (lists : FaceLists) : Type 0 where
  pub half : HalfEdgeLists
  pub halves : AreHalfEdges t half
  pub faces : AreFaces t (next_in half) lists
