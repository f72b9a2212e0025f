-- What is noted of each cycle at its leader. The words:
--   AreLeast            the least corner of each cycle
--   passes_low          a cycle passes its least corner as one that hangs does
--   AreHanging          whether each cycle hangs
--   face_by             the face of a half-edge, noted at its leader
--   AreNumbered         the outer cycles so far are numbered
use Rattle.std.specs.Prelude.{◌≡◌, ℕ, suc, ◌<◌, ◌≤◌, Bool, true, false, ◌&&◌, ◌||◌, List, length, get_or, filter, count_by, ◌==◌}
use Rattle.loc_spec_plane.specs.{Lists.numbers, Tables.Table, Places.lower_of}
use Rattle.loc_spec_plane.specs.HalfEdges.{half_edge_count, edge_of, target}
use Rattle.loc_spec_plane.specs.Faces.{hangs, leads_face, least_corner}
use Rattle.loc_half.specs.HalfEdgeLists.{HalfEdgeLists, leader_in, next_in}

-- the least corner of each cycle
pub record AreLeast (t : Table) (half : HalfEdgeLists) (least : List ℕ) : Type 0 where
  pub as_many : length least ≡ half_edge_count t
  pub are : (h : ℕ) → h < half_edge_count t → get_or least (leader_in half h) 0 ≡ least_corner t (next_in half) h

-- h arrives at the least corner of its cycle, and its next leaves by its edge or a higher one
abbrev pub passes_low : Table → HalfEdgeLists → List ℕ → ℕ → Bool
passes_low t half least h = (target t h == get_or least (leader_in half h) 0) && ((edge_of h == edge_of (next_in half h)) || lower_of t (edge_of h) (edge_of (next_in half h)))

-- whether each cycle hangs
pub record AreHanging (t : Table) (half : HalfEdgeLists) (hanging : List Bool) : Type 0 where
  pub as_many : length hanging ≡ half_edge_count t
  pub are : (h : ℕ) → h < half_edge_count t → get_or hanging (leader_in half h) false ≡ hangs t (next_in half) h

-- the face of the cycle of a half-edge
abbrev pub face_by : HalfEdgeLists → List ℕ → ℕ → ℕ
face_by half of_cycle h = get_or of_cycle (leader_in half h) 0

-- of the half-edges below n, those that lead an outer cycle are listed, and are numbered from 1 on
pub record AreNumbered (t : Table) (half : HalfEdgeLists) (outers of_cycle : List ℕ) (n : ℕ) : Type 0 where
  pub as_many : length of_cycle ≡ half_edge_count t
  pub listed : outers ≡ filter (leads_face t (next_in half)) (numbers n)
  pub numbered : (h : ℕ) → h < n → leads_face t (next_in half) h ≡ true → get_or of_cycle h 0 ≡ suc (count_by (leads_face t (next_in half)) (numbers h))
  pub within : (h : ℕ) → get_or of_cycle h 0 ≤ length outers
