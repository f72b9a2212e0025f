-- The cycles that bound a face. The words:
--   leads_hanging                   a half-edge leads a cycle that hangs
--   outer_leaders, inner_leaders    the leaders of the outer cycle of a face, and of the cycles that hang in it
--   boundary                        the half-edges of all these cycles
use Rattle.std.specs.Prelude.{ℕ, Bool, ◌&&◌, List, ◌++◌, filter, ◌==◌}
use Rattle.std.specs.List.{flat_map}
use Rattle.loc_spec_plane.specs.{Lists.numbers, Tables.Table}
use Rattle.loc_spec_plane.specs.HalfEdges.{half_edge_count, cycle, leader}
use Rattle.loc_spec_plane.specs.Faces.{hangs, leads_face}

-- h leads a cycle that hangs
abbrev pub leads_hanging : Table → (ℕ → ℕ) → ℕ → Bool
leads_hanging t next h = (leader t next h == h) && hangs t next h

-- the leader of the outer cycle of a face; face 0 has none
abbrev pub outer_leaders : Table → (ℕ → ℕ) → (ℕ → ℕ) → ℕ → List ℕ
outer_leaders t next face f = filter (λ h. leads_face t next h && (face h == f)) (numbers (half_edge_count t))

-- the leaders of the cycles that hang in a face, in order
abbrev pub inner_leaders : Table → (ℕ → ℕ) → (ℕ → ℕ) → ℕ → List ℕ
inner_leaders t next face f = filter (λ h. leads_hanging t next h && (face h == f)) (numbers (half_edge_count t))

-- the half-edges that stand in the lines of a face, in their order
abbrev pub boundary : Table → (ℕ → ℕ) → (ℕ → ℕ) → ℕ → List ℕ
boundary t next face f = flat_map (cycle t next) (outer_leaders t next face f ++ inner_leaders t next face f)
