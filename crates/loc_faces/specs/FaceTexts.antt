-- The text of a face (this product's own). The words:
--   corner_text, joined, cycle_text  the corner that a half-edge leaves, in print; those of a cycle, from its leader on
--   cycle_line, face_text            a line for each cycle of a face, the outer one first
use Rattle.std.specs.Prelude.{ℕ, List, [], ◌∷◌, ◌++◌, codes, map}
use Rattle.std.specs.{Fmt.decimal, List.flat_map}
use Rattle.loc_spec_plane.specs.{Tables.Table, Tables.corner, HalfEdges.cycle, HalfEdges.origin}
use Rattle.loc_spec_text.specs.Points.{ended, position_text}
use Rattle.loc_faces.specs.Boundaries.{inner_leaders, outer_leaders}

-- the corner that a half-edge leaves
abbrev pub corner_text : ℕ → Table → ℕ → List ℕ
corner_text scale t h = position_text scale (corner t (origin t h))

-- texts with a comma and a space between them
abbrev pub joined : List (List ℕ) → List ℕ
joined [] = []
joined (text ∷ more) = text ++ flat_map (λ later. codes ", " ++ later) more

-- the corners of a cycle, one for each half-edge
abbrev pub cycle_text : ℕ → Table → (ℕ → ℕ) → ℕ → List ℕ
cycle_text scale t next h = joined (map (corner_text scale t) (cycle t next h))

-- the line of a cycle, behind its word
abbrev pub cycle_line : ℕ → Table → (ℕ → ℕ) → List ℕ → ℕ → List ℕ
cycle_line scale t next word h = ended (word ++ cycle_text scale t next h)

-- the number of a face, its outer cycle, and the cycles that hang in it by their leaders
abbrev pub face_text : ℕ → Table → (ℕ → ℕ) → (ℕ → ℕ) → ℕ → List ℕ
face_text scale t next face f = ended (codes "face " ++ decimal f)
    ++ (flat_map (cycle_line scale t next (codes "outer ")) (outer_leaders t next face f) ++ flat_map (cycle_line scale t next (codes "inner ")) (inner_leaders t next face f))
