-- The bytes of the rows of a file, by the fields of the format. A bound or an order takes no bytes, so it does not matter which stands here.
-- The words: header_bytes, id_bytes, corner_bytes, edge_bytes, mark_bytes, cover_bytes, number_bytes and node_bytes, each of such a row.
use Rattle.std.specs.Prelude.{ℕ, List, [], ◌∷◌, codes}
use Rattle.std.specs.Int.{w32}
use Rattle.loc_spec_plane.specs.{declared.Mark.Mark, Points.Point}
use Rattle.loc_spec_index.specs.{declared.NodeRow.NodeRow, Content.EdgeRow}
use Rattle.loc_spec_index.specs.IndexFile.{magic, version, number, spelled_all, id_fields, corner_fields, edge_fields, mark_fields, cover_fields, node_fields}

-- a header of the second version
abbrev pub header_bytes : (scale features corners edges marks covers nodes : ℕ) → List ℕ
header_bytes scale features corners edges marks covers nodes =
    spelled_all (magic (codes "LOCINDEX") ∷ version 2 ∷ number w32 0 scale ∷ number w32 0 features ∷ number w32 0 corners ∷ number w32 0 edges ∷ number w32 0 marks ∷ number w32 0 covers ∷ number w32 0 nodes ∷ [])

-- an id
abbrev pub id_bytes : List ℕ → List ℕ
id_bytes id = spelled_all (id_fields id)

-- a corner
abbrev pub corner_bytes : Point → List ℕ
corner_bytes p = spelled_all (corner_fields [] p)

-- an edge of the second version
abbrev pub edge_bytes : EdgeRow → List ℕ
edge_bytes e = spelled_all (edge_fields 2 0 0 [] e)

-- a mark
abbrev pub mark_bytes : ℕ × Mark → List ℕ
mark_bytes m = spelled_all (mark_fields 0 0 [] m)

-- a cover list
abbrev pub cover_bytes : List ℕ → List ℕ
cover_bytes list = spelled_all (cover_fields 0 [] list)

-- a number by itself, as a floor, a root or a member of a cover list
abbrev pub number_bytes : ℕ → List ℕ
number_bytes n = spelled_all (number w32 0 n ∷ [])

-- a node
abbrev pub node_bytes : NodeRow → List ℕ
node_bytes n = spelled_all (node_fields 0 0 0 n)
