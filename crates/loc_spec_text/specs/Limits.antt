-- The limits of the product: how much of each thing a text, a layer or a file may hold. The words:
--   most_text, most_line, most_index            bytes
--   most_features, most_points, most_id_bytes   what a layer may hold
--   most_pieces, most_members                   what is made of a layer
--   most_scale                                  decimals
use Rattle.std.specs.Prelude.{ℕ, ◌^◌}

-- the most bytes of a layer, of points, of spans and of an order text
abbrev pub most_text : ℕ
most_text = 2 ^ 28

-- the most bytes of a line of points or of spans
abbrev pub most_line : ℕ
most_line = 4096

-- the most bytes of an index file
abbrev pub most_index : ℕ
most_index = 2 ^ 31

-- the most features of a layer
abbrev pub most_features : ℕ
most_features = 2 ^ 18

-- the most ring points of a layer, and so the most corners of its rings
abbrev pub most_points : ℕ
most_points = 2 ^ 20

-- the most bytes of the id of a feature
abbrev pub most_id_bytes : ℕ
most_id_bytes = 200

-- the most pieces into which the segments of a layer are cut, and so the most edges
abbrev pub most_pieces : ℕ
most_pieces = 2 ^ 21

-- the most members of the distinct cover lists together
abbrev pub most_members : ℕ
most_members = 2 ^ 24

-- the most decimals of a coordinate
abbrev pub most_scale : ℕ
most_scale = 15
