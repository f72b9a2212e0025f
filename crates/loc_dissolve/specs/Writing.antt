-- The parts of a written layer. The word: `closed_text`.
use Rattle.std.specs.Prelude.{ℕ, [], ◌∷◌, ◌++◌, codes}
use Rattle.std.specs.List.{flat_map}
use Rattle.loc_spec_plane.specs.Rings.{Ring}
use Rattle.loc_spec_text.specs.{Bytes.Text, Points.position_text}

-- the corners of a ring, each with a comma and a space behind it, and the first once more
abbrev pub closed_text : ℕ → Ring → Text
closed_text scale [] = []
closed_text scale (p ∷ ps) = flat_map (λ q. position_text scale q ++ codes ", ") (p ∷ ps) ++ position_text scale p
