-- The line of a feature: its id, and what breaks the rules first (this product's own). The words:
--   edge_text, breach_text, breach_line  an edge, a breach and the line in print
use Rattle.std.specs.Prelude.{ℕ, ◌++◌, Option, Some, None, codes}
use Rattle.std.specs.{Fmt.decimal, List.flat_map}
use Rattle.loc_spec_plane.specs.Points.{Edge}
use Rattle.loc_spec_text.specs.{Bytes.Text, Points.ended, Points.position_text, Points.quoted_byte}
use Rattle.loc_spec_valid.specs.Breaches.{Breach, point_ring, crossing, twice, pinch, outside, nested, parts, overlap}

-- the two ends of an edge
abbrev pub edge_text : ℕ → Edge → Text
edge_text scale e = position_text scale e.lo ++ codes ", " ++ position_text scale e.hi

-- what is said of a breach
abbrev pub breach_text : ℕ → Option Breach → Text
breach_text scale None = codes "valid"
breach_text scale (Some (point_ring r)) = codes "ring " ++ decimal r ++ codes " is a point"
breach_text scale (Some (crossing a b)) = codes "edges " ++ edge_text scale a ++ codes " and " ++ edge_text scale b ++ codes " cross"
breach_text scale (Some (twice e)) = codes "edge " ++ edge_text scale e ++ codes " twice"
breach_text scale (Some (pinch r p)) = codes "ring " ++ decimal r ++ codes " twice at " ++ position_text scale p
breach_text scale (Some (outside r)) = codes "ring " ++ decimal r ++ codes " outside"
breach_text scale (Some (nested r q)) = codes "ring " ++ decimal r ++ codes " in ring " ++ decimal q
breach_text scale (Some (parts n count)) = codes "polygon " ++ decimal n ++ codes " in " ++ decimal count ++ codes " parts"
breach_text scale (Some (overlap n m)) = codes "polygon " ++ decimal n ++ codes " in polygon " ++ decimal m

-- the id in double quotes, each inner one doubled, a space, and what is said
abbrev pub breach_line : ℕ → Text → Option Breach → Text
breach_line scale id breach = ended (codes "\"" ++ flat_map quoted_byte id ++ codes "\" " ++ breach_text scale breach)
