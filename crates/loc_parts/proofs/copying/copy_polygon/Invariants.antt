use Rattle.std.proofs.Common.{◌≡◌, ◌++◌, ◌∷◌, [], take, slice_range}
use Rattle.loc_spec_text.specs.Reading.{all_rings}
use Rattle.loc_parts.proofs.copying.copy_polygon.Given as goal

-- the polygons before, and the rings so far
abbrev pub invariant-loop-k : goal.invariant-loop-k
invariant-loop-k l = l.copy ≡ take l.n l.rings ++ slice_range (all_rings l.rings) l.first l.k ∷ []
