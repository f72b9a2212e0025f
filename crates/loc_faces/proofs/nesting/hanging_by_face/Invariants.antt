use Rattle.std.proofs.Common.{◌≡◌, get_or, map, filter}
use Rattle.loc_spec_plane.specs.Lists.{numbers}
use Rattle.loc_half.specs.HalfEdgeLists.{next_in}
use Rattle.loc_faces.specs.Boundaries.{leads_hanging}
use Rattle.loc_faces.proofs.nesting.hanging_by_face.Given as goal

-- the leaders of hanging cycles before stand there
abbrev pub invariant-loop-h : goal.invariant-loop-h
invariant-loop-h l = l.keyed.items ≡ map (λ h. (get_or l.faces h 0, h)) (filter (leads_hanging l.table (next_in l.half)) (numbers l.h))
