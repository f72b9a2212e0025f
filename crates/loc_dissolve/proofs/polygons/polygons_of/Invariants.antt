use Rattle.std.proofs.Common.{◌≡◌, ◌≤◌, ◌-◌, false, filter, get_or, map}
use Rattle.std.specs.List.{range_with_len}
use Rattle.loc_half.specs.HalfEdgeLists.{next_in}
use Rattle.loc_faces.specs.FaceLists.{face_in}
use Rattle.loc_spec_groups.specs.Groups.{face_rings}
use Rattle.loc_dissolve.proofs.polygons.polygons_of.Given as goal

-- the polygons of the faces before stand there
abbrev pub invariant-loop-number : goal.invariant-loop-number
invariant-loop-number l = record {
  from : 1 ≤ l.number;
  made : l.polygons.items ≡ map (face_rings l.table (next_in l.half) (face_in l.faces)) (filter (λ f. get_or l.covered f false) (range_with_len 1 (l.number - 1)));
}
