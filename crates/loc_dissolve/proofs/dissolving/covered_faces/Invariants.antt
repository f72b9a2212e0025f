use Rattle.std.proofs.Common.{◌≡◌, ◌*◌, ◌&&◌, ℕ, false, get_or, length}
use Rattle.std.specs.Prelude.{◌==◌}
use Rattle.std.specs.List.{list_any}
use Rattle.loc_spec_plane.specs.Lists.{numbers}
use Rattle.loc_faces.specs.FaceLists.{face_in}
use Rattle.loc_spec_groups.specs.Groups.{covers_upper}
use Rattle.loc_dissolve.specs.Grouping.{in_group}
use Rattle.loc_dissolve.proofs.dissolving.covered_faces.Given as goal

-- the faces of the edges before are marked where they are covered
abbrev pub invariant-loop-n : goal.invariant-loop-n
invariant-loop-n l = record {
  as_many : length l.covered.items ≡ l.faces.count;
  each : (f : ℕ) → get_or l.covered.items f false ≡ list_any (λ k. (face_in l.faces (2 * k) == f) && covers_upper l.table (in_group l.groups l.group) (get_or l.kept k 0)) (numbers l.n);
}
