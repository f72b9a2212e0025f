use Rattle.std.proofs.Common.{◌≡◌, ℕ, ◌*◌, ◌<◌, false, ◌&&◌, length, get_or}
use Rattle.std.specs.Prelude.{◌==◌}
use Rattle.std.specs.List.{list_any}
use Rattle.loc_spec_plane.specs.{Lists.is_in, Lists.numbers, Covers.cover_above}
use Rattle.loc_faces.specs.FaceLists.{face_in}
use Rattle.loc_valid.proofs.parts.covered_faces.Given as goal

abbrev pub invariant-loop-edge : goal.invariant-loop-edge
invariant-loop-edge l = (length l.covered.items ≡ l.faces.count) × ((f : ℕ) → f < l.faces.count → get_or l.covered.items f false ≡ list_any (λ e. (face_in l.faces (2 * e) == f) && is_in 0 (cover_above l.table e)) (numbers l.edge))
