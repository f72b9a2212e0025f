use Rattle.std.proofs.Common.{◌≡◌, ℕ, ◌<◌, false}
use Rattle.loc_spec_valid.specs.Breaches.{is_parted}
use Rattle.loc_faces.specs.Subdivision.{face_at, next_at}
use Rattle.loc_valid.proofs.polygons.first_parted.Given as goal

abbrev pub invariant-loop-n : goal.invariant-loop-n
invariant-loop-n l = (k : ℕ) → k < l.n → is_parted next_at face_at l.feature.polygons k ≡ false
