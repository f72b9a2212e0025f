use Rattle.std.proofs.Common.{◌≡◌, ℕ, ◌<◌, [], length, get_or}
use Rattle.std.specs.Prelude.{nat_lt}
use Rattle.loc_spec_plane.specs.{Lists.IsRisingListOf, Covers.has_at}
use Rattle.loc_cover.proofs.touching.touching_corners.Given as goal

-- the corners before have their rows
abbrev pub invariant-loop-corner : goal.invariant-loop-corner
invariant-loop-corner l = record {
  as_many : length l.rows ≡ l.corner;
  each : (c : ℕ) → c < l.corner → IsRisingListOf nat_lt (has_at l.table c) (get_or l.rows c []);
}
